-- What the search for the nearest codeword answers, for every modem of the family.
--
--   Scope                              what a search has to know of its modem: its member of the family; the known rates, each of which can be worked with,
--                                      and the longest; and the largest doubt
--   Asked rate costs doubtful doubt    a known rate, as many costs as columns of all places have, no more doubtful places than the largest doubt, different
--                                      places all of them, and no more blank places than the rate allows
--   well_formed rate costs doubtful doubt   the test of all of it but the blank places
--   asked_of rate costs doubtful doubt  the test of Asked
--   tests_of costs doubtful doubt       the test words of the costs and the doubtful places
--   nearest_of rate costs doubtful doubt   what these find, where it may be asked for, and nothing where not
--   NearestCall rate costs doubtful doubt f   what f says of the near codewords by it: document 01's result, and the answer's codeword
use Rattle.std.specs.Prelude.{Bool, true, cond, ◌&&◌, ◌≡◌, List, ℕ, ◌*◌, ◌≤◌, eqb, leb, length, take}
use Rattle.std.proofs.Math.Option.{some}
use Rattle.soft.specs.Column.{column_of}
use Rattle.soft.specs.TestWord.{test_words}
use Rattle.family.specs.Member.{Member, places, symbols}
use Rattle.family.specs.Encoding.{encode_of}
use Rattle.near.specs.Near.{blank_limit}
use Rattle.near.specs.Reach.{Workable}
use Rattle.near.specs.Tree.{Places}
use Rattle.near.specs.Flags.{are_places}
use Rattle.search.specs.Open.{blanks_in}
use Rattle.search.specs.Result.{Finding, total_is, nothing_found, found_of}
use Rattle.search.specs.Nearest.{Nearest}

pub record Scope : Type 0 where
  pub member : Member
  pub known : ℕ → Bool
  pub workable : (k : ℕ) → known k ≡ true → Workable member k
  pub longest : ℕ
  pub bounded : (k : ℕ) → known k ≡ true → k ≤ longest
  pub most_doubt : ℕ

module _ (𝓢 : Scope) where
  open 𝓢 use {member, longest, most_doubt}

  abbrev pub columns_of : List ℕ → ℕ → List ℕ
  columns_of costs = column_of (symbols member) costs

  abbrev pub tests_of : List ℕ → List ℕ → ℕ → List (List ℕ)
  tests_of costs doubtful doubt = test_words (places member) (columns_of costs) (take doubt doubtful)

  pub record Asked (rate : ℕ) (costs doubtful : List ℕ) (doubt : ℕ) : Type 0 where
    pub known : 𝓢.known rate ≡ true
    pub size : length costs ≡ places member * symbols member
    pub few : doubt ≤ most_doubt
    pub fit : Places (places member) (take doubt doubtful)
    pub few_blank : blanks_in member (columns_of costs) ≤ blank_limit member rate

  unfoldable pub well_formed : ℕ → List ℕ → List ℕ → ℕ → Bool
  well_formed rate costs doubtful doubt =
      𝓢.known rate && (eqb (length costs) (places member * symbols member) && (leb doubt most_doubt && are_places (places member) (take doubt doubtful)))

  unfoldable pub asked_of : ℕ → List ℕ → List ℕ → ℕ → Bool
  asked_of rate costs doubtful doubt = well_formed rate costs doubtful doubt && leb (blanks_in member (columns_of costs)) (blank_limit member rate)

  unfoldable pub nearest_of : ℕ → List ℕ → List ℕ → ℕ → Finding
  nearest_of rate costs doubtful doubt =
      cond (asked_of rate costs doubtful doubt) (found_of member longest rate (columns_of costs) (tests_of costs doubtful doubt)) (nothing_found member longest)

  pub record NearestCall (rate : ℕ) (costs doubtful : List ℕ) (doubt : ℕ) (f : Finding) : Type 0 where
    pub asked : Asked rate costs doubtful doubt → Nearest member rate (columns_of costs) (tests_of costs doubtful doubt) f
    pub refused : ¬ Asked rate costs doubtful doubt → f ≡ nothing_found member longest
    pub encoded : (t : ℕ) → total_is f.answer ≡ some t → f.codeword ≡ encode_of member rate (take rate f.message)
