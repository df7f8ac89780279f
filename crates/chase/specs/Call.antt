-- What the search for the nearest codeword answers in document 01's modem: as the family has it, of the struct.
--
--   scope64                            GF(16) with w = 4; the known rates, of which 52 is the longest; and the largest doubt, 12
--   Asked rate costs doubtful doubt    a known rate, 1,024 costs, at most 12 doubtful places, different and below 64, and no more blank places than
--                                      the rate allows
--   well_formed rate costs doubtful doubt   the test of all of it but the blank places
--   OpenFor rate costs doubtful doubt counts o   it may be asked, and o has its rate and these flags of the places that count
--   nearest_of rate costs doubtful doubt   what the test words of the costs and the doubtful places find, where it may be asked for, and
--                                      nothing where not
--   NearestCall rate costs doubtful doubt f   what f says of the near codewords by it: document 01's result, and the answer's codeword
use Rattle.std.specs.Prelude.{Bool, true, ◌≡◌, List, ℕ, ◌≤◌, take}
use Rattle.std.proofs.Math.Option.{some}
use Rattle.code.specs.Encoding.{encode_of, most_rate, known_rate}
use Rattle.soft.specs.Column.{places, symbols, column_of}
use Rattle.soft.specs.Doubt.{most_doubt}
use Rattle.soft.specs.TestWord.{test_words}
use Rattle.family.specs.Member.{m16}
use Rattle.near.specs.Here.{Workable}
use Rattle.search.specs.Call.{Scope}
use Rattle.search.specs.Call as Family
use Rattle.candidate.specs.Ranged.{known-range, workable}
use Rattle.candidate.specs.OpenFlags.{OpenFlags}
use Rattle.candidate.specs.declared.open.Open.{Open}
use Rattle.answers.specs.declared.Finding.{Finding}
use Rattle.answers.specs.Result.{finding_of, total_is, nothing_found}
use Rattle.answers.specs.Nearest.{Nearest}

pub known-workable : (k : ℕ) → known_rate k ≡ true → Workable k
known-workable k e = workable (known-range k e)

pub known-short : (k : ℕ) → known_rate k ≡ true → k ≤ most_rate
known-short k e = (known-range k e).most

abbrev pub scope64 : Scope
scope64 = record { member = m16; known = known_rate; workable = known-workable; longest = most_rate; bounded = known-short; most_doubt = most_doubt }

abbrev pub Asked : ℕ → List ℕ → List ℕ → ℕ → Type 0
Asked rate costs doubtful doubt = Family.Asked scope64 rate costs doubtful doubt

pub record OpenFor (rate : ℕ) (costs doubtful : List ℕ) (doubt : ℕ) (counts : List ℕ) (o : Open) : Type 0 where
  pub asked : Asked o.rate.k costs doubtful doubt
  pub rate_is : o.rate.k ≡ rate
  pub counts_are : o.counts ≡ counts
  pub flagged : OpenFlags o.rate.k (column_of symbols costs) o.counts o.blanks

abbrev pub well_formed : ℕ → List ℕ → List ℕ → ℕ → Bool
well_formed rate costs doubtful doubt = Family.well_formed scope64 rate costs doubtful doubt

abbrev pub nearest_of : ℕ → List ℕ → List ℕ → ℕ → Finding
nearest_of rate costs doubtful doubt = finding_of (Family.nearest_of scope64 rate costs doubtful doubt)

pub record NearestCall (rate : ℕ) (costs doubtful : List ℕ) (doubt : ℕ) (f : Finding) : Type 0 where
  pub asked : Asked rate costs doubtful doubt
      → Nearest rate (column_of symbols costs) (test_words places (column_of symbols costs) (take doubt doubtful)) f
  pub refused : ¬ Asked rate costs doubtful doubt → f ≡ nothing_found
  pub encoded : (t : ℕ) → total_is f.answer ≡ some t → f.codeword ≡ encode_of rate (take rate f.message)
