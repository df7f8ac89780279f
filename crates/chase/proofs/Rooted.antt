-- What is told of the root of the tree, by the doubled places as a part of an array.
--
--   rooted         by the tree, where the rows store a basis through the settled places
--   rooted-known   by a codeword that is known and governs the root
use Rattle.std.specs.Prelude.{Bool, true, ◌≡◌, List, ℕ, ◌-◌, length, take, drop}
use Rattle.std.proofs.Math.Path.{sym}
use Rattle.std.proofs.Common.{ap, ◌∙◌, subst₂, arith}
use Rattle.soft.specs.Blank.{flag_at, unblanked}
use Rattle.soft.specs.Column.{places, symbols, column_of}
use Rattle.soft.specs.TestWord.{best_word}
use Rattle.values.specs.Settled.{settled}
use Rattle.interpolation.specs.Extending.{Stored}
use Rattle.basis.specs.Choice.{lead_at}
use Rattle.basis.specs.Step.{row_values}
use Rattle.near.specs.Here.{m_of, limit_of, Places}
use Rattle.answers.specs.declared.Finding.{Finding}
use Rattle.answers.specs.Result.{fields_of, finding_of}
use Rattle.answers.specs.Answered.{Sound, told_of}
use Rattle.candidate.specs.declared.open.Open.{Open}
use Rattle.doubt.specs.declared.Picked.{Picked}
use Rattle.doubt.specs.Picked.{PickedOf}
use Rattle.known.specs.Known.{governs_of, WithinOf, answer_here}
use Rattle.tree.specs.Searching.{SearchOf}
use Rattle.search.specs.Doubling.{doubled-take}
use Rattle.search.specs.Root as Root
use Rattle.chase.specs.Places.{Flagged}
use Rattle.chase.specs.Call.{scope64, OpenFor, nearest_of}

all-left : (n : ℕ) (l : List ℕ) → l ≡ drop (n - n) l
all-left n l = let z : 0 ≡ n - n = omega arith in ap (λ m. drop m l) z

module _ {rate : ℕ} {costs doubtful : List ℕ} {doubt : ℕ} {counts : List ℕ} {o : Open} (asked : OpenFor rate costs doubtful doubt counts o)
    {word : List ℕ} (word-is : word ≡ best_word places (column_of symbols costs))
    {doubled : Picked} (picked : PickedOf (unblanked (flag_at o.counts) (take doubt doubtful)) doubled) where
  abbrev columns : ℕ → List ℕ
  columns = column_of symbols costs

  abbrev ps : List ℕ
  ps = take doubled.count doubled.places

  so-many : length ps ≡ doubled.count
  so-many = ap length (doubled-take (flag_at o.counts) doubtful asked.asked.few picked.places picked.count) ∙ sym picked.count

  at-rate : (f : Finding) → told_of f ≡ nearest_of o.rate.k costs doubtful doubt → told_of f ≡ nearest_of rate costs doubtful doubt
  at-rate f e = e ∙ ap (λ k. nearest_of k costs doubtful doubt) asked.rate_is

  pub rooted : (f : Finding) (flags : List ℕ) (rows : List (List ℕ)) (leads : List ℕ) (m limit : ℕ) → (Places ps → Flagged (flag_at o.counts) ps flags)
      → m ≡ m_of o.rate.k → limit ≡ limit_of o.rate.k o.blanks → Stored m word limit (settled word flags places) rows leads
      → SearchOf o.rate.k columns word ps rows leads (length ps) f → Sound o.rate.k columns f → told_of f ≡ nearest_of rate costs doubtful doubt
  rooted f flags rows leads m limit flagged m-is limit-is S found sound =
      at-rate f
      (ap finding_of
      (Root.root scope64 o.rate.k costs doubtful doubt (fields_of f) o.counts o.blanks word doubled.places doubled.count asked.asked asked.flagged word-is
      picked.places picked.count row_values lead_at flags rows leads m limit flagged m-is limit-is S
      (subst₂ (λ (l : List ℕ) (n : ℕ). SearchOf o.rate.k columns word l rows leads n f) (all-left doubled.count ps) so-many found) sound))

  pub rooted-known : (f known : Finding) (holds : Bool) (tests : ℕ) → Sound o.rate.k columns known
      → holds ≡ governs_of o.rate.k o.counts o.blanks known word ps → holds ≡ true
      → WithinOf o.rate.k o.counts o.blanks columns known.codeword word ps (length ps) tests → f ≡ answer_here columns known tests
      → told_of f ≡ nearest_of rate costs doubtful doubt
  rooted-known f known holds tests sound test governs counted f-is =
      at-rate f
      (ap finding_of
      (Root.root-known scope64 o.rate.k costs doubtful doubt (fields_of f) o.counts o.blanks word doubled.places doubled.count asked.asked asked.flagged word-is
      picked.places picked.count (fields_of known) holds tests sound (test ∙ ap (governs_of o.rate.k o.counts o.blanks known word) (all-left doubled.count ps)) governs
      (subst₂ (λ (l : List ℕ) (n : ℕ). WithinOf o.rate.k o.counts o.blanks columns known.codeword word l n tests) (all-left doubled.count ps) so-many counted)
      (ap fields_of f-is)))
