-- Single steps of the functions that choose doubtful places, over plain lists and numbers, for any number of places.
--
--   counted_none, counted-full, counted-plain   the gap as it counts: without one, with the second cost at the ceiling, and elsewhere
--   key-open, key-blank    the key of a place, from its gap
--   places-start, places-turn   the places chosen so far, in an array of w
--   skipped-places, skipped-count   without doubt there are none
use Rattle.std.specs.Prelude.{Bool, cond, ◌≡◌, List, ◌≢◌, ℕ, ◌+◌, ◌*◌, ◌<◌, ◌≤◌, length, set, replicate}
use Rattle.std.proofs.Common.{sym, ap, ap₂, ◌∙◌, add-one, arith}
use Rattle.std.proofs.Math.Decide.{ℕ_discrete}
use Rattle.lists.specs.Count.{count, kept, kept-nil, kept-suc, kept-length}
use Rattle.lists.specs.Padded.{padded, padded-nil, padded-if}
use Rattle.soft.specs.Column.{ceiling, counted_gap}
use Rattle.soft.specs.ColumnLaws.{counted-pinned, counted-open, counted-level}
use Rattle.soft.specs.Doubt.{doubtful_of}
use Rattle.soft.specs.DoubtLaws.{doubtful-none}
use Rattle.weighing.specs.Summed.{gap_by, KeyBy}

-- the gap as it counts, by the best cost and the plain gap
pub counted_none : (least gap : ℕ) → gap ≡ 0 → 0 ≡ counted_gap least (least + gap)
counted_none least gap e = go (ℕ_discrete (least + gap) ceiling)
  where
    go : Dec (least + gap ≡ ceiling) → 0 ≡ counted_gap least (least + gap)
    go (yes f) = omega (arith, counted-level least (least + gap) (omega arith))
    go (no f) = omega (arith, counted-open least (least + gap) f)

pub counted-full : (least gap : ℕ) → gap ≢ 0 → least + gap ≡ ceiling → ceiling ≡ counted_gap least (least + gap)
counted-full least gap n e = sym (counted-pinned least (least + gap) e (omega arith))

pub counted-plain : (least gap : ℕ) → least + gap ≢ ceiling → gap ≡ counted_gap least (least + gap)
counted-plain least gap n = omega (arith, counted-open least (least + gap) n)

-- the key of a place
module _ {n far least gap flag p key : ℕ} where
  pub key-open : flag ≡ 1 → key ≡ gap_by least gap * n + p → key < far → KeyBy n far least gap flag p key
  key-open o e l = record { ordered = λ _. (e, l); behind = λ b. absurd (b o) }

  pub key-blank : flag ≢ 1 → far ≤ key → KeyBy n far least gap flag p key
  key-blank b l = record { ordered = λ o. absurd (b o); behind = λ _. l }

-- the doubtful places in an array of w
module _ (w : ℕ) where
  pub places-start : (f : ℕ → Bool) → replicate w 0 ≡ padded w (kept 0 f)
  places-start f = sym (ap (padded w) (kept-nil f) ∙ padded-nil w)

  pub places-turn : (f : ℕ → Bool) (out r : List ℕ) (p found : ℕ) (b : Bool) → out ≡ padded w (kept p f) → found ≡ count p f → b ≡ f p
      → r ≡ cond b (set out found p) out → r ≡ padded w (kept (p + 1) f)
  places-turn f out r p found b eo ef eb er =
      er ∙ ap₂ (λ t o. cond t (set o found p) o) eb eo ∙ padded-if w (kept p f) p found (f p) (ef ∙ sym (kept-length p f))
      ∙ ap (padded w) (sym (kept-suc p f) ∙ ap (λ n. kept n f) (sym (add-one p)))

-- without doubt there are none
module _ (n : ℕ) (columns : ℕ → List ℕ) (d : ℕ) (e : d ≡ 0) where
  pub skipped-places : (w : ℕ) → replicate w 0 ≡ padded w (doubtful_of n d columns)
  skipped-places w = sym (ap (λ k. padded w (doubtful_of n k columns)) e ∙ ap (padded w) (doubtful-none n columns) ∙ padded-nil w)

  pub skipped-count : 0 ≡ length (doubtful_of n d columns)
  skipped-count = sym (ap (λ k. length (doubtful_of n k columns)) e ∙ ap length (doubtful-none n columns))
