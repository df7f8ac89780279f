-- Keys by a summary of the columns, for any number of places and two symbols at least: by the best cost, the plain gap and the flag of each place.
--
--   gap_by least gap        the gap as it counts for choosing, by the best cost and the plain gap
--   KeyBy n far least gap flag p key   the key of place p, of n places: behind all with a flag other than 1
--   KeyedBy n far least gaps counts keys   the keys of all of them
--   keyed-by-apart         no two places with a flag of 1 share one
--   keyed-summary          by a summary of columns they are the keys of the columns' places
use Rattle.std.specs.Prelude.{◌≡◌, List, ◌≢◌, ℕ, ◌+◌, ◌*◌, ◌<◌, ◌≤◌, get_or}
use Rattle.std.proofs.Common.{sym, ◌∙◌, arith, eqb-true}
use Rattle.std.proofs.Math.Path.{ap, ap₂}
use Rattle.std.proofs.Math.Decide.{ℕ_discrete}
use Rattle.std.proofs.lemmas.Bool.{eqb-false}
use Rattle.soft.specs.Column.{counted_gap, doubt_gap_of}
use Rattle.soft.specs.Doubt.{gap_at}
use Rattle.soft.specs.DoubtLaws.{key-injective}
use Rattle.soft.specs.Mark.{best_cost}
use Rattle.weighing.specs.Summary.{SummaryBy, least_at, gap-at, counts-at, summary-second}
use Rattle.weighing.specs.Keys.{entry_of, KeyOf, Keyed, Apart}

abbrev pub gap_by : ℕ → ℕ → ℕ
gap_by least gap = counted_gap least (least + gap)

pub record KeyBy (n far least gap flag p key : ℕ) : Type 0 where
  pub ordered : flag ≡ 1 → (key ≡ gap_by least gap * n + p) × (key < far)
  pub behind : flag ≢ 1 → far ≤ key

-- the rule of a key by the arrays
abbrev pub key_rule : ℕ → ℕ → List ℕ → List ℕ → List ℕ → ℕ → ℕ → Type 0
key_rule n far least gaps counts p key = KeyBy n far (get_or least p 0) (get_or gaps p 0) (get_or counts p 0) p key

pub record KeyedBy (n far : ℕ) (least gaps counts keys : List ℕ) : Type 0 where
  pub at : (p : ℕ) → p < n → key_rule n far least gaps counts p (entry_of keys p)

module _ {n far : ℕ} {least gaps counts keys : List ℕ} (K : KeyedBy n far least gaps counts keys) where
  gap_in : ℕ → ℕ
  gap_in p = gap_by (get_or least p 0) (get_or gaps p 0)

  key_below : (p : ℕ) → p < n → entry_of keys p < far → entry_of keys p ≡ gap_by (get_or least p 0) (get_or gaps p 0) * n + p
  key_below p l h = go (ℕ_discrete (get_or counts p 0) 1)
    where
      go : Dec (get_or counts p 0 ≡ 1) → entry_of keys p ≡ gap_by (get_or least p 0) (get_or gaps p 0) * n + p
      go (yes e) = ((K.at p l).ordered e).0
      go (no d) = absurd (omega (arith, (K.at p l).behind d))

  pub keyed-by-apart : Apart n far keys
  unfolding gap_in
  keyed-by-apart =
      record {
        apart = λ p q lp lq h e. key-injective n gap_in p q lp lq (sym (key_below p lp h) ∙ e ∙ key_below q lq (omega arith));
      }

module _ {places symbols : ℕ} {columns : ℕ → List ℕ} {best least gaps counts : List ℕ} (S : SummaryBy places symbols columns best least gaps counts)
    (two : 1 < symbols) where
  -- a place's gap, as it counts
  gap-counted : (p : ℕ) → p < places → gap_by (get_or least p 0) (get_or gaps p 0) ≡ gap_at columns p
  unfolding doubt_gap_of
  gap-counted p l =
      ap₂ gap_by (least_at S p l) (gap-at S p l) ∙ ap (counted_gap (best_cost columns p)) (summary-second S p l two)

  pub keyed-summary : {far : ℕ} {keys : List ℕ} → KeyedBy places far least gaps counts keys → Keyed places far columns keys
  keyed-summary {far} {keys} K = record { at = λ p l. at p l }
    where
      at : (p : ℕ) → p < places → KeyOf places far columns p (entry_of keys p)
      at p l =
          record {
            ordered = λ o.
                let k = (K.at p l).ordered (eqb-true (get_or counts p 0) 1 (counts-at S p l ∙ o)) in
                (k.0 ∙ ap (λ g. g * places + p) (gap-counted p l), k.1);
            behind = λ b. (K.at p l).behind (eqb-false (get_or counts p 0) 1 (counts-at S p l ∙ b));
          }
