-- One key of the elimination, and its ends.
use mathlib.Core.Path.{◌≡◌, refl, ap, ◌∙◌, subst}
use Rattle.std.specs.Prelude.{Some, None}
use mathlib.Core.List.{List, []}
use mathlib.Core.Logic.{◌≢◌}
use Prim.Native.Nat.{ℕ, ◌+◌, ◌<◌, ◌≤◌}
use native.Mathlib.Decide.{dec_lt}
use native.Mathlib.Omega.{arith}
use lib.ListN.{length, get_or, set, length-set, replicate, get_or-replicate}
use lib.Seq.{get_or-set_same, get_or-set_other}
use borrow.Author.Tests.{eq-eqb}
use Rattle.galois.specs.Field16.{K16, to_f, to_f-zero}
use Rattle.hermitian.specs.Keys.{IsKey}
use Rattle.family.specs.Member.{m16, places}
use Rattle.planes.specs.Arrays.{Carries, symbols_of}
use Rattle.packing.specs.Bits.{from_bits}
use Rattle.planes.specs.Lanes.{lane, lane-zero}
use Rattle.planes.specs.Elements as Elements
use Rattle.planes.specs.Rows.{value_at, part_of}
use Rattle.values.specs.Eliminating as Values
use Rattle.values.specs.Eliminating.{pivots-start, pivots-absent, pivots-stored, pivots-none, reduced-least}
use Rattle.parts.specs.Parts.{values_of}
use Rattle.elimination.specs.declared.reducing.Reduced.{Reduced}
use Rattle.elimination.specs.Terms.{TermRow}
use Rattle.elimination.specs.Reducing.{pivot_values, Reduces}
use Rattle.elimination.specs.Solving.{Tried, Keeps, SolvedOf}
use Rattle.elimination.proofs.Monomials.{term-begins}
open K16 use {𝟘}

-- ---- one term
pub term-tries : (key M : ℕ) (symbols : List ℕ) (pivots : List (List ℕ)) (flags row : List ℕ) {r : Reduced} → IsKey m16.w M key → TermRow M key symbols row
    → Reduces row pivots flags r → Tried key M symbols pivots flags r
term-tries key M symbols pivots flags row term T R =
    record {
      within = R.within;
      reduced = λ word carried P. R.reduced M key word P (term-begins M key symbols term row T word flags carried);
      stops = R.stops;
    }

-- ---- the row of a place
pub kept_row : (before : List (List ℕ)) (place : ℕ) (row : List ℕ) → place < length before → length before ≡ places m16 → Keeps before place row (set before place row)
kept_row before place row l size =
    record {
      as_long = length-set before place row;
      here = λ h. get_or-set_same before place row [] l;
      other = λ q n. get_or-set_other before place q row [] n;
      past = λ h. absurd (omega arith);
    }

pub no_row : (before : List (List ℕ)) (place : ℕ) (row : List ℕ) → places m16 ≤ place → Keeps before place row before
no_row before place row h = record { as_long = refl; here = λ l. absurd (omega arith); other = λ q n. refl; past = λ l. refl }

-- ---- no row stands before the first key
zero_row : (p : ℕ) → value_at 0 (replicate 8 0) p ≡ 𝟘
unfolding part_of Elements.element lane from_bits
zero_row p = ap to_f (lane-zero 4 p) ∙ to_f-zero

-- the rows that stand before a key, whatever the word whose symbols are given
pub record Rows (M : ℕ) (flags symbols : List ℕ) (key : ℕ) (pivots : List (List ℕ)) : Type 0 where
  pub stand : (word : List ℕ) → Carries (symbols_of word) symbols → Values.Pivots m16 M word flags key (pivot_values pivots)

pub no_rows : (M : ℕ) (flags symbols : List ℕ) → Rows M flags symbols 0 (replicate (places m16) (replicate 8 0))
unfolding values_of
no_rows M flags symbols =
    record {
      stand = λ word carried.
          pivots-start m16 M word flags
          (λ p l. ap (λ (row : List ℕ). value_at 0 row p) (get_or-replicate (places m16) p (replicate 8 0) [] l) ∙ zero_row p);
    }

module _ {M : ℕ} {flags symbols : List ℕ} {key : ℕ} {pivots : List (List ℕ)} (R : Rows M flags symbols key pivots) where
  -- a key that is no term's changes nothing
  pub key-absent : ¬ IsKey m16.w M key → Rows M flags symbols (key + 1) pivots
  key-absent n = record { stand = λ word carried. pivots-absent m16 M word flags n (R.stand word carried) }

  module _ {r : Reduced} (T : Tried key M symbols pivots flags r) where
    -- a term that is stopped has a row from then on
    pub key-turn : {after : List (List ℕ)} → r.place ≢ places m16 → Keeps pivots r.place r.row after → Rows M flags symbols (key + 1) after
    unfolding values_of
    key-turn {after} n K = record { stand = λ word carried. go word carried (dec_lt r.place (places m16)) }
      where
        go : (word : List ℕ) → Carries (symbols_of word) symbols → Dec (r.place < places m16) → Values.Pivots m16 M word flags (key + 1) (pivot_values after)
        go word carried (yes l) =
            let s = T.stops l in
            let P = R.stand word carried in
            pivots-stored m16 M word flags r.place l (eq-eqb (get_or flags r.place 0) 1 s.counted) s.value s.free
            (ap values_of (K.here l)) (λ q o. ap values_of (K.other q o)) (T.reduced word carried P) P
        go word carried (no l) = absurd (n (omega (arith, T.within)))

    -- one that is zero at all places that count is the highest of the least Q
    pub key-found : {word : List ℕ} {limit : ℕ} → Carries (symbols_of word) symbols → r.place ≡ places m16 → key ≤ limit
        → SolvedOf M word flags limit (Some (record { key = key; row = r.row }))
    key-found {word} {limit} carried e le =
        let P = R.stand word carried in
        (le, reduced-least m16 M word flags P (subst (λ p. Values.Reduced m16 M word flags key p (values_of r.row)) e (T.reduced word carried P)))

  -- no term up to the limit was one
  pub key-none : (word : List ℕ) (limit : ℕ) → Carries (symbols_of word) symbols → limit < key → SolvedOf M word flags limit None
  key-none word limit carried l Q m t e = omega (arith, pivots-none m16 M word flags (R.stand word carried) Q m t e)
