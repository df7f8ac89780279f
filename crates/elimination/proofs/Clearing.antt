-- One place of a reduction: what the row has there, and what its row takes off.
use mathlib.Core.Bool.{Bool, true, false, true≢false}
use mathlib.Core.Path.{◌≡◌, sym, ap, ap₂, ◌∙◌, subst}
use mathlib.Core.List.{List, []}
use mathlib.Core.Logic.{◌≢◌}
use Prim.Native.Nat.{ℕ, ◌+◌, ◌%◌, ◌<◌, ◌≤◌}
use native.Mathlib.Nat.{mod-eq_of_lt}
use native.Mathlib.Omega.{arith}
use lib.ListN.{get_or}
use borrow.Author.Tests.{eqb-true}
use Rattle.galois.specs.Gf16.{times, inverse}
use Rattle.galois.specs.Field16.{K16, to_f, to_f-zero, to_f-ne-zero, to_f-times, to_f-inverse}
use Rattle.family.specs.Member.{m16, places}
use Rattle.planes.specs.Arrays.{symbol_at, symbol-lt, element-symbol}
use Rattle.planes.specs.Rows.{value_at, whole_of, value-whole, MultiplesOf, AddedBy}
use Rattle.values.specs.Eliminating as Values
use Rattle.values.specs.Eliminating.{reduced-pass, reduced-clear}
use Rattle.parts.specs.Parts.{values_of}
use Rattle.elimination.specs.declared.reducing.Reduced.{Reduced}
use Rattle.elimination.specs.Reducing.{Stuck, Cleared, kept, taken_off, pivot_values, Reduces}
open K16 use {◌⊕◌, ◌⊗◌, 𝟘, inv}

-- ---- the value at a place, as the code reads it
module _ (row : List ℕ) (place : ℕ) (h : place < 64) {w : List ℕ} {a : ℕ} (ew : w ≡ whole_of row) (ea : a ≡ symbol_at w (place % 64)) where
  pub value_read : to_f a ≡ value_at 0 row place
  value_read =
      ap to_f (ea ∙ ap₂ symbol_at ew (mod-eq_of_lt h)) ∙ sym (element-symbol (whole_of row) place) ∙ value-whole row place

  pub value-zero : a ≡ 0 → value_at 0 row place ≡ 𝟘
  value-zero z = sym value_read ∙ ap to_f z ∙ to_f-zero

  pub value-nonzero : a ≢ 0 → value_at 0 row place ≢ 𝟘
  value-nonzero n z =
      let small : a < 16 = subst (λ x. x < 16) (sym ea) (symbol-lt w (place % 64)) in
      to_f-ne-zero a (λ e. n (sym (mod-eq_of_lt small) ∙ e)) (value_read ∙ z)

-- ---- one place
pub off-by : (row pivot : List ℕ) (flag place v u : ℕ) {by : ℕ} {ms : List (List ℕ)} {r : List ℕ} → flag ≡ 1 → value_at 0 row place ≢ 𝟘 → to_f v ≡ value_at 0 row place
    → to_f u ≡ value_at 0 pivot place → by ≡ times v (inverse u) → MultiplesOf pivot ms → AddedBy row by ms r → Cleared row pivot flag place r
off-by row pivot flag place v u {by} {ms} {r} f ne ev eu eb made A =
    taken_off f ne
    (λ h q l. (A.from pivot made).lanes h q l ∙ ap (λ x. value_at h row q ⊕ x ⊗ value_at h pivot q) factor)
  where
    factor : to_f by ≡ value_at 0 row place ⊗ inv (value_at 0 pivot place)
    factor = ap to_f eb ∙ to_f-times v (inverse u) ∙ ap₂ (λ x y. x ⊗ y) ev (to_f-inverse u ∙ ap inv eu)

pub blank-passed : (row pivot : List ℕ) (flag place : ℕ) → flag ≢ 1 → Stuck row pivot flag place false
blank-passed row pivot flag place n = record { stops = λ e. absurd (true≢false (sym e)); passes = λ e f. absurd (n f) }

pub pivot-passed : (row pivot : List ℕ) (flag place : ℕ) → value_at 0 pivot place ≢ 𝟘 → Stuck row pivot flag place false
pivot-passed row pivot flag place n = record { stops = λ e. absurd (true≢false (sym e)); passes = λ e f z. n }

pub free-stuck : (row pivot : List ℕ) (flag place : ℕ) (b : Bool) → flag ≡ 1 → value_at 0 pivot place ≡ 𝟘 → (b ≡ true → value_at 0 row place ≢ 𝟘)
    → (b ≡ false → value_at 0 row place ≡ 𝟘) → Stuck row pivot flag place b
free-stuck row pivot flag place b f z some none = record { stops = λ e. (f, some e, z); passes = λ e g n. absurd (n (none e)) }

-- ---- place by place

-- what is left of a row at a place: zero at the places before it that count
pub record UpTo (row : List ℕ) (pivots : List (List ℕ)) (flags : List ℕ) (place : ℕ) (rest : List ℕ) : Type 0 where
  pub reduced : (M key : ℕ) (word : List ℕ) → Values.Pivots m16 M word flags key (pivot_values pivots) → Values.Reduced m16 M word flags key 0 (values_of row)
      → Values.Reduced m16 M word flags key place (values_of rest)

-- a place that does not stop the row is passed
pub turn : {row : List ℕ} {pivots : List (List ℕ)} {flags : List ℕ} {place : ℕ} {rest next : List ℕ} {b : Bool} → place < places m16
    → Stuck rest (get_or pivots place []) (get_or flags place 0) place b → b ≡ false → Cleared rest (get_or pivots place []) (get_or flags place 0) place next
    → UpTo row pivots flags place rest → UpTo row pivots flags (place + 1) next
unfolding values_of
turn {flags = flags} {place = place} l S e (kept z same) U =
    record {
      reduced = λ M key word P R.
          subst (λ r. Values.Reduced m16 M word flags key (place + 1) (values_of r)) (sym same)
          (reduced-pass m16 M word flags place l (λ t. z (eqb-true (get_or flags place 0) 1 t)) (U.reduced M key word P R));
    }
turn {flags = flags} {place = place} l S e (taken_off f ne lanes) U =
    record {
      reduced = λ M key word P R.
          reduced-clear m16 M word flags place l P (S.passes e f ne) (λ h q k m. lanes h q k) (U.reduced M key word P R);
    }

pub stopped : {row : List ℕ} {pivots : List (List ℕ)} {flags : List ℕ} {r : Reduced} {b : Bool} → r.place < places m16
    → Stuck r.row (get_or pivots r.place []) (get_or flags r.place 0) r.place b → b ≡ true → UpTo row pivots flags r.place r.row
    → Reduces row pivots flags r
stopped l S e U =
    let s = S.stops e in
    record { within = omega arith; reduced = U.reduced; stops = λ h. record { counted = s.0; value = s.1; free = s.2 } }

pub ended : {row : List ℕ} {pivots : List (List ℕ)} {flags : List ℕ} {r : Reduced} → r.place ≤ places m16 → places m16 ≤ r.place
    → UpTo row pivots flags r.place r.row → Reduces row pivots flags r
ended a b U = record { within = a; reduced = U.reduced; stops = λ h. absurd (omega arith) }
