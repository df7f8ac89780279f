-- One row against the rows that stand.
--
--   Stuck row pivot flag place b   whether the place counts and the row has a value there, and the row of the place, pivot, has none
--   Cleared row pivot flag place r   the row, if it is zero there or the place does not count; else with the multiple of pivot that takes its value off
--   pivot_values pivots     the values of the rows by place
--   Stops flags pivots place row   the place counts, the row has a value there, and the row of the place has none
--   Reduces row pivots flags r     what elimination makes of a row: zero at the places before its own, where it is stopped if it is not past the last
use Rattle.std.specs.Prelude.{Bool, true, false, ◌≢◌, ◌≡◌, List, [], ℕ, ◌<◌, ◌≤◌, get_or}
use Rattle.galois.specs.Field16.{GF, K16}
use Rattle.family.specs.Member.{m16, places}
use Rattle.planes.specs.Rows.{value_at}
use Rattle.values.specs.Eliminating as Values
use Rattle.parts.specs.Parts.{values_of}
use Rattle.elimination.specs.declared.reducing.Reduced.{Reduced}
open K16 use {◌⊕◌, ◌⊗◌, 𝟘, inv}

pub record Stuck (row pivot : List ℕ) (flag place : ℕ) (b : Bool) : Type 0 where
  pub stops : b ≡ true → (flag ≡ 1) × (value_at 0 row place ≢ 𝟘) × (value_at 0 pivot place ≡ 𝟘)
  pub passes : b ≡ false → flag ≡ 1 → value_at 0 row place ≢ 𝟘 → value_at 0 pivot place ≢ 𝟘

pub data Cleared (row pivot : List ℕ) (flag place : ℕ) (r : List ℕ) : Type 0 where
  kept : (flag ≡ 1 → value_at 0 row place ≡ 𝟘) → r ≡ row → Cleared row pivot flag place r
  taken_off : flag ≡ 1 → value_at 0 row place ≢ 𝟘
      → ((h q : ℕ) → h < 2 → value_at h r q ≡ value_at h row q ⊕ (value_at 0 row place ⊗ inv (value_at 0 pivot place)) ⊗ value_at h pivot q)
      → Cleared row pivot flag place r

abbrev pub pivot_values : List (List ℕ) → ℕ → ℕ → ℕ → GF
pivot_values pivots p = values_of (get_or pivots p [])

pub record Stops (flags : List ℕ) (pivots : List (List ℕ)) (place : ℕ) (row : List ℕ) : Type 0 where
  pub counted : get_or flags place 0 ≡ 1
  pub value : value_at 0 row place ≢ 𝟘
  pub free : value_at 0 (get_or pivots place []) place ≡ 𝟘

pub record Reduces (row : List ℕ) (pivots : List (List ℕ)) (flags : List ℕ) (r : Reduced) : Type 0 where
  pub within : r.place ≤ places m16
  pub reduced : (M key : ℕ) (word : List ℕ) → Values.Pivots m16 M word flags key (pivot_values pivots) → Values.Reduced m16 M word flags key 0 (values_of row)
      → Values.Reduced m16 M word flags key r.place (values_of r.row)
  pub stops : r.place < places m16 → Stops flags pivots r.place r.row
