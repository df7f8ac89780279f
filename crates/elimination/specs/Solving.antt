-- The first term that depends on the smaller ones.
--
--   Tried key M symbols pivots flags r   the row of the term with this key, reduced
--   Tries key M symbols pivots flags r   that row; or none, and the key is no term's
--   Keeps before place row after         the row becomes that of its place, if it is one
--   SolvedOf M word flags limit r        a key up to the limit, that of the least Q through the flagged places, whose values the row has; or none, and
--                                        every such Q leads above the limit
use Rattle.std.specs.Prelude.{◌≢◌, ◌≡◌, List, [], ℕ, ◌<◌, ◌≤◌, length, get_or, Option, Some, None}
use Rattle.algebra.specs.Coefficients.{Lead}
use Rattle.algebra.specs.Least.{Least}
use Rattle.galois.specs.Field16.{GF, K16}
use Rattle.hermitian.specs.Keys.{IsKey}
use Rattle.family.specs.Member.{m16, places}
use Rattle.family.specs.Nodes.{ThroughNodes}
use Rattle.planes.specs.Arrays.{Carries, symbols_of}
use Rattle.values.specs.Holds.{Holds}
use Rattle.values.specs.Settled.{settled}
use Rattle.values.specs.Eliminating as Values
use Rattle.parts.specs.Parts.{values_of}
use Rattle.elimination.specs.declared.reducing.Reduced.{Reduced}
use Rattle.elimination.specs.declared.solving.Solved.{Solved}
use Rattle.elimination.specs.Reducing.{pivot_values, Stops}

pub record Tried (key M : ℕ) (symbols : List ℕ) (pivots : List (List ℕ)) (flags : List ℕ) (r : Reduced) : Type 0 where
  pub within : r.place ≤ places m16
  pub reduced : (word : List ℕ) → Carries (symbols_of word) symbols → Values.Pivots m16 M word flags key (pivot_values pivots)
      → Values.Reduced m16 M word flags key r.place (values_of r.row)
  pub stops : r.place < places m16 → Stops flags pivots r.place r.row

abbrev pub Tries : ℕ → ℕ → List ℕ → List (List ℕ) → List ℕ → Option Reduced → Type 0
Tries key M symbols pivots flags None = ¬ IsKey m16.w M key
Tries key M symbols pivots flags (Some r) = Tried key M symbols pivots flags r

pub record Keeps (before : List (List ℕ)) (place : ℕ) (row : List ℕ) (after : List (List ℕ)) : Type 0 where
  pub as_long : length after ≡ length before
  pub here : place < places m16 → get_or after place [] ≡ row
  pub other : (q : ℕ) → q ≢ place → get_or after q [] ≡ get_or before q []
  pub past : places m16 ≤ place → after ≡ before

abbrev pub SolvedOf : ℕ → List ℕ → List ℕ → ℕ → Option Solved → Type 0
SolvedOf M word flags limit None = (Q : ℕ → GF) (l : ℕ) → ThroughNodes m16 M (settled word flags (places m16)) Q → Lead K16 Q l → limit < l
SolvedOf M word flags limit (Some r) =
    (r.key ≤ limit)
    × ((Q : ℕ → GF) × Holds m16 M word (values_of r.row) Q × Least K16 (ThroughNodes m16 M (settled word flags (places m16))) Q r.key)
