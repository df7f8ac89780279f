-- From a basis to the interpolant reading.
--
--   Lowest leads best      a class of least lead
--   Interpolated M word rows leads bytes   from rows that store a basis up to key 127 of the Q through some nodes, the bytes are document 01's reading of them
use Rattle.std.specs.Prelude.{◌≡◌, List, ℕ}
use Rattle.family.specs.Nodes.{Node}
use Rattle.stepping.specs.Choice as Stepping
use Rattle.interpolant.specs.LeastQ.{reading_of}
use Rattle.interpolation.specs.Extending.{Stored}

abbrev pub Lowest : List ℕ → ℕ → Type 0
Lowest leads best = Stepping.Lowest 8 leads best

pub record Interpolated (M : ℕ) (word : List ℕ) (rows : List (List ℕ)) (leads bytes : List ℕ) : Type 0 where
  pub reading : (ns : List Node) → Stored M word 127 ns rows leads → bytes ≡ reading_of M ns
