-- Interpolation nodes at GF(16) with w = 4: a place and the symbol z there, as points of the curve.
--
--   px p, py p          the point of a place, in the field
--   sample_at n          the point of a node's place, with its symbol
--   ThroughNodes M ns   the Q that vanish at every node of the list ns
use Rattle.std.specs.Prelude.{List, ℕ}
use Rattle.galois.specs.Field16.{GF, K16}
use Rattle.hermitian.specs.Interpolation.{Sample}
use Rattle.family.specs.Member as Member
use Rattle.family.specs.Member.{m16}
use Rattle.family.specs.Nodes as Family
use Rattle.family.specs.Nodes.{Node}

abbrev pub px : ℕ → GF
px p = Member.px m16 p

abbrev pub py : ℕ → GF
py p = Member.py m16 p

abbrev pub sample_at : Node → Sample K16 4
sample_at n = Family.sample_at m16 n

abbrev pub ThroughNodes : ℕ → List Node → (ℕ → GF) → Type 0
ThroughNodes M ns = Family.ThroughNodes m16 M ns
