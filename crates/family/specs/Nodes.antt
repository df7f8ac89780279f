-- Interpolation nodes: a place and the symbol z there, as points of the curve.
--
--   Node, node p z      the place p with the symbol z
--   sample_at n          the point of a node's place, with its symbol
--   ThroughNodes M ns   the Q that vanish at every node of the list ns
use Rattle.std.specs.Prelude.{List, ℕ}
use Rattle.galois.specs.BinaryField.{GF, K, to_f}
use Rattle.hermitian.specs.Interpolation.{Sample, Through}
use Rattle.family.specs.Member.{Member, px, py}
use Rattle.family.specs.Points.{on-curve-at}

pub record Node : Type 0 where
  pub place : ℕ
  pub symbol : ℕ

abbrev pub node : ℕ → ℕ → Node
node p z = record { place = p; symbol = z }

module _ (𝓜 : Member) where
  open 𝓜 use {gf, w}

  abbrev pub sample_at : Node → Sample (K gf) w
  sample_at n = record { x = px 𝓜 n.place; y = py 𝓜 n.place; z = to_f gf n.symbol; on = on-curve-at 𝓜 n.place }

  abbrev pub ThroughNodes : ℕ → List Node → (ℕ → GF gf) → Type 0
  ThroughNodes M ns = Through (K gf) w M sample_at ns
