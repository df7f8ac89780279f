-- Bench sheet, R7, of the definition: a place and its bytes. The readings stand in proofs/.
--
--   one_at j i           1 at byte j, 0 elsewhere
--   place_zero           place 0 with best symbol 0
use Rattle.std.specs.Prelude.{cond, ℕ, eqb}
use Rattle.family.specs.Nodes.{Node, node}

unfoldable pub one_at : ℕ → ℕ → ℕ
one_at j i = cond (eqb i j) 1 0

-- place 0 is the point (0, 0)
abbrev pub place_zero : Node
place_zero = node 0 0
