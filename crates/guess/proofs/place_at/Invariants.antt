use mathlib.Core.Path.{◌≡◌}
use Prim.Native.Nat.{◌*◌, ◌%◌}
use Rattle.family.specs.Member.{m16}
use Rattle.search.specs.Alone.{Passed}
use Rattle.guess.proofs.place_at.Given as goal

abbrev pub invariant-loop-r : goal.invariant-loop-r
invariant-loop-r l = (l.first ≡ l.x % 16 * 4) × Passed m16 l.x l.y l.r
