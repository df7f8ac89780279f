use mathlib.Core.Path.{◌≡◌}
use Prim.Native.Nat.{◌+◌, ◌%◌, ◌≤◌}
use Rattle.basis.specs.Step.{classes}
use Rattle.tree.specs.Searching.{Lowest}
use Rattle.tree.proofs.least_from.Given as goal

abbrev pub invariant-loop-q : goal.invariant-loop-q
invariant-loop-q l = (l.q ≤ classes + 1) × (l.q % 2 ≡ l.first) × Lowest l.leads l.first l.q l.r
