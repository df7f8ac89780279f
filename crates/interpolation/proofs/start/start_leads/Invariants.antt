use mathlib.Core.Path.{◌≡◌}
use mathlib.Core.List.{◌++◌}
use Prim.Native.Nat.{◌≤◌, ◌-◌}
use lib.ListN.{drop, replicate}
use Rattle.lists.specs.Listed.{listed}
use Rattle.hermitian.specs.Keys.{first}
use Rattle.interpolation.proofs.start.start_leads.Given as goal

abbrev pub invariant-loop-r : goal.invariant-loop-r
invariant-loop-r l = (l.r ≤ 8) × (l.out ≡ listed l.r (first 4 l.m) ++ drop l.r (replicate 8 0))

abbrev pub decreases-loop-r : goal.decreases-loop-r
decreases-loop-r l = 8 - l.r
