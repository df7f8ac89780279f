use Rattle.std.specs.Prelude.{IfSome, unwrap_or}
use Prim.Native.Nat.{◌<◌, ◌≤◌, ◌-◌}
use Rattle.basis.specs.Choice.{Chosen}
use Rattle.basis.proofs.step.choice.Given as goal

abbrev pub invariant-loop-r : goal.invariant-loop-r
invariant-loop-r l = (l.r ≤ 8) × Chosen l.r l.ds l.leads (unwrap_or l.best 8) × IfSome l.best (λ chosen. chosen < 8)

abbrev pub decreases-loop-r : goal.decreases-loop-r
decreases-loop-r l = 8 - l.r
