use mathlib.Core.Path.{◌≡◌}
use mathlib.Core.List.{[]}
use Prim.Native.Nat.{◌-◌}
use lib.ListN.{length}
use Rattle.lists.specs.Passed.{Passed}
use Rattle.basis.specs.Step.{classes}
use Rattle.basis.proofs.Rowwise.{MovedRow}
use Rattle.basis.proofs.step.moved_rows.Given as goal

abbrev pub invariant-loop-r : goal.invariant-loop-r
invariant-loop-r l = (length l.initial.rows ≡ classes) × (length l.rows ≡ classes) × Passed [] (MovedRow l.place l.change l.initial.rows) 0 l.r l.initial.rows l.rows

abbrev pub decreases-loop-r : goal.decreases-loop-r
decreases-loop-r l = classes - l.r
