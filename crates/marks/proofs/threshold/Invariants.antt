use Rattle.soft.specs.Column.{places}
use Rattle.weighing.specs.Halving.{Part}
use Rattle.marks.proofs.threshold.Given as goal

abbrev pub invariant-loop-width : goal.invariant-loop-width
invariant-loop-width l =
    Part places l.gaps l.few l.start l.width

abbrev pub decreases-loop-width : goal.decreases-loop-width
decreases-loop-width l = l.width
