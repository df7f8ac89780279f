-- The places without those whose flag is not 1.
use native.Mathlib.Omega.{arith}
use Rattle.soft.specs.Blank.{flag_at}
use Rattle.soft.specs.BlankLaws.{count-both}
use Rattle.soft.specs.Column.{places}
use Rattle.totals.proofs.total.changed.Goals as goal

pub overflow_sub-result : goal.overflow_sub-result
overflow_sub-result c = omega (arith, c.blanks.ensures, count-both places (flag_at c.args.flags))

pub returns : goal.returns
returns c = omega (arith, c.blanks.ensures, count-both places (flag_at c.args.flags))
