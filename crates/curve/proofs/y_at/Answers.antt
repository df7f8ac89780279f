-- `y_at` meets its contract: it reads the list of all y.
use mathlib.Core.Path.{ap, ◌∙◌}
use Prim.Native.Nat.{◌%◌}
use native.Mathlib.Omega.{arith}
use lib.ListN.{get_or}
use Rattle.lists.specs.Listed.{listed_at}
use Rattle.curve.specs.Curve.{y_of}
use Rattle.curve.proofs.y_at.Goals as goal

pub returns : goal.returns
returns c = ap (λ l. get_or l (c.args.place % 64) 0) c.ys-ys.ensures ∙ listed_at 64 (c.args.place % 64) y_of 0 (omega arith)
