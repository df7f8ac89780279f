-- `bytes` meets its contract: the range of each element is that of its type.
use native.Mathlib.Omega.{arith}
use Rattle.ranges.specs.Ranges.{below-from}
use Rattle.ranges.proofs.bytes.Goals as goal

pub returns : goal.returns
returns c = below-from 256 _ (λ i. omega (arith, c.type_inv.list i))
