-- `rank` meets its contract, row by row; from 12 on no order is missing.
use native.Mathlib.Omega.{arith}
use lib.Dec.{lit≤}
use Rattle.hermitian.specs.Present.{genus}
use Rattle.hermitian.specs.Orders.{rank-present, rank-large}
use Rattle.encoding.proofs.rank.Goals as goal

pub returns-then-order-lt4 : goal.returns-then-order-lt4
unfolding genus
returns-then-order-lt4 c = omega (arith, rank-present 4 0 _ c.requires (omega arith) (omega arith))

pub returns-then-order-lt8 : goal.returns-then-order-lt8
unfolding genus
returns-then-order-lt8 c = omega (arith, rank-present 4 1 _ c.requires (omega arith) (omega arith))

pub returns-then-order-lt12 : goal.returns-then-order-lt12
unfolding genus
returns-then-order-lt12 c = omega (arith, rank-present 4 2 _ c.requires (omega arith) (omega arith))

pub returns : goal.returns
unfolding genus
returns c = omega (arith, rank-large 4 (lit≤ tt) _ c.if-order-lt12.false)
