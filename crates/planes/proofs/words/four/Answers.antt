-- `four` meets its contract: bits that stand in bytes of their own add to the symbols.
use native.Mathlib.Omega.{arith}
use Rattle.planes.proofs.Unpacked.{four-room, four-by}
use Rattle.planes.proofs.words.four.Goals as goal

pub overflow_mul-result : goal.overflow_mul-result
overflow_mul-result c = omega (arith, four-room c.args.x c.args.a c.apart-one.ensures c.apart-two.ensures c.apart-four.ensures c.apart-eight.ensures)

pub overflow_add-result : goal.overflow_add-result
overflow_add-result c = omega (arith, four-room c.args.x c.args.a c.apart-one.ensures c.apart-two.ensures c.apart-four.ensures c.apart-eight.ensures)

pub overflow_mul-result-2 : goal.overflow_mul-result-2
overflow_mul-result-2 c = omega (arith, four-room c.args.x c.args.a c.apart-one.ensures c.apart-two.ensures c.apart-four.ensures c.apart-eight.ensures)

pub overflow_add-result-2 : goal.overflow_add-result-2
overflow_add-result-2 c = omega (arith, four-room c.args.x c.args.a c.apart-one.ensures c.apart-two.ensures c.apart-four.ensures c.apart-eight.ensures)

pub overflow_mul-result-3 : goal.overflow_mul-result-3
overflow_mul-result-3 c = omega (arith, four-room c.args.x c.args.a c.apart-one.ensures c.apart-two.ensures c.apart-four.ensures c.apart-eight.ensures)

pub overflow_add-result-3 : goal.overflow_add-result-3
overflow_add-result-3 c = omega (arith, four-room c.args.x c.args.a c.apart-one.ensures c.apart-two.ensures c.apart-four.ensures c.apart-eight.ensures)

pub returns : goal.returns
returns c = four-by c.args.x c.args.a c.apart-one.ensures c.apart-two.ensures c.apart-four.ensures c.apart-eight.ensures
