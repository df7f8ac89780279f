-- `writing::write_costs` meets its contract. The loop's invariant: the bytes of the costs passed stand before what is left of the buffer.
use mathlib.Core.Path.{refl}
use native.Mathlib.Omega.{arith}
use lib.ListN.{length-set}
use Rattle.writing.proofs.Parts.{costs-start, costs-turn, costs-end}
use Rattle.writing.proofs.write_costs.Goals as goal

pub loop-j-init : goal.loop-j-init
loop-j-init c = (omega arith, refl, costs-start c.args.column.now c.args.out.now)

pub bounds-out-j-in-loop-j : goal.bounds-out-j-in-loop-j
bounds-out-j-in-loop-j c = simp length-set (omega arith)

pub loop-j-preserved : goal.loop-j-preserved
loop-j-preserved c = (
  omega arith,
  simp length-set c.loop-j.invariant.1,
  costs-turn _ _ _ _ c.to_be_bytes.ensures (omega (arith, c.type_inv.column c.loop-j.j)) (omega arith) (omega arith) c.loop-j.invariant.2,
)

pub shape_of-out : goal.shape_of-out
shape_of-out c = c.loop-j.invariant.1

pub returns : goal.returns
returns c =
    let a = c.args in
    costs-end a.column.now a.out.now c.loop-j.out c.loop-j.j (omega arith) (omega arith) c.loop-j.invariant.2
