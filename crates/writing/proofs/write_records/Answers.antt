-- `writing::write_records` meets its contract. The loop's invariant: the records of the places passed stand before what is left of the buffer.
use borrow.Author.Rules.{rules}
use mathlib.Core.Path.{refl}
use mathlib.Core.List.{List}
use Prim.Native.Nat.{ℕ}
use native.Mathlib.Omega.{arith}
use Rattle.writing.proofs.Parts.{records-start, records-turn, records-end}
use Rattle.writing.proofs.write_records.Goals as goal

pub loop-place-init : goal.loop-place-init
loop-place-init c =
    let a = c.args in
    (omega arith, refl, records-start a.costs.now c.requires.0 a.out.now)

pub loop-place-preserved : goal.loop-place-preserved
loop-place-preserved c =
    let l = c.loop-place in
    let part : List ℕ = c.write_record.new.out in (
      omega arith,
      search rules,
      records-turn c.args.costs.now c.requires.0 c.args.out.now l.out part l.place l.invariant.0 c.write_record.ensures
          l.invariant.2,
    )

pub shape_of-out : goal.shape_of-out
shape_of-out c = c.loop-place.invariant.1

pub returns : goal.returns
returns c =
    records-end c.args.costs.now c.requires.0 c.args.out.now c.loop-place.out c.loop-place.place (omega arith) (omega arith)
    c.loop-place.invariant.2
