-- `columns::bits::fill_columns` meets its contract. The loop's invariant: the columns of the places passed stand before what is left of the costs.
use mathlib.Core.Path.{refl}
use mathlib.Core.List.{List}
use Prim.Native.Nat.{ℕ}
use native.Mathlib.Omega.{arith}
use borrow.Author.Rules.{rules}
use Rattle.weighing.specs.Columns.{columns-start, columns-turn, columns-end}
use Rattle.columns.proofs.bits.fill_columns.Goals as goal

pub loop-place-init : goal.loop-place-init
loop-place-init c =
    let a = c.args in
    (omega arith, refl, columns-start 4 a.frame.now a.out.now)

pub loop-place-preserved : goal.loop-place-preserved
loop-place-preserved c =
    let a = c.args in
    let l = c.loop-place in
    let part : List ℕ = c.fill.new.out in (
      omega arith,
      search rules,
      columns-turn 4 a.frame.now a.out.now l.out part _ l.place c.values_at.ensures c.fill.ensures
          (omega arith) l.invariant.2,
    )

pub shape_of-out : goal.shape_of-out
shape_of-out c = c.loop-place.invariant.1

pub returns : goal.returns
returns c =
    columns-end 4 c.args.frame.now c.args.out.now c.loop-place.out 64 c.loop-place.place (omega arith) c.requires
    c.loop-place.invariant.2
