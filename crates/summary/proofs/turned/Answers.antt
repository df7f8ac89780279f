-- `summary::turned` meets its contract. The loop's invariant: in each array the places passed are stored, the rest is as it was.
use mathlib.Core.Path.{◌≡◌, sym, ap, ◌∙◌}
use Prim.Native.Nat.{◌<◌, min}
use lib.ListN.{get_or}
use native.Mathlib.Omega.{arith}
use Rattle.lists.specs.Listed.{listed_start, listed-store, listed-end}
use Rattle.soft.specs.Column.{column_of}
use Rattle.soft.specs.ColumnLaws.{column-length, cost-column}
use Rattle.summary.proofs.Turns.{costs-most, best-stored, least-stored, next-stored}
use Rattle.summary.proofs.turned.Goals as goal

pub loop-place-init : goal.loop-place-init
loop-place-init c = (omega arith, listed_start _ _, listed_start _ _, listed_start _ _)

pub loop-place-preserved : goal.loop-place-preserved
loop-place-preserved c =
    let loop = c.loop-place in
    let costs = c.args.costs.now in
    let columns = column_of 16 costs in
    let there = sym (cost-column 16 costs loop.place c.args.symbol c.requires.0) in
    let inside : loop.place < 64 = omega arith in (
      omega arith,
      listed-store 0 _ _ _ _ _ (omega arith) (best-stored columns (λ p l. column-length 16 costs p) (costs-most costs (λ i. omega (arith, c.type_inv.costs i))) c.requires.2 c.requires.0 inside there c.better.ensures)
          loop.invariant.1,
      listed-store 0 _ _ _ _ _ (omega arith) (least-stored columns c.requires.2 inside there c.min.ensures)
          loop.invariant.2,
      listed-store 0 _ _ _ _ _ (omega arith) (next-stored columns c.requires.2 inside there (c.min-in-loop-place.ensures ∙ ap (λ x. min (get_or c.args.held.next loop.place 0) x) c.max.ensures)) loop.invariant.3,
    )

pub returns : goal.returns
returns c =
    let e : c.loop-place.place ≡ 64 = omega arith in
    let i = c.loop-place.invariant in
    record {
      bests = rw e at (listed-end _ _ _ _ (omega arith) i.1);
      leasts = rw e at (listed-end _ _ _ _ (omega arith) i.2);
      nexts = rw e at (listed-end _ _ _ _ (omega arith) i.3);
    }
