-- `soft::total::total` meets its contract.
use mathlib.Core.Path.{◌≡◌, sym}
use native.Mathlib.Omega.{arith}
use Rattle.lists.specs.Count.{sum_of-nil, sum_of-turn}
use Rattle.soft.specs.Total.{total_of}
use Rattle.weighing.specs.Totals.{cost-in}
use Rattle.totals.proofs.total.total.Goals as goal

pub loop-place-init : goal.loop-place-init
loop-place-init c = (omega arith, omega arith, sym (sum_of-nil _))

pub loop-place-preserved : goal.loop-place-preserved
loop-place-preserved c = (
  omega arith,
  omega arith,
  sum_of-turn _ _ _ _ c.loop-place.invariant.2
      (cost-in _ _ c.args.word.now _ _ _ c.entry_or.ensures c.cost_of.ensures),
)

pub returns : goal.returns
unfolding total_of
returns c =
    let e : c.loop-place.place ≡ 64 = omega arith in
    rw e at c.loop-place.invariant.2
