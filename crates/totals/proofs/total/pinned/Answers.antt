-- `soft::total::pinned` meets its contract.
use mathlib.Core.Path.{◌≡◌, sym, ap, ◌∙◌}
use native.Mathlib.Omega.{arith}
use lib.Dec.{eqb}
use Rattle.lists.specs.Count.{bit, count-nil, count_turn, from_bit}
use Rattle.soft.specs.Total.{pinned_of}
use Rattle.weighing.specs.Totals.{cost-in}
use Rattle.totals.proofs.total.pinned.Goals as goal

pub loop-place-init : goal.loop-place-init
loop-place-init c = (omega arith, omega arith, sym (count-nil _))

pub loop-place-preserved : goal.loop-place-preserved
loop-place-preserved c = (
  omega (arith, (from_bit _ c.from-n.ensures).1),
  omega (arith, (from_bit _ c.from-n.ensures).1),
  count_turn _ _ _ _ c.loop-place.invariant.2
      ((from_bit _ c.from-n.ensures).0 ∙ ap (λ x. bit (eqb x 65535))
      (cost-in _ _ c.args.word.now _ _ _ c.entry_or.ensures c.cost_of.ensures)),
)

pub returns : goal.returns
unfolding pinned_of
returns c =
    let e : c.loop-place.place ≡ 64 = omega arith in
    rw e at c.loop-place.invariant.2
