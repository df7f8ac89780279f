-- The loop's invariant: how many choices change exactly i places, and how many at most i.
use mathlib.Core.Path.{◌≡◌, sym, ap, ap₂, ◌∙◌, subst}
use Prim.Native.Nat.{◌+◌, ◌-◌, ◌*◌, ◌/◌, ◌^◌, ◌≤◌}
use native.Mathlib.Omega.{arith}
use Rattle.soft.specs.Doubt.{most_doubt}
use Rattle.lists.specs.Choices.{choose_of, choices_of, choose-zero, choices-zero, choose-turn, choices-turn}
use Rattle.search.specs.Counting.{choose-fits, choose-times, choices-fit}
use borrow.Author.Rules.{rules}
use Rattle.known.proofs.choices.Goals as goal

pub loop-i-init : goal.loop-i-init
loop-i-init c = (sym (choose-zero _), sym (choices-zero _))

pub overflow_mul-exactly : goal.overflow_mul-exactly
overflow_mul-exactly c =
    let next : (c.loop-i.exactly * (c.args.m - c.loop-i.i) / (c.loop-i.i + 1) ≡ choose_of c.args.m (c.loop-i.i + 1)) × (c.loop-i.exactly * (c.args.m - c.loop-i.i) ≤ 2 ^ most_doubt * most_doubt) =
    let m = c.args.m in
    let i = c.loop-i.i in
    let e = c.loop-i.invariant.0 in (
      ap (λ x. x * (m - i) / (i + 1)) e ∙ choose-turn m i (omega arith),
      subst (λ x. x * (m - i) ≤ 2 ^ most_doubt * most_doubt) (sym e) (choose-times most_doubt m i (omega arith) (m - i) (omega arith)),
    ) in
    let h = (next).1 in search rules

pub overflow_add-sum : goal.overflow_add-sum
overflow_add-sum c =
    let next : (c.loop-i.exactly * (c.args.m - c.loop-i.i) / (c.loop-i.i + 1) ≡ choose_of c.args.m (c.loop-i.i + 1)) × (c.loop-i.exactly * (c.args.m - c.loop-i.i) ≤ 2 ^ most_doubt * most_doubt) =
    let m = c.args.m in
    let i = c.loop-i.i in
    let e = c.loop-i.invariant.0 in (
      ap (λ x. x * (m - i) / (i + 1)) e ∙ choose-turn m i (omega arith),
      subst (λ x. x * (m - i) ≤ 2 ^ most_doubt * most_doubt) (sym e) (choose-times most_doubt m i (omega arith) (m - i) (omega arith)),
    ) in
    let m = c.args.m in
    let i = c.loop-i.i in
    let h : c.loop-i.sum + c.loop-i.exactly * (m - i) / (i + 1) ≤ 2 ^ most_doubt + 2 ^ most_doubt =
    omega (arith, (next).0, c.loop-i.invariant.1, choices-fit most_doubt m i (omega arith), choose-fits most_doubt m (i + 1) (omega arith)) in
    search rules

pub loop-i-preserved : goal.loop-i-preserved
loop-i-preserved c =
    let next : (c.loop-i.exactly * (c.args.m - c.loop-i.i) / (c.loop-i.i + 1) ≡ choose_of c.args.m (c.loop-i.i + 1)) × (c.loop-i.exactly * (c.args.m - c.loop-i.i) ≤ 2 ^ most_doubt * most_doubt) =
    let m = c.args.m in
    let i = c.loop-i.i in
    let e = c.loop-i.invariant.0 in (
      ap (λ x. x * (m - i) / (i + 1)) e ∙ choose-turn m i (omega arith),
      subst (λ x. x * (m - i) ≤ 2 ^ most_doubt * most_doubt) (sym e) (choose-times most_doubt m i (omega arith) (m - i) (omega arith)),
    ) in
    ((next).0, ap₂ (λ a b. a + b) c.loop-i.invariant.1 (next).0 ∙ choices-turn _ _)

pub returns : goal.returns
returns c =
    let e : c.loop-i.i ≡ c.args.most = omega arith in
    c.loop-i.invariant.1 ∙ ap (choices_of _) e
