-- Where no class is chosen nothing changes; else the step at the chosen class. Its lead is within the limit, so that it can grow by 8.
use Rattle.std.specs.Prelude.{ℕ, List, Option, Some, ◌≡◌, ◌<◌, IfSome, unwrap_or}
use Rattle.std.proofs.Common.{ap, subst}
use borrow.Author.Rules.{rules}
use native.Mathlib.Omega.{arith}
use Rattle.basis.specs.Choice.{Chosen}
use Rattle.interpolation.proofs.Extended.{chosen_live, extends-same, extends-raised}
use Rattle.interpolation.proofs.node.extend_own.Goals as goal

chosen : {ds leads : List ℕ} {o : Option ℕ} {at : ℕ} → o ≡ Some at → Chosen 8 ds leads (unwrap_or o 8) → Chosen 8 ds leads at
chosen {ds} {leads} e h = subst (λ p. Chosen 8 ds leads (unwrap_or p 8)) e h

is_class : {o : Option ℕ} {at : ℕ} → o ≡ Some at → IfSome o (λ p. p < 8) → at < 8
is_class e h = subst (λ p. IfSome p (λ r. r < 8)) e h

pub returns-in_default : goal.returns-in_default
returns-in_default c =
    let e : unwrap_or c.choice.result 8 ≡ 8 = ap (λ o. unwrap_or o 8) c.in_default.is in
    extends-same _ _ _ _ (search rules) _ c.discrepancies-ds.ensures _ c.choice.ensures.0 (omega (arith, e))

pub bounds-leads-at : goal.bounds-leads-at
bounds-leads-at c = omega (arith, is_class c.in-Some.is c.choice.ensures.1)

pub overflow_add-leads : goal.overflow_add-leads
overflow_add-leads c =
    let l = chosen_live _ _ _ _ (search rules) _ c.discrepancies-ds.ensures _ (chosen c.in-Some.is c.choice.ensures.0) (is_class c.in-Some.is c.choice.ensures.1) in
    omega arith

pub returns : goal.returns
returns c =
    extends-raised _ _ _ _ (search rules) _ c.discrepancies-ds.ensures _ (chosen c.in-Some.is c.choice.ensures.0) _ _
    (is_class c.in-Some.is c.choice.ensures.1) (search rules) c.x_at.ensures c.next_rows.ensures
