-- Each return is one case of the three tests.
use Rattle.std.specs.Prelude.{◌≡◌, ◌<◌, ◌≤◌, IfSome, unwrap_or}
use Rattle.std.proofs.Common.{sym, ap, ◌∙◌, subst, arith}
use Rattle.basis.specs.Choice.{lead_at}
use Rattle.stepping.specs.Choosing.{better-zero, better-first, better-keeps, better-takes}
use Rattle.basis.proofs.step.better.Goals as goal

pub returns-then-ds-r-eq0 : goal.returns-then-ds-r-eq0
returns-then-ds-r-eq0 c = (sym (better-zero _ _ _ _ _ c.if-ds-r-eq0.true), c.requires.1)

pub returns-in_default : goal.returns-in_default
returns-in_default c =
    let e : unwrap_or c.args.best 8 ≡ 8 = ap (λ b. unwrap_or b 8) c.in_default.is in
    (sym (better-first _ _ _ _ _ c.if-ds-r-eq0.false (omega (arith, e))), c.requires.0)

pub returns-then-leads-held : goal.returns-then-leads-held
unfolding lead_at
returns-then-leads-held c =
    let e : unwrap_or c.args.best 8 ≡ c.in-Some.held = ap (λ b. unwrap_or b 8) c.in-Some.is in
    let l : c.in-Some.held < 8 = subst (λ b. IfSome b (λ k. k < 8)) c.in-Some.is c.requires.1 in
    let h : lead_at c.args.leads (unwrap_or c.args.best 8) ≤ lead_at c.args.leads c.args.r =
    subst (λ k. lead_at c.args.leads k ≤ lead_at c.args.leads c.args.r) (sym e) c.if-leads-held.true in
    (sym (better-keeps _ _ _ _ _ c.if-ds-r-eq0.false (omega (arith, e, l)) h ∙ e), l)

pub returns : goal.returns
unfolding lead_at
returns c =
    let e : unwrap_or c.args.best 8 ≡ c.in-Some.held = ap (λ b. unwrap_or b 8) c.in-Some.is in
    let l : c.in-Some.held < 8 = subst (λ b. IfSome b (λ k. k < 8)) c.in-Some.is c.requires.1 in
    let h : lead_at c.args.leads c.args.r < lead_at c.args.leads (unwrap_or c.args.best 8) =
    subst (λ k. lead_at c.args.leads c.args.r < lead_at c.args.leads k) (sym e) c.if-leads-held.false in
    (sym (better-takes _ _ _ _ _ c.if-ds-r-eq0.false (omega (arith, e, l)) h), c.requires.0)
