-- Each return is what building and the burst's place lead to.
use mathlib.Core.Path.{refl, sym, ap₂, ◌∙◌}
use Prim.Native.Nat.{ℕ}
use borrow.Author.Rules.{rules}
use borrow.Author.Tests.{leb-true}
use Rattle.refusals.specs.Numbers.{never-accepted}
use Rattle.superframe.specs.Superframe as Superframe
use Rattle.bursts.proofs.Struck.{through-refused, through-beyond, through-struck}
use Rattle.bursts.proofs.through_burst.Goals as goal

pub returns-in-Err : goal.returns-in-Err
returns-in-Err c =
    ap₂ (λ (n s : ℕ). Superframe.taken n s c.args.out.now) c.told.ensures.0 c.told.ensures.1
    ∙ through-refused _ _ _ _ _ c.in-Err.ensures (never-accepted _)

pub returns-then-not-lies_within : goal.returns-then-not-lies_within
returns-then-not-lies_within c =
    ap₂ (λ (n s : ℕ). Superframe.taken n s c.args.out.now) c.told-then-not-lies_within.ensures.0 c.told-then-not-lies_within.ensures.1
    ∙ through-beyond _ _ _ _ _ c.in_default.ensures refl (sym c.lies_within.ensures ∙ c.if-not-lies_within.true)

pub strike-requires : goal.strike-requires
strike-requires c = (search rules, leb-true _ _ (sym c.lies_within.ensures ∙ c.if-not-lies_within.false))

pub returns : goal.returns
returns c =
    through-struck _ _ _ _ _ c.in_default.ensures refl
    (sym c.lies_within.ensures ∙ c.if-not-lies_within.false) c.strike.ensures c.take_apart.ensures
