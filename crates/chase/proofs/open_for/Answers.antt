-- What is not asked by its form, or by its blank places; and what is.
use mathlib.Core.Bool.{true}
use mathlib.Core.Path.{◌≡◌, refl, sym, ap, ◌∙◌, subst}
use native.Mathlib.Omega.{arith}
use Rattle.family.specs.Member.{m16}
use Rattle.near.specs.Here.{blank_limit}
use Rattle.search.specs.CallLaws.{asked-form, unasked-form, unasked-blank}
use Rattle.search.specs.OpenFlags.{blank-number, flags-marked}
use Rattle.chase.specs.Call.{scope64, Asked, well_formed}
use Rattle.chase.proofs.open_for.Goals as goal

pub returns-then-not-well_formed-clause-unasked : goal.returns-then-not-well_formed-clause-unasked
returns-then-not-well_formed-clause-unasked c = unasked-form scope64 _ _ _ _ (grind arith)

pub returns-then-blank_limit-blanks-clause-unasked : goal.returns-then-blank_limit-blanks-clause-unasked
returns-then-blank_limit-blanks-clause-unasked c =
    unasked-blank scope64 _ _ _ _ _ _ (blank-number m16 _ _ c.requires _ c.blanks-blanks.ensures)
    (c.blank_limit.ensures ∙ ap blank_limit c.in_ok-rate.ensures.value) c.if-blank_limit-blanks.true

pub returns-clause-asked : goal.returns-clause-asked
returns-clause-asked c =
    let same = c.in_ok-rate.ensures.value in
    let formed : well_formed c.args.rate c.args.costs.now c.args.doubtful c.args.doubt ≡ true = grind arith in
    let number = blank-number m16 _ _ c.requires _ c.blanks-blanks.ensures in
    let limit = c.blank_limit.ensures ∙ ap blank_limit same in
    let may-ask : Asked c.args.rate c.args.costs.now c.args.doubtful c.args.doubt =
    asked-form scope64 _ _ _ _ formed (omega (arith, number, limit, c.if-blank_limit-blanks.false)) in
    record {
      asked = subst (λ k. Asked k c.args.costs.now c.args.doubtful c.args.doubt) (sym same) may-ask;
      rate_is = same;
      counts_are = refl;
      flagged = flags-marked m16 _ _ c.requires _ c.blanks-blanks.ensures _ may-ask.size _ c.blank_limit.ensures c.if-blank_limit-blanks.false;
    }
