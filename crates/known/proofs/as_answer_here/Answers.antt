-- The two cases.
use mathlib.Core.Path.{refl, sym, ap, ◌∙◌}
use Rattle.answers.specs.Result.{found-same, finding_of}
use Rattle.search.specs.Answered.{counted, answering}
use Rattle.std.specs.Prelude.{None}
use Rattle.answer.specs.declared.Answer.TheVariants.{Near}
use Rattle.search.specs.Governing.{below_none, below-some}
use Rattle.known.proofs.as_answer_here.Goals as goal

pub returns-then-tests-eq0 : goal.returns-then-tests-eq0
returns-then-tests-eq0 c = c.missed.ensures ∙ sym (ap finding_of (below_none _ _ _ _ c.if-tests-eq0.true))

pub returns : goal.returns
unfolding counted answering
returns c = found-same _ _ (ap (λ t. Near t None) c.known_total.ensures) refl refl refl ∙ sym (ap finding_of (below-some _ _ _ _ c.if-tests-eq0.false))
