-- An even lead: none is near. An odd one: what the row holds is counted.
use mathlib.Core.Path.{sym, subst}
use Rattle.answers.specs.Answered.{Sound, sound-missed}
use Rattle.candidate.specs.Ranged.{workable}
use Rattle.search.specs.Governing.{sound-below}
use Rattle.tree.specs.Searching.{DecidedOf}
use Rattle.search.specs.Deciding.{decided-even, held-sound, decided-odd}
use Rattle.tree.proofs.decided.Goals as goal

pub returns-then-lead-eq0 : goal.returns-then-lead-eq0
returns-then-lead-eq0 c =
    record {
      decided = subst (DecidedOf _ _ _ _ _ _ _) (sym c.missed.ensures) (decided-even (workable c.args.frame.now.open.rate.ranged) _ _ _ _ _ _ c.if-lead-eq0.true);
      sound = subst (Sound _ _) (sym c.missed.ensures) (sound-missed c.requires);
    }

pub returns : goal.returns
returns c =
    let frame = c.args.frame.now in
    let C = c.candidate_of.ensures in
    record {
      decided = subst (DecidedOf _ _ _ _ _ _ _) (sym c.as_answer_here.ensures) (decided-odd (workable frame.open.rate.ranged) _ _ _ _ _ frame.flagged C _ c.tests_within-tests.ensures);
      sound = subst (Sound _ _) (sym c.as_answer_here.ensures) (sound-below (held-sound C) _);
    }
