use mathlib.Core.Path.{◌≡◌}
use Rattle.lists.specs.Choices.{choose_of, choices_of}
use Rattle.known.proofs.choices.Given as goal

abbrev pub invariant-loop-i : goal.invariant-loop-i
invariant-loop-i l = (l.exactly ≡ choose_of l.m l.i) × (l.sum ≡ choices_of l.m l.i)
