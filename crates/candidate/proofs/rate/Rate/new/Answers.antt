-- A known rate is within the bounds.
use mathlib.Core.Path.{sym, ◌∙◌}
use Rattle.candidate.specs.Ranged.{known-range}
use Rattle.candidate.proofs.rate.Rate.new.Goals as goal

pub invariant_of-result : goal.invariant_of-result
invariant_of-result c = record { ranged = known-range _ (sym c.known_rate.ensures ∙ c.if-not-known_rate.false) }
