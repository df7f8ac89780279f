-- The status beside its answer is what was taken.
use mathlib.Core.Path.{◌∙◌, ap₂}
use Prim.Native.Nat.{ℕ}
use Rattle.superframe.specs.Superframe as Superframe
use Rattle.taking_apart.proofs.take_apart.Goals as goal

pub returns : goal.returns
returns c = ap₂ (λ (n s : ℕ). Superframe.taken n s c.status_of.new.messages) c.told.ensures.0 c.told.ensures.1 ∙ c.status_of.ensures
