-- `doubt::clamp` meets its contract: one of the three numbers, as the definition has them.
use Rattle.std.specs.Prelude.{ℕ, ◌≡◌, ◌≤◌, min, max}
use Rattle.std.proofs.Common.{sym, ◌∙◌, arith}
use Rattle.std.proofs.Math.Decide.{dec_le}
use Rattle.soft.specs.Threshold.{clamp_of}
use Rattle.soft.specs.ThresholdLaws.{clamp-few, clamp-none, clamp-many}
use Rattle.doubt.proofs.clamp.Goals as goal

held : (most count : ℕ) → min (max count 1) most ≡ clamp_of most count
held most count = go (dec_le most count) (dec_le 1 count)
  where
    go : Dec (most ≤ count) → Dec (1 ≤ count) → min (max count 1) most ≡ clamp_of most count
    go (yes m) d = omega arith ∙ sym (clamp-many _ _ m)
    go (no m) (yes s) = omega arith ∙ sym (clamp-few _ _ s (omega arith))
    go (no m) (no s) = omega arith ∙ sym (clamp-none _ _ (omega arith) (omega arith))

pub returns : goal.returns
returns c = omega (arith, c.min.ensures, c.max.ensures, held c.args.most c.args.count)
