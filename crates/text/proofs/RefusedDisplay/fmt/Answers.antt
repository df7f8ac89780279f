-- The word, and then the number.
use Rattle.std.proofs.Common.{ap}
use Rattle.std.specs.Prelude.{List, ℕ, ◌++◌, ◌∷◌, []}
use Rattle.std.proofs.Output.{has_written_of_eq}
use native.Mathlib.Omega.{arith}
use Rattle.text.specs.Text.{refused_line}
use Rattle.text.proofs.Printed.{line-is}
use Rattle.text.proofs.RefusedDisplay.fmt.Goals as goal

pub returns-clause-writes : goal.returns-clause-writes
unfolding refused_line
returns-clause-writes g c plain ok =
    has_written_of_eq _ _ _ _ _
    (ap (λ (l : List ℕ). (114 ∷ 101 ∷ 102 ∷ 117 ∷ 115 ∷ 101 ∷ 100 ∷ 32 ∷ []) ++ l) (line-is c.args.self.now.0 10 (omega arith)))
    (c.writeln.ensures.writes plain ok)
