-- `summary::summary_of` meets its contract: zeros for the costs that the table lacks leave its columns as they are.
use mathlib.Core.Path.{ap, ◌∙◌}
use Rattle.soft.specs.Column.{symbols, column_of}
use Rattle.summary.proofs.Turns.{padded-column, summary-same}
use Rattle.summary.proofs.summary_of.Goals as goal

pub returns : goal.returns
returns c =
    summary-same _ _ (λ p l. ap (λ t. column_of symbols t p) c.padded.ensures ∙ padded-column _ p l) c.whole_summary-2.ensures
