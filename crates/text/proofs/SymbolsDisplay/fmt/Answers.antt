-- One digit more at each turn.
use Rattle.std.specs.Prelude.{List, ℕ, ◌++◌, map, take}
use Rattle.std.proofs.Common.{rules, sym, ap, ◌∙◌}
use Rattle.std.proofs.Output.{has_written_of_eq, has_written_append}
use Rattle.std.proofs.lemmas.List.{map_more}
use Rattle.text.specs.Text.{hex_of}
use Rattle.text.proofs.Printed.{digit-is}
use Rattle.text.proofs.SymbolsDisplay.fmt.Goals as goal

pub loop-symbol-preserved : goal.loop-symbol-preserved
loop-symbol-preserved g c plain =
    let symbols = c.args.self.now.0.now in
    let i = c.loop-symbol.symbol-index in
    has_written_of_eq _ _ _ _ _
    (ap (λ (l : List ℕ). map hex_of (take i symbols) ++ l) (digit-is _) ∙ sym (map_more hex_of symbols i 0 c.loop-symbol-test.true))
    (has_written_append _ _ _ _ _ _ (c.loop-symbol.invariant plain) (search rules))
