-- `summary::whole_summary` meets its contract: when all symbols are passed the arrays hold the best symbols, their costs and the second costs.
use mathlib.Core.Path.{◌≡◌, ◌∙◌}
use Prim.Native.Nat.{ℕ, ◌<◌, ◌≤◌}
use native.Mathlib.Omega.{arith}
use Rattle.lists.specs.Listed.{listed}
use Rattle.soft.specs.Column.{places, symbols, ceiling, column_of, cost_of}
use Rattle.soft.specs.ColumnLaws.{column-length}
use Rattle.soft.specs.Mark.{plain_gap}
use Rattle.summary.proofs.Turns.{costs-most, held-order, symbols-end, least-end, gaps-end}
use Rattle.summary.proofs.whole_summary.Goals as goal

pub gaps_of-gaps-requires : goal.gaps_of-gaps-requires
gaps_of-gaps-requires c = held-order _ c.held_of-held.ensures

pub flags_of-counts-requires : goal.flags_of-counts-requires
flags_of-counts-requires c =
    let most : (p s : ℕ) → s < symbols → cost_of (column_of symbols c.args.costs.now p) s ≤ ceiling =
    costs-most _ (λ i. omega (arith, c.type_inv.costs i)) in
    let gaps : c.gaps_of-gaps.result ≡ listed places (plain_gap (column_of symbols c.args.costs.now)) =
    c.gaps_of-gaps.ensures ∙ gaps-end (column_of symbols _) (λ p l. column-length symbols _ p) (most) c.held_of-held.ensures in
    gaps

pub returns : goal.returns
returns c =
    let most : (p s : ℕ) → s < symbols → cost_of (column_of symbols c.args.costs.now p) s ≤ ceiling =
    costs-most _ (λ i. omega (arith, c.type_inv.costs i)) in
    let gaps : c.gaps_of-gaps.result ≡ listed places (plain_gap (column_of symbols c.args.costs.now)) =
    c.gaps_of-gaps.ensures ∙ gaps-end (column_of symbols _) (λ p l. column-length symbols _ p) (most) c.held_of-held.ensures in
    record {
      wide = λ p l. column-length symbols _ p;
      best = c.symbols_of.ensures ∙ symbols-end (column_of symbols _) (λ p l. column-length symbols _ p) (most) c.held_of-held.ensures;
      least = least-end (column_of symbols _) (λ p l. column-length symbols _ p) (most) c.held_of-held.ensures;
      gaps = gaps;
      counts = c.flags_of-counts.ensures;
    }
