-- `columns::column::two_least` meets its contract. The loop's invariant: `least` is the least number of the symbols passed, `next` the next, and all of
-- them are below the one that both start with.
use mathlib.Core.Path.{◌≡◌, sym}
use Prim.Native.Nat.{ℕ, ◌<◌}
use native.Mathlib.Omega.{arith}
use lib.ListN.{length}
use borrow.Author.Count.{below_more}
use borrow.Author.Rules.{rules}
use Rattle.lists.specs.Least.{least-nil, next-nil, least-turn, next-turn, least-next}
use Rattle.soft.specs.Column.{second_of, number_of}
use Rattle.columns.specs.Two.{above}
use Rattle.columns.proofs.Turns.{least-number, next-number, number_fits}
use Rattle.columns.proofs.column.two_least.Goals as goal

pub loop-symbol-init : goal.loop-symbol-init
loop-symbol-init c = (omega arith, sym (least-nil above _), sym (next-nil above _), λ s l. absurd (omega arith))

pub loop-symbol-preserved : goal.loop-symbol-preserved
loop-symbol-preserved c =
    let i = c.loop-symbol.invariant in
    let number = c.number-number.ensures in (
      omega arith,
      least-turn above _ _ _ _ _ i.1 number.0 c.min-least.ensures,
      next-turn above _ _ _ _ _ _ i.2 i.1 number.0 c.next_with-next.ensures,
      below_more _ _ i.3 (omega arith),
    )

pub returns : goal.returns
returns c =
    let i = c.loop-symbol.invariant in
    let column = c.args.column in
    let l : length column ≡ 16 = search rules in
    let e : c.loop-symbol.symbol ≡ 16 = omega arith in
    let most : (s : ℕ) → s < 16 → number_of 16 column s < above = λ s h. i.3 s (omega arith) in
    let second : c.loop-symbol.next ≡ number_of 16 column (second_of column) = next-number column l (omega arith) above most _ (rw e at i.2) in
    record {
      best = least-number column l (omega arith) above most _ (rw e at i.1);
      second = second;
      in_order = omega (arith, i.1, i.2, least-next above (number_of 16 column) c.loop-symbol.symbol);
      fits = omega (arith, second, number_fits column l (omega arith) above most);
    }
