-- The loop's invariant: what is counted so far and the places still to come make the whole count.
use mathlib.Core.Path.{ap, ◌∙◌}
use native.Mathlib.Omega.{arith}
use Rattle.soft.specs.Blank.{flag_at}
use Rattle.soft.specs.Column.{places}
use Rattle.lists.specs.Count.{bit, bit_le}
use Rattle.lists.specs.Count.{from_bit}
use Rattle.known.proofs.Passing.{agreeing-next, agreeing-none}
use borrow.Author.Rules.{rules}
use Rattle.known.proofs.agreeing.Goals as goal

pub loop-p-preserved : goal.loop-p-preserved
loop-p-preserved c =
    let i = c.loop-p.invariant in
    let b = (from_bit _ c.from-n.ensures).0 in
    (omega (arith, i.0, b, bit_le c.agrees.result), omega (arith, i.1, agreeing-next c.args.places.now c.loop-p.p-index places (flag_at c.args.counts) c.args.codeword c.args.word (search rules) (b ∙ ap bit c.agrees.ensures)))

pub returns-clause-number : goal.returns-clause-number
returns-clause-number c = omega (arith, c.loop-p.invariant.1, agreeing-none c.args.places.now c.loop-p.p-index places (flag_at c.args.counts) c.args.codeword c.args.word (search rules))
