-- No key up to the limit, a candidate that is too far, or one within T.
use mathlib.Core.Path.{refl}
use native.Mathlib.Omega.{arith}
use Rattle.candidate.specs.Ranged.{limit-small}
use Rattle.engine.proofs.Deciding.{none-solved, far-solved, near-solved}
use Rattle.engine.proofs.decide.Goals as goal

pub solve-requires : goal.solve-requires
solve-requires c = omega (arith, c.largest_key-limit.ensures, limit-small c.args.counted.now.rate.ranged c.args.counted.now.blanks)

pub returns-in_err-solved : goal.returns-in_err-solved
returns-in_err-solved c =
    rw c.from_residual.ensures
    (none-solved c.args.counted.now.rate.ranged c.args.word c.args.counted.now.counts c.args.counted.now.allowed c.requires c.top_order.ensures c.largest_key-limit.ensures
    c.in_err-solved.ensures)

pub returns-then-reach-distance : goal.returns-then-reach-distance
returns-then-reach-distance c = far-solved c.args.counted.now.rate.ranged _ _ c.args.counted.now.allowed c.requires c.top_order.ensures c.largest_key-limit.ensures _ c.in_ok-solved.ensures c.candidate_of.ensures c.reach.ensures c.distance.ensures (omega (arith, c.if-reach-distance.true))

pub returns : goal.returns
returns c = near-solved c.args.counted.now.rate.ranged _ _ c.args.counted.now.allowed c.requires c.top_order.ensures c.largest_key-limit.ensures _ c.in_ok-solved.ensures c.candidate_of.ensures c.reach.ensures c.distance.ensures (omega (arith, c.if-reach-distance.false)) refl c.without_z.ensures c.with_z.ensures (c.scaled-bytes.ensures _)
