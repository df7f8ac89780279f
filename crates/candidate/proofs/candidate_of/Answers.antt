-- The message by division, and its codeword.
use Rattle.candidate.proofs.Quotient.{candidate-made}
use borrow.Author.Rules.{rules}
use Rattle.near.specs.Near as Near
use Rattle.hermitian.specs.Present.{genus}
use Rattle.candidate.proofs.candidate_of.Goals as goal

pub divide-function-requires : goal.divide-function-requires
unfolding Near.m_of genus
divide-function-requires c = search rules

pub returns : goal.returns
returns c =
    candidate-made c.args.rate.ranged _ _ _ _ _ _ _ c.without_z.ensures
    c.with_z.ensures c.top_order.ensures c.divide-function.ensures
    c.message_of-message.ensures c.encoded-codeword.ensures
