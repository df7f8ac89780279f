-- The message in the coefficients, and its codeword.
use Rattle.candidate.proofs.Showing.{shown-made}
use Rattle.candidate.proofs.shown.Goals as goal

pub returns : goal.returns
returns c =
    shown-made c.args.rate.ranged _ _ _ c.coefficients-function.ensures c.message_of-message.ensures c.encoded-codeword.ensures
