-- `codeword_of` meets its contract: the values of the message's function.
use mathlib.Core.Path.{ap, ◌∙◌}
use Rattle.lists.specs.Listed.{listed}
use Rattle.family.specs.Member.{m16, places}
use Rattle.family.specs.Evaluation.{function-codeword}
use Rattle.code.specs.Encoding.{encode_of}
use Rattle.code.specs.Rates.{longest-is}
use Rattle.code.specs.Evaluation.{value_of}
use Rattle.encoding.proofs.codeword_of.Goals as goal

pub returns : goal.returns
returns c =
    c.codeword.ensures
    ∙ ap (λ f. listed (places m16) (value_of f)) c.function_of.ensures
    ∙ function-codeword m16 _
    ∙ ap (λ k. encode_of k c.args.message.now) longest-is
