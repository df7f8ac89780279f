-- The part lent is the message's first k symbols.
use mathlib.Core.Path.{◌∙◌}
use native.Mathlib.Omega.{arith}
use Rattle.std.proofs.Common.{length-take}
use Rattle.code.specs.Rates.{longest}
use Rattle.family.specs.Member.{m16}
use Rattle.family.specs.Evaluation.{encode-beyond}
use Rattle.candidate.proofs.encoded.Goals as goal

pub returns : goal.returns
returns c =
    let r = c.args.rate in
    c.codeword_of.ensures ∙ encode-beyond m16 longest r.k _ (omega (arith, length-take r.k c.args.message, r.ranged.most)) (omega (arith, length-take r.k c.args.message))
