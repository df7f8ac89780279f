-- `encode_into` meets its contract: the codeword is copied over what the part held.
use mathlib.Core.Path.{ap, ◌∙◌}
use Rattle.lists.specs.Over.{over}
use Rattle.encoding.proofs.encode_into.Goals as goal

pub returns : goal.returns
returns c =
    c.copy.ensures
    ∙ ap (λ v. over v c.args.part.now) c.codeword_of-word.ensures
