-- `decode_bits` meets its contract: what decoding from bit values answers.
use Rattle.promises.specs.Told.{by_bits}
use Rattle.promises.proofs.decode_bits.Goals as goal

pub returns : goal.returns
returns c = by_bits c.decode_bits.ensures
