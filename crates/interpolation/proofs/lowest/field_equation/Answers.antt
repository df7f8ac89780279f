-- Two bytes are 1, those of x^16 and of x.
use Rattle.interpolation.proofs.Shown.{field-bytes}
use Rattle.interpolation.proofs.lowest.field_equation.Goals as goal

pub returns : goal.returns
returns c = field-bytes
