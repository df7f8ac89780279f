use Rattle.lists.specs.Every.{every}
use Rattle.galois.specs.Gf16.{gf16}
use Rattle.family.specs.Member.{m16, places}
use Rattle.packing.specs.Bits.{bit_at, from_bits}
use Rattle.planes.specs.Lanes.{lane}
use Rattle.planes.specs.Elements.{carries-tested}
use Rattle.planes.specs.Arrays.{planes_in}
use Rattle.lists.specs.Count.{kept}
use Rattle.galois.specs.Binary as Binary
use Rattle.family.specs.Curve.{y_of, fibre, is_on_curve}
use Rattle.planes.proofs.constants.ys.Goals as goal

pub returns : goal.returns
unfolding every lane from_bits bit_at planes_in y_of fibre kept is_on_curve Binary.power Binary.times Binary.shift_add Binary.xtime
returns c = carries-tested gf16 (places m16) (y_of gf16 4) _ tt
