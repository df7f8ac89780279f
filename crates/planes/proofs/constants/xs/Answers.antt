use Rattle.lists.specs.Every.{every}
use Rattle.galois.specs.Gf16.{gf16}
use Rattle.family.specs.Member.{m16, places}
use Rattle.packing.specs.Bits.{bit_at, from_bits}
use Rattle.planes.specs.Lanes.{lane}
use Rattle.planes.specs.Elements.{carries-tested}
use Rattle.planes.specs.Arrays.{planes_in}
use Rattle.family.specs.Curve.{x_of}
use Rattle.planes.proofs.constants.xs.Goals as goal

pub returns : goal.returns
unfolding every lane from_bits bit_at planes_in
returns c = carries-tested gf16 (places m16) (x_of 4) _ tt
