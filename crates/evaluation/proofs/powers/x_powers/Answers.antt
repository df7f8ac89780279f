-- `x_powers` meets its contract: the table's rule, computed at all lanes of its sixteen entries.
use Rattle.lists.specs.Every.{every}
use Rattle.galois.specs.Binary as Binary
use Rattle.hermitian.specs.Orders.{is_present}
use Rattle.packing.specs.Bits.{bit_at, from_bits}
use Rattle.planes.specs.Lanes.{lane}
use Rattle.planes.specs.Arrays.{planes_in}
use Rattle.functions.specs.Values as Values
use Rattle.evaluation.proofs.Tabled.{holds, x-powers}
use Rattle.evaluation.proofs.powers.x_powers.Goals as goal

pub returns : goal.returns
unfolding holds every lane from_bits bit_at planes_in Values.x_power_at is_present Binary.power Binary.times Binary.shift_add Binary.xtime
returns c = x-powers _ tt
