-- `x_duals` meets its contract: the table's rule, computed at all lanes of its sixteen entries.
use Rattle.lists.specs.Every.{every}
use Rattle.galois.specs.Binary as Binary
use Rattle.packing.specs.Bits.{bit_at, from_bits}
use Rattle.planes.specs.Lanes.{lane}
use Rattle.planes.specs.Arrays.{planes_in}
use Rattle.functions.specs.Duals as Duals
use Rattle.hermitian.specs.Orders.{is_present}
use Rattle.coefficients.proofs.Tabled.{holds, x-duals}
use Rattle.coefficients.proofs.tables.x_duals.Goals as goal

pub returns : goal.returns
unfolding holds every lane from_bits bit_at planes_in Duals.x_dual Duals.dual_number is_present Binary.power Binary.times Binary.shift_add Binary.xtime
returns c = x-duals _ tt
