-- `y_duals` meets its contract: the table's rule, computed at all lanes of its four entries.
use Rattle.lists.specs.Every.{every}
use Rattle.galois.specs.Binary as Binary
use Rattle.packing.specs.Bits.{bit_at, from_bits}
use Rattle.planes.specs.Lanes.{lane}
use Rattle.planes.specs.Arrays.{planes_in}
use Rattle.functions.specs.Duals as Duals
use Rattle.lists.specs.Count.{kept}
use Rattle.family.specs.Curve.{y_of, fibre, is_on_curve}
use Rattle.coefficients.proofs.Tabled.{holds, y-duals}
use Rattle.coefficients.proofs.tables.y_duals.Goals as goal

pub returns : goal.returns
unfolding holds every lane from_bits bit_at planes_in Duals.dual_number y_of fibre kept is_on_curve Binary.power Binary.times Binary.shift_add Binary.xtime
returns c = y-duals _ tt
