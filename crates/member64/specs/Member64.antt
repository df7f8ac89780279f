-- GF(64) with w = 8: 512 places. All that is proved here are the member's tests, and that of its α.
--
--   gf64       the field: bits are coefficients, α is 2, α ^ 6 = α + 1, which is 3
--   m64        the member
--   primitive-64   the powers of α are all elements but 0
use Rattle.std.specs.Prelude.{refl, T}
use Rattle.std.proofs.Common.{lit<, lit≤}
use Rattle.lists.specs.Count.{kept}
use Rattle.lists.specs.Every.{every, every₂, every₃}
use Rattle.lists.specs.Listed.{listed}
use Rattle.galois.specs.Binary as Binary
use Rattle.galois.specs.BinaryField.{Gf}
use Rattle.family.specs.Curve.{is_on_curve, fibre}
use Rattle.family.specs.Sums.{xor_of, each, one, sum_is, sums_from, sums_pass}
use Rattle.family.specs.Member.{Member, Tests, tested, is_full, fibre_sums}
use Rattle.functions.specs.Powers.{is_primitive}

-- 36 products of two powers of α, 216 of three, 63 inverses
pub cases-64 : Binary.Cases 6 3
unfolding every every₂ every₃ Binary.commutes Binary.associates Binary.inverts Binary.inverse Binary.power Binary.times Binary.shift_add Binary.xtime
cases-64 = record { positive = lit< tt; small = lit< tt; commuting = tt; associating = tt; inverting = tt }

abbrev pub gf64 : Gf
gf64 = record { bits = 6; red = 3; known = cases-64 }

pub tests-64 : Tests gf64 8
unfolding every is_full fibre_sums fibre kept is_on_curve listed sums_pass sums_from sum_is xor_of each one Binary.power Binary.times Binary.shift_add Binary.xtime
tests-64 = record { wide = lit≤ tt; square = refl; full = tt; x_sums = tt; y_sums = tt }

abbrev pub m64 : Member
m64 = tested gf64 8 tests-64

-- 63 powers
pub primitive-64 : T (is_primitive gf64 2)
unfolding is_primitive every Binary.power Binary.times Binary.shift_add Binary.xtime
primitive-64 = tt
