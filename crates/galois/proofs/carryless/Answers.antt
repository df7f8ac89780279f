-- `galois::carryless` meets its contract: a multiple of a below 16 that a bit picks stays below 128.
use mathlib.Core.Path.{refl}
use native.Mathlib.Nat.{lt_of_le_of_lt}
use native.Mathlib.Omega.{arith}
use Rattle.lists.specs.Xor.{mul-bit-le}
use Rattle.galois.specs.Carryless.{carryless}
use Rattle.galois.proofs.carryless.Goals as goal

pub overflow_mul-result : goal.overflow_mul-result
overflow_mul-result c = record { fits = lt_of_le_of_lt (mul-bit-le _ _ (omega arith)) (omega arith) }

pub overflow_mul-result-3 : goal.overflow_mul-result-3
overflow_mul-result-3 c = record { fits = lt_of_le_of_lt (mul-bit-le _ _ (omega arith)) (omega arith) }

pub overflow_mul-result-5 : goal.overflow_mul-result-5
overflow_mul-result-5 c = record { fits = lt_of_le_of_lt (mul-bit-le _ _ (omega arith)) (omega arith) }

pub overflow_mul-result-7 : goal.overflow_mul-result-7
overflow_mul-result-7 c = record { fits = lt_of_le_of_lt (mul-bit-le _ _ (omega arith)) (omega arith) }

pub returns : goal.returns
unfolding carryless
returns c = refl
