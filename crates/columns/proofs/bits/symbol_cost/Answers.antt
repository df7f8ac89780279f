-- `columns::bits::symbol_cost` meets its contract: the sum over four bits, written out; no value adds more than 128, so it fits.
use mathlib.Core.Path.{◌≡◌, ap, ◌∙◌}
use mathlib.Core.List.{List}
use Prim.Native.Nat.{ℕ, ◌+◌, ◌/◌, ◌%◌}
use native.Mathlib.Omega.{arith}
use lib.ListN.{get_or}
use Rattle.lists.specs.Count.{sum_of}
use Rattle.soft.specs.Bits.{bits, bit_cost, bit_of, symbol_cost}
use Rattle.soft.proofs.BitsLaws.{bit-cost-most}
use Rattle.columns.proofs.bits.symbol_cost.Goals as goal

four-added : (values : List ℕ) (s : ℕ) {a b c d : ℕ} → a ≡ bit_cost (get_or values 0 0) (s / 8 % 2) → b ≡ bit_cost (get_or values 1 0) (s / 4 % 2)
    → c ≡ bit_cost (get_or values 2 0) (s / 2 % 2) → d ≡ bit_cost (get_or values 3 0) (s % 2) → a + b + c + d ≡ symbol_cost bits values s
unfolding symbol_cost sum_of bit_of
four-added values s {d = d} e f g h =
    let last : d ≡ bit_cost (get_or values 3 0) (s / 1 % 2) = h ∙ ap (λ x. bit_cost (get_or values 3 0) (x % 2)) (omega arith) in
    omega arith

pub overflow_add-result : goal.overflow_add-result
overflow_add-result c = omega (arith, bit-cost-most _ _ c.bit_cost.ensures, bit-cost-most _ _ c.bit_cost-2.ensures)

pub overflow_add-result-2 : goal.overflow_add-result-2
overflow_add-result-2 c =
    omega (
      arith,
      bit-cost-most _ _ c.bit_cost.ensures,
      bit-cost-most _ _ c.bit_cost-2.ensures,
      bit-cost-most _ _ c.bit_cost-3.ensures,
    )

pub overflow_add-result-3 : goal.overflow_add-result-3
overflow_add-result-3 c =
    omega (
      arith,
      bit-cost-most _ _ c.bit_cost.ensures,
      bit-cost-most _ _ c.bit_cost-2.ensures,
      bit-cost-most _ _ c.bit_cost-3.ensures,
      bit-cost-most _ _ c.bit_cost-4.ensures,
    )

pub returns : goal.returns
returns c =
    four-added _ _ c.bit_cost.ensures c.bit_cost-2.ensures c.bit_cost-3.ensures
    c.bit_cost-4.ensures
