-- T is a message symbol's number, so that the order of this symbol is the T-th present order, and the key is small.
use mathlib.Core.Path.{◌≡◌, ap, ◌∙◌}
use Prim.Native.Nat.{ℕ, ◌+◌, ◌*◌, ◌%◌, ◌≤◌}
use native.Mathlib.Nat.{mod-eq_of_lt}
use native.Mathlib.Omega.{arith}
use Rattle.hermitian.specs.Orders.{order_of}
use Rattle.hermitian.specs.Repair.{limit}
use Rattle.coefficients.specs.Bytes.{x_order}
use Rattle.code.specs.Rates.{longest}
use Rattle.near.specs.Here.{m_of, reach_of, limit_of}
use Rattle.near.specs.Interpolated as Interpolated
use Rattle.candidate.specs.Ranged.{Ranged, reach-small, limit-small}
use Rattle.candidate.proofs.rate.Rate.largest_key.Goals as goal

module _ {k : ℕ} (rate : Ranged k) (b : ℕ) {t o m : ℕ} (t-is : t ≡ reach_of k b) (o_is : o ≡ order_of x_order (t % longest)) (m-is : m ≡ m_of k) where
  key-is : 2 * (o + m) + 1 ≡ limit_of k b
  unfolding Interpolated.limit_of limit
  key-is =
      let s : t % longest ≡ reach_of k b = mod-eq_of_lt (omega (arith, t-is, reach-small k b)) ∙ t-is in
      omega (arith, o_is ∙ ap (order_of x_order) s, m-is)

  key-small : 2 * (o + m) + 1 ≤ 127
  key-small = omega (arith, key-is, limit-small rate b)

pub overflow_add-result : goal.overflow_add-result
overflow_add-result c =
    omega (arith, key-small c.args.self.ranged _ c.reach.ensures c.order.ensures c.top_order.ensures)

pub overflow_mul-result : goal.overflow_mul-result
overflow_mul-result c =
    omega (arith, key-small c.args.self.ranged _ c.reach.ensures c.order.ensures c.top_order.ensures)

pub overflow_add-result-2 : goal.overflow_add-result-2
overflow_add-result-2 c =
    omega (arith, key-small c.args.self.ranged _ c.reach.ensures c.order.ensures c.top_order.ensures)

pub returns : goal.returns
returns c = key-is c.args.self.ranged _ c.reach.ensures c.order.ensures c.top_order.ensures
