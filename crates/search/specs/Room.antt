-- What follows of a rate that can be worked with: how large M and the limit of keys can be. For every member.
--
--   top-room       M and the genus are less than the number of places
--   limit-room     the limit of keys is less than twice the number of places: values at the places determine such a Q
use Rattle.std.specs.Prelude.{ℕ, ◌+◌, ◌*◌, ◌<◌}
use Rattle.std.proofs.Common.{arith}
use Rattle.hermitian.specs.Present.{genus, genus-zero, genus-suc, genus-mono}
use Rattle.hermitian.specs.Orders.{order_of-most}
use Rattle.hermitian.specs.Repair.{limit}
use Rattle.family.specs.Member.{Member, places}
use Rattle.near.specs.Near.{m_of, reach_of, blank_limit}
use Rattle.near.specs.Reach.{Workable}
use Rattle.near.specs.Interpolated.{limit_of}

module _ {𝓜 : Member} {k : ℕ} (rate : Workable 𝓜 k) where
  open 𝓜 use {w, wide}

  pub top-room : m_of 𝓜 k + genus w < places 𝓜
  unfolding m_of
  top-room = omega (arith, rate, genus-mono wide, genus-suc 1, genus-suc 0, genus-zero)

  pub limit-room : (b : ℕ) → limit_of 𝓜 (reach_of 𝓜 k b) k < 2 * places 𝓜
  unfolding limit_of limit reach_of blank_limit
  limit-room b = omega (arith, top-room, order_of-most w wide (reach_of 𝓜 k b))
