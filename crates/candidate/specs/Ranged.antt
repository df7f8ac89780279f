-- The rates by their bounds.
--
--   Ranged k        k from the smallest rate to the largest
--   known-range     so is every known rate
--   workable        such a rate has a T
--   top_small       M is at most 57
--   reach-small     T is at most 28, however many places are blank
--   limit-small     the limit of keys is at most 127, the largest key that a row has room for
use Rattle.std.specs.Prelude.{true, ◌≡◌, ℕ, ◌≤◌}
use Rattle.std.proofs.Common.{arith}
use Rattle.code.specs.Encoding.{least_rate, most_rate, known_rate}
use Rattle.code.specs.Rates.{known-bounds}
use Rattle.near.specs.Here.{m_of, reach_of, Workable, limit_of}
use Rattle.near.proofs.Here.{genus-4, workable as within}
use Rattle.near.specs.Near as Near
use Rattle.hermitian.specs.Present.{genus}
use Rattle.search.specs.Room.{top-room, limit-room}

pub record Ranged (k : ℕ) : Type 0 where
  pub least : least_rate ≤ k
  pub most : k ≤ most_rate

pub known-range : (k : ℕ) → known_rate k ≡ true → Ranged k
known-range k e = let h = known-bounds k e in record { least = omega arith; most = omega arith }

pub workable : {k : ℕ} → Ranged k → Workable k
workable h = within (omega arith) (omega arith)

pub top_small : {k : ℕ} → Ranged k → m_of k ≤ 57
top_small h = omega (arith, top-room (workable h), genus-4)

pub reach-small : (k b : ℕ) → reach_of k b ≤ 28
unfolding Near.reach_of Near.blank_limit genus
reach-small k b = omega arith

pub limit-small : {k : ℕ} → Ranged k → (b : ℕ) → limit_of k b ≤ 127
limit-small h b = omega (arith, limit-room (workable h) b)
