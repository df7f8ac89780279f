-- Which rates opening accepts at the modem of 64 places, and their T.
--
--   Rate rate            a rate: any from 6 to 52
--   rate_known, known-rate   the rates that pass the test
--   rate-workable        each has a T; rate-reach: with no more blank places than its limit
--   rate-blanks          that limit is 57 − M, where M is five more than the rate; so many leave T = 0
--   rate-orders          M is at least 11, so that the 98 bytes of a reading have room for the least Q
--   rate-6, rate-39, rate-49, rate-52   four of them (rate-reaches, in proofs/: T without blank places at three)
use Rattle.std.specs.Prelude.{true, ◌≡◌, ℕ, ◌+◌, ◌-◌, ◌≤◌}
use Rattle.std.proofs.Common.{subst, arith, lit≤}
use Rattle.code.specs.Encoding.{known_rate}
use Rattle.code.specs.Rates.{known-bounds, bounds-known}
use Rattle.near.specs.Reach.{reach-is}
use Rattle.near.specs.Here.{m_of, blank_limit, reach_of, Workable, IsReach}
use Rattle.near.proofs.Here.{m-is, blank-limit-is, workable, limit-reach}
use Rattle.family.specs.Member.{m16}

pub record Rate (rate : ℕ) : Type 0 where
  pub least : 6 ≤ rate
  pub most : rate ≤ 52

pub rate_known : {rate : ℕ} → Rate rate → known_rate rate ≡ true
rate_known r = bounds-known r.least r.most

pub known-rate : (rate : ℕ) → known_rate rate ≡ true → Rate rate
known-rate rate e = let b = known-bounds rate e in record { least = b.0; most = b.1 }

pub rate-workable : {rate : ℕ} → Rate rate → Workable rate
rate-workable r = workable r.least r.most

pub rate-reach : {rate b : ℕ} → Rate rate → b ≤ blank_limit rate → IsReach rate b (reach_of rate b)
rate-reach r few = reach-is m16 (rate-workable r) few

-- document 02: 'the blank limit (57 − M)', 'M = k + 5'
pub rate-blanks : {rate : ℕ} → Rate rate → (blank_limit rate ≡ 57 - (rate + 5)) × IsReach rate (57 - (rate + 5)) 0
rate-blanks {rate} r =
    let e : blank_limit rate ≡ 57 - (rate + 5) = omega (arith, blank-limit-is rate, m-is rate) in
    (e, subst (λ b. IsReach rate b 0) e (limit-reach (rate-workable r)))

pub rate-orders : {rate : ℕ} → Rate rate → 11 ≤ m_of rate
rate-orders {rate} r = omega (arith, m-is rate, r.least)

pub rate-6 : Rate 6
rate-6 = record { least = lit≤ tt; most = lit≤ tt }

pub rate-39 : Rate 39
rate-39 = record { least = lit≤ tt; most = lit≤ tt }

pub rate-49 : Rate 49
rate-49 = record { least = lit≤ tt; most = lit≤ tt }

pub rate-52 : Rate 52
rate-52 = record { least = lit≤ tt; most = lit≤ tt }
