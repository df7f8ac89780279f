-- M and T at a rate: what the rule says, and what the theory needs of it, for every member.
--
--   Workable k        g ≤ k and k + 2g ≤ n: the orders up to M number k, and there is a T
--   Reach k b T       T is the largest number with 2T + b < n − M − g
--   reach-is          within the limit of blanks there is one, reach_of k b; reach-only: and no other
--   reach-within, reach-none   above the limit there is none
--   ranks             k orders up to M are present
--   Repairable        so many wrong ones of the places that count can be repaired
--   radius            T of them, where b places do not count and b is within the limit
--   reach_in k columns T where the blank places are those of the columns; repairs-open: so many wrong ones of the others can be repaired
use Rattle.std.specs.Prelude.{Bool, ◌≡◌, List}
use Prim.Native.Nat.{ℕ, zero, suc, ◌+◌, ◌-◌, ◌*◌, ◌<◌, ◌≤◌}
use native.Mathlib.Omega.{arith}
use Rattle.lists.specs.Count.{count, count-nil, count-suc}
use Rattle.hermitian.specs.Present.{genus, genus-zero, genus-suc, genus-mono, genus-double}
use Rattle.hermitian.specs.Orders.{rank, rank-large}
use Rattle.hermitian.specs.Decoding.{Radius}
use Rattle.soft.specs.Blank.{open_at, blanks_of}
use Rattle.soft.specs.BlankLaws.{open-count}
use Rattle.soft.specs.Total.{everywhere}
use Rattle.family.specs.Member.{Member, places}
use Rattle.near.specs.Near.{m_of, blank_limit, reach_of}

pub count-everywhere : (n : ℕ) → count n everywhere ≡ n
count-everywhere zero = count-nil everywhere
count-everywhere (suc n) = omega (arith, count-suc n everywhere, count-everywhere n)

module _ (𝓜 : Member) where
  open 𝓜 use {w, wide}

  pub record Workable (k : ℕ) : Type 0 where
    pub least : genus w ≤ k
    pub most : k + 2 * genus w ≤ places 𝓜

  genus-some : 1 ≤ genus w
  genus-some = omega (arith, genus-mono wide, genus-suc 1, genus-suc 0, genus-zero)

  pub record Reach (k b T : ℕ) : Type 0 where
    pub fits : 2 * T + b < places 𝓜 - m_of 𝓜 k - genus w
    pub largest : (n : ℕ) → 2 * n + b < places 𝓜 - m_of 𝓜 k - genus w → n ≤ T

  pub reach-is : {k : ℕ} → Workable k → {b : ℕ} → b ≤ blank_limit 𝓜 k → Reach k b (reach_of 𝓜 k b)
  unfolding reach_of blank_limit m_of
  reach-is {k} h few = record { fits = omega (arith, h, genus-some); largest = λ n l. omega arith }

  pub reach-only : {k b T : ℕ} → Reach k b T → T ≡ reach_of 𝓜 k b
  unfolding reach_of blank_limit
  reach-only {k} {b} {T} r =
      let l : reach_of 𝓜 k b ≤ T = r.largest (reach_of 𝓜 k b) (omega (arith, r.fits)) in
      omega (arith, r.fits)

  pub reach-within : {k b T : ℕ} → Reach k b T → b ≤ blank_limit 𝓜 k
  unfolding blank_limit
  reach-within r = omega (arith, r.fits)

  pub reach-none : {k b T : ℕ} → blank_limit 𝓜 k < b → Reach k b T → ⊥
  reach-none h r = omega (arith, reach-within r)

  pub ranks : {k : ℕ} → Workable k → rank w (suc (m_of 𝓜 k)) ≡ k
  unfolding m_of
  ranks {k} h =
      let e : suc (k + genus w - 1) ≡ k + genus w = omega (arith, genus-some) in
      omega (arith, h, e, rank-large w wide (suc (k + genus w - 1)) (omega (arith, h, e, genus-double w)))

  abbrev pub Repairable : (ℕ → Bool) → ℕ → ℕ → Type 0
  Repairable counts reach k = Radius w (m_of 𝓜 k) reach (count (places 𝓜) counts)

  pub radius : {k : ℕ} → Workable k → (counts : ℕ → Bool) {b : ℕ} → b ≤ blank_limit 𝓜 k → count (places 𝓜) counts + b ≡ places 𝓜
      → Repairable counts (reach_of 𝓜 k b) k
  radius {k} h counts few all = omega (arith, (reach-is h few).fits)

  -- of the places that are not blank
  abbrev pub reach_in : ℕ → (ℕ → List ℕ) → ℕ
  reach_in k columns = reach_of 𝓜 k (blanks_of (places 𝓜) columns)

  pub repairs-open : {k : ℕ} → Workable k → (columns : ℕ → List ℕ) → blanks_of (places 𝓜) columns ≤ blank_limit 𝓜 k
      → Repairable (open_at columns) (reach_in k columns) k
  repairs-open h columns few = radius h (open_at columns) few (open-count (places 𝓜) columns)
