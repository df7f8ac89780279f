-- Two numbers with one remainder differ by a multiple of the divisor.
--
--   residue-multiple   the larger is the smaller plus a multiple of the divisor
--   residue-gap        so it is larger by the divisor at least, where they differ
use Rattle.std.specs.Prelude.{◌≡◌, ℕ, zero, suc, ◌+◌, ◌*◌, ◌-◌, ◌/◌, ◌%◌, ◌<◌, ◌≤◌}
use Rattle.std.proofs.Common.{ap, div-add-mod', mul-le-mul_right, add-sub_of_le, suc-mul, arith}
use Rattle.std.proofs.Math.Decide.{dec_le}

pub residue-multiple : {l m : ℕ} (s : ℕ) → 0 < s → l ≤ m → l % s ≡ m % s → (q : ℕ) × (m ≡ l + q * s)
residue-multiple {l} {m} s h le e = go (dec_le (l / s) (m / s))
  where
    go : Dec (l / s ≤ m / s) → (q : ℕ) × (m ≡ l + q * s)
    go (yes d) =
        let q = m / s - l / s in
        (q, omega (arith, ap (λ x. x * s) (add-sub_of_le d), div-add-mod' l s, div-add-mod' m s))
    go (no d) = absurd (omega (arith, mul-le-mul_right {m = suc (m / s)} {n = l / s} s (omega arith), div-add-mod' l s, div-add-mod' m s))

pub residue-gap : {l m : ℕ} (s : ℕ) → 0 < s → l < m → l % s ≡ m % s → l + s ≤ m
residue-gap {l} {m} s h lt e = go (residue-multiple s h (omega arith) e)
  where
    go : (q : ℕ) × (m ≡ l + q * s) → l + s ≤ m
    go t = more t.0 t.1
      where
        more : (q : ℕ) → m ≡ l + q * s → l + s ≤ m
        more zero p = absurd (omega arith)
        more (suc q) p = omega (arith, suc-mul q s)
