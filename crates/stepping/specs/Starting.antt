-- The start rows place by place, for every member, and the first key of a class as code computes it.
--
--   FirstTerm M r p s whole slope   the values, at the place p and with the symbol s there, of the first term of class r: a power of y, or with z that
--                        power times the symbol, and the power as slope
--   first_plain, first-z a class without z, and one with it
--   rows-started         rows that have them at every place, with the word's symbols, are the start rows
--   lead_plain, lead-z   the first key of such a class
use Rattle.std.specs.Prelude.{◌≡◌, List, ◌≢◌, ℕ, suc, ◌+◌, ◌-◌, ◌*◌, ◌/◌, ◌%◌, ◌<◌, get_or}
use Rattle.std.proofs.Common.{sym}
use Rattle.std.proofs.Math.Path.{ap}
use Rattle.galois.specs.BinaryField.{GF, K, to_f}
use Rattle.hermitian.specs.Keys.{key, z_power, first, first-even, first-odd}
use Rattle.family.specs.Member.{Member, places}
use Rattle.values.specs.Holds.{Values}
use Rattle.values.specs.Start.{StartRows, y_power_at}
use Rattle.stepping.specs.Step.{classes}

module _ (𝓜 : Member) where
  open 𝓜 use {gf, w, wide}
  open K gf use {◌⊗◌, 𝟘}

  pub record FirstTerm (M r p : ℕ) (s whole slope : GF gf) : Type 0 where
    pub plain_whole : r % 2 ≡ 0 → whole ≡ y_power_at 𝓜 (r / 2) p
    pub plain_slope : r % 2 ≡ 0 → slope ≡ 𝟘
    pub z_whole : r % 2 ≢ 0 → whole ≡ s ⊗ y_power_at 𝓜 (z_power w M (r / 2)) p
    pub z_slope : r % 2 ≢ 0 → slope ≡ y_power_at 𝓜 (z_power w M (r / 2)) p

  module _ {M r p : ℕ} {s whole slope : GF gf} where
    pub first_plain : r % 2 ≡ 0 → whole ≡ y_power_at 𝓜 (r / 2) p → slope ≡ 𝟘 → FirstTerm M r p s whole slope
    first_plain z e f = record { plain_whole = λ t. e; plain_slope = λ t. f; z_whole = λ t. absurd (t z); z_slope = λ t. absurd (t z) }

    pub first-z : r % 2 ≢ 0 → whole ≡ s ⊗ y_power_at 𝓜 (z_power w M (r / 2)) p → slope ≡ y_power_at 𝓜 (z_power w M (r / 2)) p → FirstTerm M r p s whole slope
    first-z n e f = record { plain_whole = λ t. absurd (n t); plain_slope = λ t. absurd (n t); z_whole = λ t. e; z_slope = λ t. f }

  pub rows-started : (M : ℕ) (word : List ℕ) {rows : ℕ → Values 𝓜}
      → ((r p : ℕ) → r < classes 𝓜 → p < places 𝓜 → FirstTerm M r p (to_f gf (get_or word p 0)) (rows r 0 p) (rows r 1 p)) → StartRows 𝓜 M word rows
  rows-started M word s =
      record {
        without_z = λ r h z. record { whole = λ p l. (s r p h l).plain_whole z; slope = λ p l. (s r p h l).plain_slope z };
        with_z = λ r h n. record { whole = λ p l. (s r p h l).z_whole n; slope = λ p l. (s r p h l).z_slope n };
      }

  module _ (r m : ℕ) (h : r < classes 𝓜) where
    pub lead_plain : r % 2 ≡ 0 → 2 * (r / 2 * suc w) ≡ first w m r
    unfolding first
    lead_plain z = ap (key m) (sym (first-even w wide m r h z))

    pub lead-z : r % 2 ≢ 0 → 2 * ((r / 2 + (w - m % w)) % w * suc w + m) + 1 ≡ first w m r
    unfolding first z_power
    lead-z z = ap (key m) (sym (first-odd w wide m r h z))
