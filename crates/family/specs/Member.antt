-- A member of the family: a field of numbers, w, and the facts that are computed for it. All else above is proved for every member.
--
--   Member              the field and w; w·w elements; w points with each x; the sums of powers that reading back needs
--   symbols, places     how many elements the field has, and how many places: w for each x
--   px p, py p          the point of a place, in the field
--   Tests, tested       the tests of a member, each computed once, and the member that they make
--   m16                 document 01's: GF(16) with w = 4
use Rattle.std.specs.Prelude.{Bool, ◌≡◌, refl, ℕ, ◌*◌, ◌-◌, ◌<◌, ◌≤◌, T, eqb, length, get_or}
use Rattle.std.proofs.Common.{arith, lit≤}
use Rattle.std.proofs.Math.Dec.{eqb→eq}
use Rattle.lists.specs.Count.{kept}
use Rattle.lists.specs.Every.{every, every-at}
use Rattle.lists.specs.Listed.{listed}
use Rattle.algebra.specs.Dual.{PowerSums}
use Rattle.galois.specs.Binary as Binary
use Rattle.galois.specs.BinaryField.{Gf, GF, K, size, to_f, one-lt}
use Rattle.galois.specs.Gf16.{gf16}
use Rattle.family.specs.Curve.{is_on_curve, fibre, x_of, y_of}
use Rattle.family.specs.Sums.{xor_of, each, one, sum_is, sums_from, sums_pass, sums-pass, sums-list}

pub record Member : Type 0 where
  pub gf : Gf
  pub w : ℕ
  pub wide : 2 ≤ w
  pub square : w * w ≡ size gf
  pub fibres : (x : ℕ) → x < size gf → length (fibre gf w x) ≡ w
  pub x_sums : PowerSums (K gf) (size gf) (to_f gf) (size gf - 1)
  pub y_sums : (x : ℕ) → x < size gf → PowerSums (K gf) w (λ r. to_f gf (get_or (fibre gf w x) r 0)) (w - 1)

module _ (𝓜 : Member) where
  abbrev pub symbols : ℕ
  symbols = size 𝓜.gf

  abbrev pub places : ℕ
  places = symbols * 𝓜.w

  abbrev pub px : ℕ → GF 𝓜.gf
  px p = to_f 𝓜.gf (x_of 𝓜.w p)

  abbrev pub py : ℕ → GF 𝓜.gf
  py p = to_f 𝓜.gf (y_of 𝓜.gf 𝓜.w p)

-- ---- a member by its tests
module _ (gf : Gf) (w : ℕ) where
  unfoldable pub is_full : ℕ → Bool
  is_full x = eqb (length (fibre gf w x)) w

  unfoldable pub fibre_sums : ℕ → Bool
  fibre_sums x = sums_pass gf (fibre gf w x) (w - 1)

  pub full-fibre : T (every (size gf) is_full) → (x : ℕ) → x < size gf → length (fibre gf w x) ≡ w
  unfolding is_full
  full-fibre t x h = eqb→eq (length (fibre gf w x)) w (every-at (size gf) is_full t x h)

  pub fibre-sums : 2 ≤ w → T (every (size gf) is_full) → T (every (size gf) fibre_sums)
      → (x : ℕ) → x < size gf → PowerSums (K gf) w (λ r. to_f gf (get_or (fibre gf w x) r 0)) (w - 1)
  unfolding fibre_sums
  fibre-sums wide t s x h = sums-list gf (fibre gf w x) w (w - 1) (full-fibre t x h) (omega arith) (every-at (size gf) fibre_sums s x h)

pub element-sums : (gf : Gf) → T (sums_pass gf (listed (size gf) (λ k. k)) (size gf - 1)) → PowerSums (K gf) (size gf) (to_f gf) (size gf - 1)
element-sums gf t = sums-pass gf (size gf) (λ k. k) (size gf - 1) (omega (arith, one-lt gf)) t

pub record Tests (gf : Gf) (w : ℕ) : Type 0 where
  pub wide : 2 ≤ w
  pub square : w * w ≡ size gf
  pub full : T (every (size gf) (is_full gf w))
  pub x_sums : T (sums_pass gf (listed (size gf) (λ k. k)) (size gf - 1))
  pub y_sums : T (every (size gf) (fibre_sums gf w))

abbrev pub tested : (gf : Gf) (w : ℕ) → Tests gf w → Member
tested gf w t =
    record {
      gf = gf;
      w = w;
      wide = t.wide;
      square = t.square;
      fibres = full-fibre gf w t.full;
      x_sums = element-sums gf t.x_sums;
      y_sums = fibre-sums gf w t.wide t.full t.y_sums;
    }

-- ---- GF(16) with w = 4
pub tests-16 : Tests gf16 4
unfolding every is_full fibre_sums fibre kept is_on_curve listed sums_pass sums_from sum_is xor_of each one Binary.power Binary.times Binary.shift_add Binary.xtime
tests-16 = record { wide = lit≤ tt; square = refl; full = tt; x_sums = tt; y_sums = tt }

abbrev pub m16 : Member
m16 = tested gf16 4 tests-16
