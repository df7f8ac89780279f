-- Present orders: o is the order of a monomial x^i y^j with j < w exactly if o % w ≤ o / w; then j = o % w and i = o / w − o % w.
--
--   Present w o       o is the order of a monomial
--   divided           from o = q·w + r with r < w: o / w is q and o % w is r
--   dec_present        present or not
--   mod_below         o % w < w
--   present-at        q·w + r is present where r ≤ q
--   present-large     every order from w(w − 1) on is present
--   present-zero, present-x   the order of 1; the order of x added to a present one
--   present-plus      the sum of two present orders is present
--   genus w           w(w − 1)/2, the genus of the curve: that many orders are absent
--   genus-zero, genus-suc, genus-mono   genus 0 = 0; genus (suc r) = genus r + r; it rises with w
--   genus-double      twice the genus is w(w − 1)
use Rattle.std.specs.Prelude.{◌≡◌, refl, ℕ, zero, suc, ◌+◌, ◌-◌, ◌*◌, ◌/◌, ◌%◌, ◌<◌, ◌≤◌}
use Rattle.std.proofs.Common.{ap, ◌∙◌, mod-eq_of_lt, mod-lt, div-add-mod', mul_comm, add-zero, add-suc, add-sub_of_le, le-div_iff_mul-le, arith}
use Rattle.std.proofs.Math.Nat.{mul-add-div_right, mul-add-mod_self_right, div-eq_of_lt}
use Rattle.std.proofs.Math.Decide.{dec_le}

abbrev pub Present : ℕ → ℕ → Type 0
Present w o = o % w ≤ o / w

pub dec_present : (w o : ℕ) → Dec (Present w o)
dec_present w o = dec_le (o % w) (o / w)

pub divided : {w o : ℕ} (q r : ℕ) → r < w → o ≡ q * w + r → (o / w ≡ q) × (o % w ≡ r)
divided {w} {o} q r l e = (
  ap (λ x. x / w) e ∙ mul-add-div_right (omega arith) q r ∙ ap (λ x. q + x) (div-eq_of_lt l) ∙ add-zero q,
  ap (λ x. x % w) e ∙ mul-add-mod_self_right q w r ∙ mod-eq_of_lt l,
)

pub present-at : {w o : ℕ} (q r : ℕ) → r < w → r ≤ q → o ≡ q * w + r → Present w o
present-at {w} {o} q r l h e = omega (arith, divided q r l e)

module _ (w : ℕ) (two : 2 ≤ w) where
  pub mod_below : (o : ℕ) → o % w < w
  mod_below o = mod-lt o (omega arith)

  pub present-large : (o : ℕ) → w * (w - 1) ≤ o → Present w o
  present-large o h =
      let a : o % w < w = mod_below o in
      let b : w - 1 ≤ o / w = (le-div_iff_mul-le {k = w} {x = w - 1} {y = o} (omega arith)).1 (rw mul_comm h) in
      omega arith

  pub present-zero : Present w 0
  present-zero = present-at 0 0 (omega arith) (omega arith) (omega arith)

  pub present-x : (o : ℕ) → Present w o → Present w (o + w)
  present-x o h = present-at (suc (o / w)) (o % w) (mod_below o) (omega arith) (omega (arith, div-add-mod' o w))

  pub present-plus : (a b : ℕ) → Present w a → Present w b → Present w (a + b)
  present-plus a b ha hb = go (dec_le w (a % w + b % w))
    where
      la : a % w < w
      la = mod_below a

      lb : b % w < w
      lb = mod_below b

      go : Dec (w ≤ a % w + b % w) → Present w (a + b)
      go (yes h) =
          present-at (suc (a / w + b / w)) (a % w + b % w - w) (omega (arith, la, lb)) (omega (arith, la, lb))
          (omega (arith, div-add-mod' a w, div-add-mod' b w, la, lb))
      go (no h) =
          present-at (a / w + b / w) (a % w + b % w) (omega arith) (omega arith)
          (omega (arith, div-add-mod' a w, div-add-mod' b w))

-- the genus of y^w + y = x^(w+1)
unfoldable pub genus : ℕ → ℕ
genus w = w * (w - 1) / 2

pub genus-zero : genus 0 ≡ 0
unfolding genus
genus-zero = refl

genus-at : (r : ℕ) → genus (suc r) ≡ suc r * r / 2
unfolding genus
genus-at r = ap (λ x. suc r * x / 2) (omega arith)

pub genus-suc : (r : ℕ) → genus (suc r) ≡ genus r + r
genus-suc zero = omega (arith, genus-at 0, genus-zero)
genus-suc (suc r) = omega (arith, genus-at r, genus-at (suc r))

pub genus-double : (w : ℕ) → 2 * genus w ≡ w * (w - 1)
genus-double zero = ap (λ x. 2 * x) genus-zero
genus-double (suc r) = go r (genus-double r) ∙ ap (λ x. suc r * x) (omega arith)
  where
    go : (r : ℕ) → 2 * genus r ≡ r * (r - 1) → 2 * genus (suc r) ≡ suc r * r
    go zero h = omega (arith, genus-suc 0, genus-zero)
    go (suc k) h =
        let e : suc k * (suc k - 1) ≡ suc k * k = ap (λ x. suc k * x) (omega arith) in
        omega (arith, genus-suc (suc k))

genus-add : (a k : ℕ) → genus a ≤ genus (a + k)
genus-add a zero = omega (arith, ap genus (add-zero a))
genus-add a (suc k) = omega (arith, ap genus (add-suc a k), genus-suc (a + k), genus-add a k)

pub genus-mono : {a b : ℕ} → a ≤ b → genus a ≤ genus b
genus-mono {a} {b} h = omega (arith, genus-add a (b - a), ap genus (add-sub_of_le h))
