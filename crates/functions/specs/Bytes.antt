-- Bytes as coefficients by order: the coefficient function of a list of bytes, over any field of numbers.
--
--   coef row             the coefficient function of a list of bytes; zero beyond its end (coef-beyond)
--   coef-listed          that of n bytes that a rule gives
--   value-times-to_f      the byte of a product
--   cut n f              f below order n; cut_low, cut_high; cut_below: nothing is lost of what ends there
--   coef-cut             n bytes that a rule gives hold f below order n
use Rattle.std.specs.Prelude.{◌≡◌, List, ℕ, ◌<◌, ◌≤◌, length, get_or}
use Rattle.std.proofs.Math.Path.{refl, ap, fun_ext}
use Rattle.std.proofs.Common.{sym, ◌∙◌, mod-eq_of_lt, arith}
use Rattle.std.proofs.Math.Decide.{dec_lt}
use Rattle.std.proofs.Math.ListN.{get_or-eq_default}
use Rattle.lists.specs.Listed.{listed, listed-length, listed_at}
use Rattle.algebra.specs.Coefficients.{choose, choose_yes, choose_no, Below}
use Rattle.galois.specs.BinaryField.{Gf, GF, K, times, to_f, value, value-to_f, to_f-times, to_f-zero, times-lt}

module _ (gf : Gf) where
  open K gf use {◌⊗◌, 𝟘}

  unfoldable pub coef : List ℕ → ℕ → GF gf
  coef row i = to_f gf (get_or row i 0)

  pub coef-at : (row : List ℕ) (i : ℕ) → coef row i ≡ to_f gf (get_or row i 0)
  unfolding coef
  coef-at row i = refl

  pub coef-beyond : (row : List ℕ) (i : ℕ) → length row ≤ i → coef row i ≡ 𝟘
  unfolding coef
  coef-beyond row i h = ap (to_f gf) (get_or-eq_default row 0 h) ∙ to_f-zero gf

  pub coef-listed : (n : ℕ) (f : ℕ → ℕ) (c : ℕ → GF gf) → ((k : ℕ) → k < n → to_f gf (f k) ≡ c k) → ((k : ℕ) → n ≤ k → c k ≡ 𝟘) → coef (listed n f) ≡ c
  coef-listed n f c p q = fun_ext (λ k. go k (dec_lt k n))
    where
      go : (k : ℕ) → Dec (k < n) → coef (listed n f) k ≡ c k
      go k (yes h) = coef-at (listed n f) k ∙ ap (to_f gf) (listed_at n k f 0 h) ∙ p k h
      go k (no h) = coef-beyond (listed n f) k (omega (arith, listed-length n f)) ∙ sym (q k (omega arith))

  pub value-times-to_f : (a b : ℕ) → value gf (to_f gf a ⊗ to_f gf b) ≡ times gf a b
  value-times-to_f a b = ap (value gf) (sym (to_f-times gf a b)) ∙ value-to_f gf (times gf a b) ∙ mod-eq_of_lt (times-lt gf a b)

  -- ---- what a width keeps
  unfoldable pub cut : ℕ → (ℕ → GF gf) → ℕ → GF gf
  cut n f o = choose (dec_lt o n) (f o) 𝟘

  module _ (n : ℕ) (f : ℕ → GF gf) where
    pub cut_low : (o : ℕ) → o < n → cut n f o ≡ f o
    unfolding cut
    cut_low o h = choose_yes (dec_lt o n) _ _ h

    pub cut_high : (o : ℕ) → n ≤ o → cut n f o ≡ 𝟘
    unfolding cut
    cut_high o h = choose_no (dec_lt o n) _ _ (omega arith)

    pub cut_below : Below (K gf) f n → cut n f ≡ f
    cut_below b = fun_ext (λ o. go o (dec_lt o n))
      where
        go : (o : ℕ) → Dec (o < n) → cut n f o ≡ f o
        go o (yes h) = cut_low o h
        go o (no h) =
            let l : n ≤ o = omega arith in
            cut_high o l ∙ sym (b.zero_from o l)

    pub coef-cut : (g : ℕ → ℕ) → ((o : ℕ) → o < n → to_f gf (g o) ≡ f o) → coef (listed n g) ≡ cut n f
    coef-cut g h = coef-listed n g (cut n f) (λ o l. h o l ∙ sym (cut_low o l)) (λ o l. cut_high o l)
