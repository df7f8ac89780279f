-- The product of two functions on the curve.
--
--   product n g f      g·f, for g that ends at n: the sum over o < n of g o times the monomial of order o times f
--   product-nil, product-suc     the recursion on n, as equations
--   product-more       any bound of g gives the same product
--   fn-product         it is a function on the curve
--   val-product        its value at a point is the product of the values
--   below-product      where it ends
--   product-lead, lead-product   its lead is the sum of the leads, its coefficient there the product of theirs
--   product-ne-zero    no zero divisors
use Rattle.std.specs.Prelude.{◌≡◌, refl, ◌≢◌, ◌⊎◌, ℕ, zero, suc, ◌+◌, ◌<◌, ◌≤◌}
use Rattle.std.proofs.Common.{sym, ap₂, ◌∙◌, subst, inl, inr, ⊎_elim, add_comm, arith}
use Rattle.std.proofs.Math.Path.{ap, fun_ext}
use Rattle.algebra.specs.Field.{Field, zero-add, zero-mul, mul_assoc, add-mul, mul-ne-zero}
use Rattle.algebra.specs.Sum.{sum, sum-nil, sum-suc, sum_more}
use Rattle.algebra.specs.Coefficients.{plus, scale, Below, Lead, below-mono, below-plus, below-scale, zero-or-lead}
use Rattle.algebra.specs.Weighted.{weighted-of, weighted-plus, weighted-scale, weighted-zero, weighted-by, weighted-is}
use Rattle.hermitian.specs.Present.{Present, dec_present}
use Rattle.hermitian.specs.Ring.{Fn, fn-zero, fn-plus, fn-scale, times_monomial, fn-times_monomial, below-times_monomial, times_monomial-lead}
use Rattle.hermitian.specs.Value.{Curve, Val, monomial, val-times_monomial}

module _ {F : Type 0} (K : Field F) (w : ℕ) where
  open K use {◌⊕◌, ◌⊗◌, 𝟘}

  unfoldable pub product : ℕ → (ℕ → F) → (ℕ → F) → ℕ → F
  product n g f k = sum K n (λ o. g o ⊗ times_monomial K w o f k)

  pub product-nil : (g f : ℕ → F) → product 0 g f ≡ (λ k. 𝟘)
  unfolding product
  product-nil g f = fun_ext (λ k. sum-nil K _)

  pub product-suc : (n : ℕ) (g f : ℕ → F) → product (suc n) g f ≡ plus K (product n g f) (scale K (g n) (times_monomial K w n f))
  unfolding product
  product-suc n g f = fun_ext (λ k. sum-suc K n _)

  pub product-more : {g : ℕ → F} (m n : ℕ) (f : ℕ → F) → Below K g m → m ≤ n → product n g f ≡ product m g f
  unfolding product
  product-more m n f b l =
      fun_ext (λ k. sum_more K m n _ l (λ o h x. ap (λ x. x ⊗ times_monomial K w o f k) (b.zero_from o h) ∙ zero-mul K _))

  pub below-product : {g f : ℕ → F} {b : ℕ} (n : ℕ) → Fn K w g → Below K f (suc b) → Below K (product n g f) (n + b)
  below-product {g} {f} {b} zero p q =
      subst (λ d. Below K d (0 + b)) (sym (product-nil g f)) (record { zero_from = λ k l. refl })
  below-product {g} {f} {b} (suc n) p q =
      subst (λ d. Below K d (suc n + b)) (sym (product-suc n g f))
      (below-plus K (below-mono K (omega arith) (below-product n p q)) (last (dec_present w n)))
    where
      last : Dec (Present w n) → Below K (scale K (g n) (times_monomial K w n f)) (suc n + b)
      last (yes h) = below-scale K (g n) (below-mono K (omega arith) (below-times_monomial K w n h q))
      last (no h) = record { zero_from = λ k l. ap (λ x. x ⊗ times_monomial K w n f k) (p.absent n h) ∙ zero-mul K _ }

  -- a lead stands at a present order
  pub lead-present : {g : ℕ → F} {a : ℕ} → Fn K w g → g a ≢ 𝟘 → Present w a
  lead-present {g} {a} p h = go (dec_present w a)
    where
      go : Dec (Present w a) → Present w a
      go (yes e) = e
      go (no e) = absurd (h (p.absent a e))

  pub product-lead : {g f : ℕ → F} {a b : ℕ} (n : ℕ) → a < n → Fn K w g → Lead K g a → Below K f (suc b)
      → product n g f (a + b) ≡ g a ⊗ f b
  product-lead {g} {f} {a} {b} n l p h q =
      ap (λ d. d (a + b)) (product-more (suc a) n f h.above l ∙ product-suc a g f)
      ∙ ap₂ (λ x y. x ⊕ g a ⊗ y) ((below-product a p q).zero_from (a + b) (omega arith))
      (ap (λ k. times_monomial K w a f k) (add_comm a b) ∙ times_monomial-lead K w b a (lead-present p h.ne) q)
      ∙ zero-add K _

  pub lead-product : {g f : ℕ → F} {a b : ℕ} (n : ℕ) → a < n → Fn K w g → Lead K g a → Lead K f b → Lead K (product n g f) (a + b)
  lead-product {g} {f} {a} {b} n l p h q =
      record {
        ne = λ e. mul-ne-zero K (g a) (f b) h.ne q.ne (sym (product-lead n l p h q.above) ∙ e);
        above =
            subst (λ d. Below K d (suc (a + b))) (sym (product-more (suc a) n f h.above l))
            (below-mono K (omega arith) (below-product (suc a) p q.above));
      }

  -- a product that is zero has a factor that is zero
  pub product-ne-zero : {g f : ℕ → F} (n : ℕ) → Fn K w g → Below K g n → Fn K w f → ((k : ℕ) → product n g f k ≡ 𝟘)
      → ((k : ℕ) → g k ≡ 𝟘) ⊎ ((k : ℕ) → f k ≡ 𝟘)
  product-ne-zero {g} {f} n p b q z =
      ⊎_elim (λ e. inl e)
      (λ s. ⊎_elim (λ e. inr e) (λ t. absurd ((lead-product n s.1 p s.2 t.2).ne (z (s.0 + t.0)))) (zero-or-lead K q.bound q.ends))
      (zero-or-lead K n b)

  module _ (two : 2 ≤ w) where
    pub fn-product : {f : ℕ → F} (n : ℕ) (g : ℕ → F) → Fn K w f → Fn K w (product n g f)
    fn-product {f} zero g q = subst (λ d. Fn K w d) (sym (product-nil g f)) (fn-zero K w)
    fn-product {f} (suc n) g q =
        subst (λ d. Fn K w d) (sym (product-suc n g f))
        (fn-plus K w (fn-product n g q) (fn-scale K w (g n) (fn-times_monomial K w two n q)))

    module _ (px py : F) (on : Curve K w px py) where
      val-product-sum : {f : ℕ → F} {v : F} (n : ℕ) (g : ℕ → F) → Fn K w f → Val K w px py f v
          → Val K w px py (product n g f) (sum K n (λ o. g o ⊗ monomial K w px py o) ⊗ v)
      val-product-sum {f} {v} zero g q h =
          weighted-by K (product-nil g f)
          (weighted-is K (sym (ap (λ x. x ⊗ v) (sum-nil K (λ o. g o ⊗ monomial K w px py o)) ∙ zero-mul K v)) (weighted-zero K (monomial K w px py)))
      val-product-sum {f} {v} (suc n) g q h =
          weighted-by K (product-suc n g f)
          (weighted-is K
          (ap (λ x. sum K n (λ o. g o ⊗ monomial K w px py o) ⊗ v ⊕ x) (sym (mul_assoc K _ _ _)) ∙ sym (add-mul K _ _ v) ∙ ap (λ x. x ⊗ v) (sym (sum-suc K n _)))
          (weighted-plus K (val-product-sum n g q h) (weighted-scale K (g n) (val-times_monomial K w two px py on n q h))))

      pub val-product : {g f : ℕ → F} {u v : F} (n : ℕ) → Below K g n → Val K w px py g u → Fn K w f → Val K w px py f v
          → Val K w px py (product n g f) (u ⊗ v)
      val-product {g} {f} {u} {v} n b a q h =
          weighted-is K (ap (λ x. x ⊗ v) (weighted-of K n b a)) (val-product-sum n g q h)
