-- From Q to the function: dividing from the top order down.
--
--   quotient_at l r o R       the next coefficient: R's at l + o over the divisor's at its lead l, where o is present
--   remainder l r M q i      q after i steps, at the orders M, M − 1, …, each taking that multiple of the monomial times r away
--   quotient l r M q         the function found
--   remainder-step           where q = f·r, each step takes off the highest term of f
--   division                 so what is found is f, for every f of order at most M
use Rattle.std.specs.Prelude.{◌≡◌}
use Rattle.std.proofs.Math.Path.{refl, sym, ap, ap₂, fun_ext}
use Rattle.std.proofs.Common.{◌∙◌}
use Prim.Native.Nat.{ℕ, zero, suc, ◌+◌, ◌-◌, ◌≤◌}
use Rattle.std.proofs.Math.Decide.{dec_le}
use native.Mathlib.Omega.{arith}
use Rattle.algebra.specs.Field.{Field, add-zero, zero-add, add-self, add_assoc, mul_assoc, mul-inv, mul-one}
use Rattle.algebra.specs.Coefficients.{choose, choose_yes, choose_no, plus, scale, Below, Lead}
use Rattle.hermitian.specs.Present.{Present, dec_present}
use Rattle.hermitian.specs.Ring.{Fn, times_monomial, times_monomial-lead}
use Rattle.hermitian.specs.Product.{product, product-suc, below-product}

module _ {F : Type 0} (K : Field F) (w l : ℕ) (r : ℕ → F) where
  open K use {◌⊕◌, ◌⊗◌, 𝟘, inv}

  unfoldable pub quotient_at : ℕ → (ℕ → F) → F
  quotient_at o R = choose (dec_present w o) (R (l + o) ⊗ inv (r l)) 𝟘

  -- one step at the order o
  unfoldable pub divide_step : ℕ → (ℕ → F) → ℕ → F
  divide_step o R = plus K R (scale K (quotient_at o R) (times_monomial K w o r))

  unfoldable pub remainder : ℕ → (ℕ → F) → ℕ → ℕ → F
  remainder M q zero = q
  remainder M q (suc i) = divide_step (M - i) (remainder M q i)

  unfoldable pub quotient : ℕ → (ℕ → F) → ℕ → F
  quotient M q o = choose (dec_le o M) (quotient_at o (remainder M q (M - o))) 𝟘

  pub remainder-nil : (M : ℕ) (q : ℕ → F) → remainder M q 0 ≡ q
  unfolding remainder
  remainder-nil M q = refl

  pub remainder-suc : (M : ℕ) (q : ℕ → F) (i : ℕ) → remainder M q (suc i) ≡ divide_step (M - i) (remainder M q i)
  unfolding remainder
  remainder-suc M q i = refl

  module _ (lead : Lead K r l) {f : ℕ → F} (fn : Fn K w f) where
    -- the highest coefficient of f, from that of f·r
    quotient-top : (o : ℕ) → quotient_at o (product K w (suc o) f r) ≡ f o
    unfolding quotient_at
    quotient-top o = go (dec_present w o)
      where
        R : ℕ → F
        R = product K w (suc o) f r

        top : Present w o → R (l + o) ≡ f o ⊗ r l
        top h =
            ap (λ g. g (l + o)) (product-suc K w o f r)
            ∙ ap₂ (λ a b. a ⊕ f o ⊗ b) ((below-product K w o fn lead.above).zero_from (l + o) (omega arith)) (times_monomial-lead K w l o h lead.above)
            ∙ zero-add K _

        go : Dec (Present w o) → choose (dec_present w o) (R (l + o) ⊗ inv (r l)) 𝟘 ≡ f o
        go (yes h) =
            choose_yes (dec_present w o) _ 𝟘 h ∙ ap (λ a. a ⊗ inv (r l)) (top h) ∙ mul_assoc K (f o) (r l) (inv (r l))
            ∙ ap (λ a. f o ⊗ a) (mul-inv K (r l) lead.ne) ∙ mul-one K (f o)
        go (no h) = choose_no (dec_present w o) _ 𝟘 h ∙ sym (fn.absent o h)

    -- and a step leaves the product of what is below
    pub remainder-step : (o : ℕ) → divide_step o (product K w (suc o) f r) ≡ product K w o f r
    unfolding divide_step
    remainder-step o =
        ap₂ (λ R a. plus K R (scale K a (times_monomial K w o r))) (product-suc K w o f r) (quotient-top o)
        ∙ fun_ext (λ k. add_assoc K _ _ _ ∙ ap (λ a. product K w o f r k ⊕ a) (add-self K _) ∙ add-zero K _)

    remaining : (M : ℕ) {q : ℕ → F} → q ≡ product K w (suc M) f r → (i : ℕ) → i ≤ suc M → remainder M q i ≡ product K w (suc M - i) f r
    remaining M {q} e zero h =
        let a : suc M ≡ suc M - 0 = omega arith in
        remainder-nil M q ∙ e ∙ ap (λ k. product K w k f r) a
    remaining M {q} e (suc i) h =
        let a : suc M - i ≡ suc (M - i) = omega arith in
        let b : M - i ≡ suc M - suc i = omega arith in
        remainder-suc M q i
        ∙ ap (divide_step (M - i)) (remaining M e i (omega arith) ∙ ap (λ k. product K w k f r) a)
        ∙ remainder-step (M - i)
        ∙ ap (λ k. product K w k f r) b

    pub division : {M : ℕ} {q : ℕ → F} → Below K f (suc M) → q ≡ product K w (suc M) f r → quotient M q ≡ f
    unfolding quotient
    division {M} {q} b e = fun_ext (λ o. go o (dec_le o M))
      where
        go : (o : ℕ) → Dec (o ≤ M) → quotient M q o ≡ f o
        go o (yes h) =
            let a : suc M - (M - o) ≡ suc o = omega arith in
            choose_yes (dec_le o M) _ 𝟘 h
            ∙ ap (quotient_at o) (remaining M e (M - o) (omega arith) ∙ ap (λ k. product K w k f r) a)
            ∙ quotient-top o
        go o (no h) = choose_no (dec_le o M) _ 𝟘 h ∙ sym (b.zero_from o (omega arith))
