-- Reading a coefficient off the values: on points whose power sums are those of a group and zero, each power has a dual.
--
--   PowerSums K q v N   the n-th powers of v 0, …, v (q − 1) sum to 𝟙 for n = N and n = 2N, and to 𝟘 for every other n up to 2N
--   dual K N i x        x^(N − i), and 𝟙 more where i is 0
--   dual-split          values times a product of two duals, summed over places, are four sums
--   dual-sum            so the a-th powers, each times its dual for i, sum to 𝟙 where a = i and to 𝟘 where not (a and i up to N)
use Rattle.std.specs.Prelude.{◌≡◌, ℕ, ◌+◌, ◌-◌, ◌<◌, ◌≤◌}
use Rattle.std.proofs.Common.{sym, ap₂, ◌∙◌, arith}
use Rattle.std.proofs.Math.Path.{ap}
use Rattle.std.proofs.Math.Decide.{ℕ_discrete}
use Rattle.algebra.specs.Field.{Field, mul-add, ring}
use Rattle.algebra.specs.Sum.{sum, sum-ext, sum-plus, sum-scale, sum-scale-right}
use Rattle.algebra.specs.Power.{pow, pow-plus}
use Rattle.algebra.specs.Coefficients.{unit, unit-at, unit-off}

module _ {F : Type 0} (K : Field F) where
  open K use {◌⊕◌, ◌⊗◌, 𝟘, 𝟙}

  pub record PowerSums (q : ℕ) (v : ℕ → F) (N : ℕ) : Type 0 where
    pub positive : 0 < N
    pub sums : (n : ℕ) → n ≤ N + N → sum K q (λ k. pow K (v k) n) ≡ unit K N n ⊕ unit K (N + N) n

  unfoldable pub dual : ℕ → ℕ → F → F
  dual N i x = pow K x (N - i) ⊕ unit K 0 i

  -- equal where both hold or neither does
  unit-iff : (i j k l : ℕ) → (j ≡ i → l ≡ k) → (l ≡ k → j ≡ i) → unit K i j ≡ unit K k l
  unit-iff i j k l f g = go (ℕ_discrete j i)
    where
      go : Dec (j ≡ i) → unit K i j ≡ unit K k l
      go (yes e) = ap (unit K i) e ∙ unit-at K i ∙ sym (ap (unit K k) (f e) ∙ unit-at K k)
      go (no n) = unit-off K i j n ∙ sym (unit-off K k l (λ e. n (g e)))

  pub dual-split : (n : ℕ) (s f g : ℕ → F) (a b : F)
      → sum K n (λ p. s p ⊗ (f p ⊗ g p)) ⊕ (a ⊗ sum K n (λ p. s p ⊗ g p) ⊕ b ⊗ (sum K n (λ p. s p ⊗ f p) ⊕ a ⊗ sum K n s))
      ≡ sum K n (λ p. s p ⊗ ((f p ⊕ a) ⊗ (g p ⊕ b)))
  dual-split n s f g a b =
      sym
      (sum-ext K n _ _ (λ p l. expand (s p) (f p) (g p))
      ∙ sum-plus K n _ _
      ∙ ap (λ x. sum K n (λ p. s p ⊗ (f p ⊗ g p)) ⊕ x)
      (sum-plus K n _ _
      ∙ ap₂ (λ x y. x ⊕ y) (sum-scale K n a _)
      (sum-scale K n b _ ∙ ap (λ x. b ⊗ x) (sum-plus K n _ _ ∙ ap (λ x. sum K n (λ p. s p ⊗ f p) ⊕ x) (sum-scale K n a s)))))
    where
      expand : (t x y : F) → t ⊗ ((x ⊕ a) ⊗ (y ⊕ b)) ≡ t ⊗ (x ⊗ y) ⊕ (a ⊗ (t ⊗ y) ⊕ b ⊗ (t ⊗ x ⊕ a ⊗ t))
      expand t x y = simp (ring, K)

  module _ (q : ℕ) (v : ℕ → F) (N : ℕ) (given : PowerSums q v N) where
    dual-terms : (a i : ℕ)
        → sum K q (λ k. pow K (v k) a ⊗ dual N i (v k)) ≡ sum K q (λ k. pow K (v k) (a + (N - i))) ⊕ sum K q (λ k. pow K (v k) a) ⊗ unit K 0 i
    unfolding dual
    dual-terms a i =
        sum-ext K q _ _ (λ k l. mul-add K (pow K (v k) a) _ _ ∙ ap (λ x. x ⊕ pow K (v k) a ⊗ unit K 0 i) (sym (pow-plus K (v k) a (N - i))))
        ∙ sum-plus K q _ _
        ∙ ap (λ x. sum K q (λ k. pow K (v k) (a + (N - i))) ⊕ x) (sum-scale-right K q (unit K 0 i) _)

    pub dual-sum : (a i : ℕ) → a ≤ N → i ≤ N → sum K q (λ k. pow K (v k) a ⊗ dual N i (v k)) ≡ unit K i a
    dual-sum a i ha hi =
        dual-terms a i
        ∙ ap₂ (λ x y. x ⊕ y ⊗ unit K 0 i) (given.sums (a + (N - i)) (omega arith)) (given.sums a (omega arith))
        ∙ go (ℕ_discrete i 0)
      where
        positive : 0 < N
        positive = given.positive

        go : Dec (i ≡ 0) → (unit K N (a + (N - i)) ⊕ unit K (N + N) (a + (N - i))) ⊕ (unit K N a ⊕ unit K (N + N) a) ⊗ unit K 0 i ≡ unit K i a
        go (yes e) =
            ap₂ (λ x y. (x ⊕ y) ⊕ (unit K N a ⊕ unit K (N + N) a) ⊗ unit K 0 i)
            (unit-iff N (a + (N - i)) i a (λ p. omega arith) (λ p. omega arith))
            (unit-iff (N + N) (a + (N - i)) N a (λ p. omega arith) (λ p. omega arith))
            ∙ ap₂ (λ x y. (unit K i a ⊕ unit K N a) ⊕ (unit K N a ⊕ x) ⊗ y) (unit-off K (N + N) a (λ (p : a ≡ N + N). omega arith))
            (ap (unit K 0) e ∙ unit-at K 0)
            ∙ simp (ring, K)
        go (no n) =
            ap₂ (λ x y. (x ⊕ y) ⊕ (unit K N a ⊕ unit K (N + N) a) ⊗ unit K 0 i)
            (unit-iff N (a + (N - i)) i a (λ p. omega arith) (λ p. omega arith))
            (unit-off K (N + N) (a + (N - i)) (λ (p : a + (N - i) ≡ N + N). omega arith))
            ∙ ap (λ y. (unit K i a ⊕ 𝟘) ⊕ (unit K N a ⊕ unit K (N + N) a) ⊗ y) (unit-off K 0 i n)
            ∙ simp (ring, K)
