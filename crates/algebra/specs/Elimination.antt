-- More unknowns than equations: n homogeneous equations in n + 1 unknowns have a solution that is not zero.
--
--   Dependence K n A   x, not zero on 0..n and zero beyond, with Σ x i ⊗ A i s ≡ 𝟘 for each of the equations s < n
--   dependent          there is one, for every n and every A
--   nonzero-below      a function is zero at every place below n, or not zero at one of them
--   sum-skip           a sum is its term at p and the sum over the others
use Rattle.std.specs.Prelude.{◌≡◌, ◌≢◌, ◌⊎◌}
use Rattle.std.proofs.Math.Path.{refl, ap}
use Rattle.std.proofs.Common.{sym, ap₂, ◌∙◌, inl, inr, eq-or-lt_of_le, le_of_suc-le-suc}
use Rattle.std.proofs.Math.Logic.{⊎_elim}
use Prim.Native.Nat.{ℕ, zero, suc, ◌+◌, ◌-◌, ◌<◌, ◌≤◌}
use Rattle.std.proofs.Math.Decide.{dec_lt, ℕ_discrete}
use native.Mathlib.Omega.{arith}
use Rattle.algebra.specs.Field.{Field, add_right_comm, zero-add, mul-add, mul_assoc, add-self, mul-zero, zero-mul, div-mul}
use Rattle.algebra.specs.Sum.{sum, sum-nil, sum-suc, sum-ext, sum-zero, sum-plus, sum-scale-right}
use Rattle.algebra.specs.Coefficients.{choose, choose_yes, choose_no, Below}

-- the numbers other than p, in order
unfoldable pub skip : ℕ → ℕ → ℕ
skip p i = choose (dec_lt i p) i (suc i)

skip-low : (p i : ℕ) → i < p → skip p i ≡ i
unfolding skip
skip-low p i h = choose_yes (dec_lt i p) i (suc i) h

skip-high : (p i : ℕ) → p ≤ i → skip p i ≡ suc i
unfolding skip
skip-high p i h = choose_no (dec_lt i p) i (suc i) (omega arith)

-- they stand below p, or above
pub skip-cases : (p i : ℕ) → ((i < p) × (skip p i ≡ i)) ⊎ ((p ≤ i) × (skip p i ≡ suc i))
skip-cases p i = go (dec_lt i p)
  where
    go : Dec (i < p) → ((i < p) × (skip p i ≡ i)) ⊎ ((p ≤ i) × (skip p i ≡ suc i))
    go (yes h) = inl (h, skip-low p i h)
    go (no h) =
        let l : p ≤ i = omega arith in
        inr (l, skip-high p i l)

-- and keep their order
pub skip-rising : (p i j : ℕ) → i < j → skip p i < skip p j
skip-rising p i j h = go (skip-cases p i) (skip-cases p j)
  where
    go : ((i < p) × (skip p i ≡ i)) ⊎ ((p ≤ i) × (skip p i ≡ suc i)) → ((j < p) × (skip p j ≡ j)) ⊎ ((p ≤ j) × (skip p j ≡ suc j))
        → skip p i < skip p j
    go (inl a) (inl b) = omega (arith, a, b)
    go (inl a) (inr b) = omega (arith, a, b)
    go (inr a) (inl b) = omega (arith, a, b)
    go (inr a) (inr b) = omega (arith, a, b)

module _ {F : Type 0} (K : Field F) where
  open K use {◌⊕◌, ◌⊗◌, 𝟘, 𝟙, inv}

  pub nonzero-below : (n : ℕ) (f : ℕ → F) → ((i : ℕ) → i < n → f i ≡ 𝟘) ⊎ ((p : ℕ) × (p < n) × (f p ≢ 𝟘))
  nonzero-below zero f = inl (λ i h. absurd (omega arith))
  nonzero-below (suc n) f = go (K.same (f n) 𝟘) (nonzero-below n f)
    where
      go : Dec (f n ≡ 𝟘) → ((i : ℕ) → i < n → f i ≡ 𝟘) ⊎ ((p : ℕ) × (p < n) × (f p ≢ 𝟘))
          → ((i : ℕ) → i < suc n → f i ≡ 𝟘) ⊎ ((p : ℕ) × (p < suc n) × (f p ≢ 𝟘))
      go (no e) r = inr (n, omega arith, e)
      go (yes e) (inl z) = inl (λ i h. ⊎_elim (λ q. ap f q ∙ e) (z i) (eq-or-lt_of_le (le_of_suc-le-suc h)))
      go (yes e) (inr t) = inr (t.0, omega (arith, t.1), t.2)

  pub sum-skip : (n p : ℕ) (f : ℕ → F) → p ≤ n → sum K (suc n) f ≡ sum K n (λ i. f (skip p i)) ⊕ f p
  sum-skip zero p f h =
      let e : p ≡ 0 = omega arith in
      sum-suc K 0 f ∙ ap (λ x. x ⊕ f 0) (sum-nil K f ∙ sym (sum-nil K (λ i. f (skip p i)))) ∙ ap (λ k. sum K 0 (λ i. f (skip p i)) ⊕ f k) (sym e)
  sum-skip (suc n) p f h = ⊎_elim last (λ l. earlier l (sum-skip n p f (le_of_suc-le-suc l))) (eq-or-lt_of_le h)
    where
      last : p ≡ suc n → sum K (suc (suc n)) f ≡ sum K (suc n) (λ i. f (skip p i)) ⊕ f p
      last e =
          sum-suc K (suc n) f
          ∙ ap₂ (λ x y. x ⊕ y) (sum-ext K (suc n) f (λ i. f (skip p i)) (λ k l. ap f (sym (skip-low p k (omega arith))))) (ap f (sym e))

      earlier : p < suc n → sum K (suc n) f ≡ sum K n (λ i. f (skip p i)) ⊕ f p
          → sum K (suc (suc n)) f ≡ sum K (suc n) (λ i. f (skip p i)) ⊕ f p
      earlier l ih =
          sum-suc K (suc n) f ∙ ap (λ x. x ⊕ f (suc n)) ih ∙ add_right_comm K _ _ _
          ∙ ap (λ k. sum K n (λ i. f (skip p i)) ⊕ f k ⊕ f p) (sym (skip-high p n (le_of_suc-le-suc l)))
          ∙ ap (λ x. x ⊕ f p) (sym (sum-suc K n (λ i. f (skip p i))))

  -- y with one more value, a, at p
  insert : ℕ → F → (ℕ → F) → ℕ → F
  insert p a y j = choose (dec_lt j p) (y j) (choose (ℕ_discrete j p) a (y (j - 1)))

  insert-at : (p : ℕ) (a : F) (y : ℕ → F) → insert p a y p ≡ a
  unfolding insert
  insert-at p a y = choose_no (dec_lt p p) _ _ (omega arith) ∙ choose_yes (ℕ_discrete p p) _ _ refl

  insert-above : (p i : ℕ) (a : F) (y : ℕ → F) → p ≤ i → insert p a y (suc i) ≡ y i
  unfolding insert
  insert-above p i a y h =
      let e : suc i - 1 ≡ i = omega arith in
      choose_no (dec_lt (suc i) p) _ _ (omega arith) ∙ choose_no (ℕ_discrete (suc i) p) _ _ (λ (q : suc i ≡ p). omega arith) ∙ ap y e

  insert-skip : (p i : ℕ) (a : F) (y : ℕ → F) → insert p a y (skip p i) ≡ y i
  unfolding insert
  insert-skip p i a y = ⊎_elim low high (skip-cases p i)
    where
      low : (i < p) × (skip p i ≡ i) → insert p a y (skip p i) ≡ y i
      low t = ap (insert p a y) t.1 ∙ choose_yes (dec_lt i p) _ _ t.0

      high : (p ≤ i) × (skip p i ≡ suc i) → insert p a y (skip p i) ≡ y i
      high t = ap (insert p a y) t.1 ∙ insert-above p i a y t.0

  pub record Dependence (n : ℕ) (A : ℕ → ℕ → F) : Type 0 where
    pub x : ℕ → F
    pub at : ℕ
    pub at_le : at ≤ n
    pub ne : x at ≢ 𝟘
    pub ends : Below K x (suc n)
    pub solves : (s : ℕ) → s < n → sum K (suc n) (λ i. x i ⊗ A i s) ≡ 𝟘

  -- row p, taken c i times into each other row i, clears the last equation from them: what is left has one row and one equation less
  drop-row : (n p : ℕ) (A : ℕ → ℕ → F) (c : ℕ → F) → p ≤ suc n
      → ((i : ℕ) → i ≤ n → A (skip p i) n ⊕ c (skip p i) ⊗ A p n ≡ 𝟘)
      → Dependence n (λ i s. A (skip p i) s ⊕ c (skip p i) ⊗ A p s) → Dependence (suc n) A
  drop-row n p A c h clear d =
      record {
        x = x;
        at = skip p d.at;
        at_le = ⊎_elim (λ t. at_low t.1) (λ t. at_high t.1) (skip-cases p d.at);
        ne = λ e. d.ne (sym (insert-skip p d.at a d.x) ∙ e);
        ends = record { zero_from = beyond };
        solves = solved;
      }
    where
      a : F
      a = sum K (suc n) (λ i. d.x i ⊗ c (skip p i))

      x : ℕ → F
      x = insert p a d.x

      at_low : skip p d.at ≡ d.at → skip p d.at ≤ suc n
      at_low e = omega (arith, d.at_le)

      at_high : skip p d.at ≡ suc d.at → skip p d.at ≤ suc n
      at_high e = omega (arith, d.at_le)

      beyond : (k : ℕ) → suc (suc n) ≤ k → x k ≡ 𝟘
      beyond k l =
          let q : k ≡ suc (k - 1) = omega arith in
          ap x q ∙ insert-above p (k - 1) a d.x (omega arith) ∙ d.ends.zero_from (k - 1) (omega arith)

      term : (s i : ℕ) → x (skip p i) ⊗ A (skip p i) s ⊕ d.x i ⊗ c (skip p i) ⊗ A p s ≡ d.x i ⊗ (A (skip p i) s ⊕ c (skip p i) ⊗ A p s)
      term s i =
          ap (λ v. v ⊗ A (skip p i) s ⊕ d.x i ⊗ c (skip p i) ⊗ A p s) (insert-skip p i a d.x)
          ∙ ap (λ v. d.x i ⊗ A (skip p i) s ⊕ v) (mul_assoc K _ _ _) ∙ sym (mul-add K _ _ _)

      whole : (s : ℕ) → sum K (suc (suc n)) (λ i. x i ⊗ A i s) ≡ sum K (suc n) (λ i. d.x i ⊗ (A (skip p i) s ⊕ c (skip p i) ⊗ A p s))
      whole s =
          sum-skip (suc n) p (λ i. x i ⊗ A i s) h
          ∙ ap (λ v. sum K (suc n) (λ i. x (skip p i) ⊗ A (skip p i) s) ⊕ v ⊗ A p s) (insert-at p a d.x)
          ∙ ap (λ v. sum K (suc n) (λ i. x (skip p i) ⊗ A (skip p i) s) ⊕ v) (sym (sum-scale-right K (suc n) (A p s) (λ i. d.x i ⊗ c (skip p i))))
          ∙ sym (sum-plus K (suc n) _ _) ∙ sum-ext K (suc n) _ _ (λ i l. term s i)

      solved : (s : ℕ) → s < suc n → sum K (suc (suc n)) (λ i. x i ⊗ A i s) ≡ 𝟘
      solved s l =
          whole s ∙ ⊎_elim
          (λ (q : s ≡ n). sum-zero K (suc n) _ (λ i b. ap (λ t. d.x i ⊗ (A (skip p i) t ⊕ c (skip p i) ⊗ A p t)) q ∙ ap (λ v. d.x i ⊗ v) (clear i (le_of_suc-le-suc b)) ∙ mul-zero K (d.x i)))
          (λ b. d.solves s b) (eq-or-lt_of_le (le_of_suc-le-suc l))

  pub dependent : (n : ℕ) (A : ℕ → ℕ → F) → Dependence n A
  dependent zero A =
      record {
        x = λ i. choose (ℕ_discrete i 0) 𝟙 𝟘;
        at = 0;
        at_le = omega arith;
        ne = λ e. K.one_ne_zero (sym (choose_yes (ℕ_discrete 0 0) 𝟙 𝟘 refl) ∙ e);
        ends = record { zero_from = λ k l. choose_no (ℕ_discrete k 0) 𝟙 𝟘 (λ (q : k ≡ 0). omega arith) };
        solves = λ s l. absurd (omega arith);
      }
  dependent (suc n) A = go (dependent n) (nonzero-below (suc (suc n)) (λ i. A i n))
    where
      go : ((B : ℕ → ℕ → F) → Dependence n B)
          → ((i : ℕ) → i < suc (suc n) → A i n ≡ 𝟘) ⊎ ((p : ℕ) × (p < suc (suc n)) × (A p n ≢ 𝟘)) → Dependence (suc n) A
      go ih (inl z) =
          drop-row n 0 A (λ i. 𝟘) (omega arith)
          (λ i l. ap (λ v. v ⊕ 𝟘 ⊗ A 0 n) (ap (λ k. A k n) (skip-high 0 i (omega arith)) ∙ z (suc i) (omega arith)) ∙ zero-add K _ ∙ zero-mul K _)
          (ih _)
      go ih (inr t) =
          drop-row n t.0 A (λ i. A i n ⊗ inv (A t.0 n)) (omega (arith, t.1))
          (λ i l. ap (λ v. A (skip t.0 i) n ⊕ v) (div-mul K _ _ t.2) ∙ add-self K _) (ih _)
