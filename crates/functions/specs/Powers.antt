-- Sums over all elements of a field by the powers of a primitive one.
--
--   sum-permuted         a sum over the numbers below n, in any order
--   is_primitive a        the test: of the powers of a up to the (q − 1)-th, q elements in all, that one is 1 and none before it but the 0-th
--   primitive-16         2, which is α, passes it in GF(16)
--   power-different, power-nonzero   so the powers below the (q − 1)-th are different, and none is 0
--   sum-powers           a sum over all elements is the term of 0, and the terms of these powers
--   dual-first, dual-next    a sum over all x against the dual of x^i: for i = 0 the value at 0; for the others a sum over the powers α^k, each
--                        times the k-th power of α^(q − 1 − i), and for i = q − 1 the value at 0 more
use Rattle.std.specs.Prelude.{Bool, true, false, ◌≢◌, ◌≡◌, refl, T, eqb}
use Rattle.std.proofs.Math.Bool.{not}
use Rattle.std.proofs.lemmas.Bool.{false≢true}
use Rattle.std.proofs.Common.{sym, ◌∙◌, eq-eqb}
use Rattle.std.proofs.Math.Path.{ap, ap₂}
use mathlib.Core.List.{List, [], ◌∷◌, Memᴰ}
use Prim.Native.Nat.{ℕ, zero, suc, ◌+◌, ◌-◌, ◌<◌, ◌≤◌}
use Rattle.std.proofs.Math.Nat as Nat
use Rattle.std.proofs.Math.Decide.{dec_lt, ℕ_discrete}
use native.Mathlib.Omega.{arith}
use Rattle.std.proofs.Math.Dec.{eqb→eq}
use Rattle.lists.specs.Every.{both, both_left, both_right, every, every-at}
use Rattle.lists.specs.Listed.{listed, listed_nil, listed_suc, listed-length, listed_at}
use Rattle.lists.specs.Member.{at-member}
use Rattle.lists.specs.Distinct.{distinct, distinct_nil, distinct_snoc, below, below-nil, below-append, below_one, and_both, member-among, not-among, among, distinct-all}
use Rattle.algebra.specs.Field.{Field, add-zero, zero-add, add_comm, add-self, mul-zero, zero-mul, mul-one, one-mul, mul_comm, mul_assoc, inv-mul}
use Rattle.algebra.specs.Sum.{sum, sum-nil, sum-suc, sum-ext, sum-zero, sum-append, sum-swap, sum-single}
use Rattle.algebra.specs.Power.{pow, pow-nil, pow-suc, pow-plus, pow-times, pow-of-one, pow-ne-zero}
use Rattle.algebra.specs.Coefficients.{unit, unit-at, unit-off}
use Rattle.algebra.specs.Dual.{dual}
use Rattle.galois.specs.Binary as Binary
use Rattle.galois.specs.BinaryField.{Gf, GF, K, size, power, to_f, to_f-zero, to_f-one, to_f-power, to_f-injective, one-lt}
use Rattle.galois.specs.Gf16.{gf16}

-- ---- different numbers below n, n of them, are all
module _ (n : ℕ) (s : ℕ → ℕ) (small : (i : ℕ) → i < n → s i < n) (different : (i j : ℕ) → i < j → j < n → s i ≢ s j) where
  fresh : (m x : ℕ) → ((k : ℕ) → k < m → s k ≢ x) → among x (listed m s) ≡ false
  fresh m x h =
      not-among x (listed m s) (λ (q : Memᴰ x (listed m s)).
      let t = at-member 0 q in
      let b : t.0 < m = omega (arith, t.1, listed-length m s) in
      h t.0 b (sym (listed_at m t.0 s 0 b) ∙ t.2))

  all-distinct : (m : ℕ) → m ≤ n → distinct (listed m s) ≡ true
  all-distinct zero l = ap distinct (listed_nil s) ∙ distinct_nil
  all-distinct (suc m) l =
      ap distinct (listed_suc m s)
      ∙ distinct_snoc (listed m s) (s m) (all-distinct m (omega arith)) (fresh m (s m) (λ k b. different k m b (omega arith)))

  all-below : (m : ℕ) → m ≤ n → below n (listed m s) ≡ true
  all-below zero l = ap (below n) (listed_nil s) ∙ below-nil n
  all-below (suc m) l =
      ap (below n) (listed_suc m s) ∙ below-append n (listed m s) (s m ∷ [])
      ∙ and_both (below n (listed m s)) (below n (s m ∷ [])) (all-below m (omega arith)) (below_one n (s m) (small m (omega arith)))

  found : (x : ℕ) → x < n → (i : ℕ) × (i < n) × (s i ≡ x)
  found x h =
      let t =
      at-member 0 (member-among x (listed n s)
      (distinct-all n (listed n s) x (all-distinct n (omega arith)) (all-below n (omega arith)) (omega (arith, listed-length n s)) h)) in
      let b : t.0 < n = omega (arith, t.1, listed-length n s) in
      (t.0, b, sym (listed_at n t.0 s 0 b) ∙ t.2)

  -- no two of them are one
  same : (i j : ℕ) → i < n → j < n → s i ≡ s j → i ≡ j
  same i j hi hj e = go (dec_lt i j) (dec_lt j i)
    where
      go : Dec (i < j) → Dec (j < i) → i ≡ j
      go (yes l) d = absurd (different i j l hj e)
      go (no l) (yes d) = absurd (different j i d hi (sym e))
      go (no l) (no d) = omega arith

  module _ {F : Type 0} (K : Field F) where
    open K use {◌⊕◌, ◌⊗◌, 𝟘}

    pub sum-permuted : (f : ℕ → F) → sum K n f ≡ sum K n (λ i. f (s i))
    sum-permuted f =
        sym
        (sum-ext K n _ _ (λ i h. sym (row i h))
        ∙ sum-swap K n n (λ i x. unit K (s i) x ⊗ f x)
        ∙ sum-ext K n _ _ (λ x h. column x h))
      where
        picked : (i x : ℕ) → s i ≡ x → unit K (s i) x ⊗ f x ≡ f x
        picked i x e = ap (λ u. u ⊗ f x) (ap (λ o. unit K o x) e ∙ unit-at K x) ∙ one-mul K (f x)

        passed : (i x : ℕ) → x ≢ s i → unit K (s i) x ⊗ f x ≡ 𝟘
        passed i x d = ap (λ u. u ⊗ f x) (unit-off K (s i) x d) ∙ zero-mul K (f x)

        row : (i : ℕ) → i < n → sum K n (λ x. unit K (s i) x ⊗ f x) ≡ f (s i)
        row i h = sum-single K n (s i) _ (small i h) (λ x l d. passed i x d) ∙ picked i (s i) refl

        column : (x : ℕ) → x < n → sum K n (λ i. unit K (s i) x ⊗ f x) ≡ f x
        column x h =
            let t = found x h in
            sum-single K n t.0 _ t.1 (λ i l d. passed i x (λ e. d (same i t.0 l t.1 (sym e ∙ sym t.2)))) ∙ picked t.0 x t.2

-- ---- primitive elements
module _ (gf : Gf) (a : ℕ) where
  unfoldable pub is_primitive : Bool
  is_primitive = both (eqb (power gf a (size gf - 1)) 1) (every (size gf - 2) (λ k. not (eqb (power gf a (suc k)) 1)))

  -- 0, and the powers of a
  unfoldable pub zero_and_powers : ℕ → ℕ
  zero_and_powers zero = 0
  zero_and_powers (suc k) = power gf a k

pub primitive-16 : T (is_primitive gf16 2)
unfolding is_primitive every Binary.power Binary.times Binary.shift_add Binary.xtime
primitive-16 = tt

module _ (gf : Gf) (a : ℕ) (primitive : T (is_primitive gf a)) where
  open K gf use {◌⊕◌, ◌⊗◌, 𝟘, 𝟙, inv}

  power-lt : (k : ℕ) → power gf a k < size gf
  power-lt k = Binary.power-lt gf.bits gf.red gf.known a k

  once-round : power gf a (size gf - 1) ≡ 1
  unfolding is_primitive
  once-round = eqb→eq _ _ (both_left (eqb (power gf a (size gf - 1)) 1) (every (size gf - 2) (λ k. not (eqb (power gf a (suc k)) 1))) primitive)

  not_T : (b : Bool) → T (not b) → b ≢ true
  not_T true t e = t
  not_T false t e = absurd (false≢true e)

  before : (k : ℕ) → 0 < k → k < size gf - 1 → power gf a k ≢ 1
  unfolding is_primitive
  before k h l e =
      let up : suc (k - 1) ≡ k = omega arith in
      not_T (eqb (power gf a (suc (k - 1))) 1)
      (every-at (size gf - 2) (λ k. not (eqb (power gf a (suc k)) 1))
      (both_right (eqb (power gf a (size gf - 1)) 1) (every (size gf - 2) (λ k. not (eqb (power gf a (suc k)) 1))) primitive) (k - 1) (omega arith))
      (eq-eqb _ _ (ap (power gf a) up ∙ e))

  -- ---- in the field
  round : pow (K gf) (to_f gf a) (size gf - 1) ≡ 𝟙
  round = sym (to_f-power gf a (size gf - 1)) ∙ ap (to_f gf) once-round ∙ to_f-one gf

  pow-zero : (n : ℕ) → 0 < n → pow (K gf) 𝟘 n ≡ 𝟘
  pow-zero zero h = absurd (omega arith)
  pow-zero (suc n) h = pow-suc (K gf) 𝟘 n ∙ mul-zero (K gf) _

  nonzero : to_f gf a ≢ 𝟘
  nonzero e = (K gf).one_ne_zero (sym round ∙ ap (λ x. pow (K gf) x (size gf - 1)) e ∙ pow-zero (size gf - 1) (omega (arith, one-lt gf)))

  pub power-nonzero : (k : ℕ) → power gf a k ≢ 0
  power-nonzero k e = pow-ne-zero (K gf) (to_f gf a) k nonzero (sym (to_f-power gf a k) ∙ ap (to_f gf) e ∙ to_f-zero gf)

  cancel : (x y : GF gf) → x ≢ 𝟘 → x ≡ x ⊗ y → 𝟙 ≡ y
  cancel x y h e =
      sym (inv-mul (K gf) x h) ∙ ap (λ z. inv x ⊗ z) e ∙ sym (mul_assoc (K gf) (inv x) x y) ∙ ap (λ z. z ⊗ y) (inv-mul (K gf) x h) ∙ one-mul (K gf) y

  pub power-different : (k l : ℕ) → k < l → l < size gf - 1 → power gf a k ≢ power gf a l
  power-different k l h b e =
      let up : l ≡ k + (l - k) = omega arith in
      before (l - k) (omega arith) (omega arith)
      (to_f-injective gf _ 1 (power-lt (l - k)) (one-lt gf)
      (to_f-power gf a (l - k)
      ∙ sym (cancel (pow (K gf) (to_f gf a) k) (pow (K gf) (to_f gf a) (l - k)) (pow-ne-zero (K gf) (to_f gf a) k nonzero)
      (sym (to_f-power gf a k) ∙ ap (to_f gf) e ∙ to_f-power gf a l ∙ ap (pow (K gf) (to_f gf a)) up ∙ pow-plus (K gf) (to_f gf a) k (l - k)))
      ∙ sym (to_f-one gf)))

  order_small : (i : ℕ) → i < size gf → zero_and_powers gf a i < size gf
  unfolding zero_and_powers
  order_small zero h = h
  order_small (suc k) h = power-lt k

  order-different : (i j : ℕ) → i < j → j < size gf → zero_and_powers gf a i ≢ zero_and_powers gf a j
  unfolding zero_and_powers
  order-different i zero h l e = absurd (omega arith)
  order-different zero (suc j) h l e = power-nonzero j (sym e)
  order-different (suc i) (suc j) h l e = power-different i j (omega arith) (omega arith) e

  pub sum-powers : (f : ℕ → GF gf) → sum (K gf) (size gf) f ≡ f 0 ⊕ sum (K gf) (size gf - 1) (λ k. f (power gf a k))
  unfolding zero_and_powers
  sum-powers f =
      let e : size gf ≡ 1 + (size gf - 1) = omega (arith, one-lt gf) in
      sum-permuted (size gf) (zero_and_powers gf a) order_small order-different (K gf) f
      ∙ ap (λ n. sum (K gf) n (λ i. f (zero_and_powers gf a i))) e
      ∙ sum-append (K gf) 1 (size gf - 1) _
      ∙ ap₂ (λ x y. x ⊕ y)
      (sum-suc (K gf) 0 _ ∙ ap (λ x. x ⊕ f 0) (sum-nil (K gf) _) ∙ zero-add (K gf) _)
      (sum-ext (K gf) (size gf - 1) _ _ (λ k l. let s : 1 + k ≡ suc k = omega arith in ap (λ i. f (zero_and_powers gf a i)) s))

  -- ---- against the duals of the powers of x
  module _ (g : ℕ → GF gf) where
    -- a power of a power, the other way round
    turned : (k n : ℕ) → pow (K gf) (to_f gf (power gf a k)) n ≡ pow (K gf) (pow (K gf) (to_f gf a) n) k
    turned k n =
        ap (λ x. pow (K gf) x n) (to_f-power gf a k) ∙ sym (pow-times (K gf) (to_f gf a) k n) ∙ ap (pow (K gf) (to_f gf a)) (Nat.mul_comm k n) ∙ pow-times (K gf) (to_f gf a) n k

    pub dual-first : sum (K gf) (size gf) (λ x. g x ⊗ dual (K gf) (size gf - 1) 0 (to_f gf x)) ≡ g 0
    unfolding dual
    dual-first =
        sum-powers (λ x. g x ⊗ dual (K gf) (size gf - 1) 0 (to_f gf x))
        ∙ ap₂ (λ x y. x ⊕ y)
        (ap (λ x. g 0 ⊗ x) (ap₂ (λ x y. x ⊕ y) (ap (λ x. pow (K gf) x (size gf - 1 - 0)) (to_f-zero gf) ∙ pow-zero (size gf - 1 - 0) (omega (arith, one-lt gf))) (unit-at (K gf) 0) ∙ zero-add (K gf) 𝟙) ∙ mul-one (K gf) (g 0))
        (sum-zero (K gf) (size gf - 1) _ (λ k l. ap (λ x. g (power gf a k) ⊗ x) (gone k) ∙ mul-zero (K gf) _))
        ∙ add-zero (K gf) (g 0)
      where
        gone : (k : ℕ) → pow (K gf) (to_f gf (power gf a k)) (size gf - 1 - 0) ⊕ unit (K gf) 0 0 ≡ 𝟘
        gone k =
            let e : size gf - 1 - 0 ≡ size gf - 1 = omega arith in
            ap₂ (λ x y. x ⊕ y) (turned k (size gf - 1 - 0) ∙ ap (λ x. pow (K gf) x k) (ap (pow (K gf) (to_f gf a)) e ∙ round) ∙ pow-of-one (K gf) k) (unit-at (K gf) 0)
            ∙ add-self (K gf) 𝟙

    pub dual-next : (i : ℕ) → 0 < i → i < size gf
        → sum (K gf) (size gf) (λ x. g x ⊗ dual (K gf) (size gf - 1) i (to_f gf x))
        ≡ sum (K gf) (size gf - 1) (λ k. g (power gf a k) ⊗ pow (K gf) (pow (K gf) (to_f gf a) (size gf - 1 - i)) k) ⊕ unit (K gf) (size gf - 1) i ⊗ g 0
    unfolding dual
    dual-next i h l =
        sum-powers (λ x. g x ⊗ dual (K gf) (size gf - 1) i (to_f gf x))
        ∙ ap₂ (λ x y. x ⊕ y)
        (ap (λ x. g 0 ⊗ x) (plain (to_f gf 0) ∙ ap (λ x. pow (K gf) x (size gf - 1 - i)) (to_f-zero gf) ∙ last (ℕ_discrete i (size gf - 1))) ∙ mul_comm (K gf) (g 0) (unit (K gf) (size gf - 1) i))
        (sum-ext (K gf) (size gf - 1) _ _ (λ k b. ap (λ x. g (power gf a k) ⊗ x) (plain (to_f gf (power gf a k)) ∙ turned k (size gf - 1 - i))))
        ∙ add_comm (K gf) _ _
      where
        plain : (x : GF gf) → pow (K gf) x (size gf - 1 - i) ⊕ unit (K gf) 0 i ≡ pow (K gf) x (size gf - 1 - i)
        plain x = ap (λ y. pow (K gf) x (size gf - 1 - i) ⊕ y) (unit-off (K gf) 0 i (λ (e : i ≡ 0). absurd (omega arith))) ∙ add-zero (K gf) _

        last : Dec (i ≡ size gf - 1) → pow (K gf) 𝟘 (size gf - 1 - i) ≡ unit (K gf) (size gf - 1) i
        last (yes e) =
            let z : size gf - 1 - i ≡ 0 = omega arith in
            ap (pow (K gf) 𝟘) z ∙ pow-nil (K gf) 𝟘 ∙ sym (ap (unit (K gf) (size gf - 1)) e ∙ unit-at (K gf) (size gf - 1))
        last (no e) = pow-zero (size gf - 1 - i) (omega arith) ∙ sym (unit-off (K gf) (size gf - 1) i e)
