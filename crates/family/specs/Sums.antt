-- Power sums of a list of elements, computed with running powers: each step multiplies every power once more, and adds them up.
--
--   xor_of l              the entries of a list, added
--   each f l m           two lists, entry by entry
--   sums_pass vs N        the test: the n-th powers of the entries sum to 1 for n = N and n = 2N, and to 0 for every other n up to 2N
--   sums-pass            what passes it has the power sums by which a coefficient is read off values
use Rattle.std.specs.Prelude.{Bool, ◌≡◌, List, [], ◌∷◌, length, get_or}
use Rattle.std.proofs.Math.Bool.{true, false}
use Rattle.std.proofs.Math.Path.{refl, sym, ap, ap₂, subst}
use Rattle.std.proofs.Common.{◌∙◌, eqb-true}
use Prim.Native.Nat.{ℕ, zero, suc, ◌+◌, ◌<◌, ◌≤◌}
use native.Mathlib.Omega.{arith}
use Rattle.std.proofs.Math.Dec.{T, eqb, eqb→eq}
use Rattle.std.specs.Int.Bits.{bit_xor}
use Rattle.std.proofs.lemmas.Nat.{xor_comm}
use Rattle.std.proofs.lemmas.Bool.{eqb-false}
use Rattle.lists.specs.Every.{both, both_left, both_right}
use Rattle.lists.specs.Listed.{listed, listed_nil, listed_cons, listed-ext, listed-get_d}
use Rattle.lists.specs.Xor.{xor_assoc}
use Rattle.lists.specs.XorSum.{xor_sum, xor_sum-nil, xor_sum-suc}
use Rattle.algebra.specs.Sum.{sum-ext}
use Rattle.algebra.specs.Coefficients.{unit, unit-at, unit-off}
use Rattle.algebra.specs.Dual.{PowerSums}
use Rattle.galois.specs.BinaryField.{Gf, K, to_f, times, power, power-nil, power-suc, to_f-add, to_f-zero, to_f-one, to_f-power, to_f-xor_sum}

unfoldable pub xor_of : List ℕ → ℕ
xor_of [] = 0
xor_of (a ∷ l) = bit_xor a (xor_of l)

unfoldable pub each : (ℕ → ℕ → ℕ) → List ℕ → List ℕ → List ℕ
each f [] m = []
each f (a ∷ l) [] = []
each f (a ∷ l) (b ∷ m) = f a b ∷ each f l m

abbrev one_if : Bool → ℕ
one_if true = 1
one_if false = 0

unfoldable pub one : ℕ → ℕ → ℕ
one k n = one_if (eqb n k)

xor_sum-cons : (n : ℕ) (f : ℕ → ℕ) → xor_sum (suc n) f ≡ bit_xor (f 0) (xor_sum n (λ k. f (suc k)))
xor_sum-cons zero f = xor_sum-suc 0 f ∙ ap (λ x. bit_xor x (f 0)) (xor_sum-nil f) ∙ xor_comm 0 (f 0) ∙ sym (ap (bit_xor (f 0)) (xor_sum-nil _))
xor_sum-cons (suc n) f =
    xor_sum-suc (suc n) f ∙ ap (λ x. bit_xor x (f (suc n))) (xor_sum-cons n f) ∙ xor_assoc (f 0) _ _
    ∙ ap (bit_xor (f 0)) (sym (xor_sum-suc n (λ k. f (suc k))))

xor_of-listed : (n : ℕ) (f : ℕ → ℕ) → xor_of (listed n f) ≡ xor_sum n f
unfolding xor_of
xor_of-listed zero f = ap xor_of (listed_nil f) ∙ sym (xor_sum-nil f)
xor_of-listed (suc n) f = ap xor_of (listed_cons n f) ∙ ap (bit_xor (f 0)) (xor_of-listed n (λ k. f (suc k))) ∙ sym (xor_sum-cons n f)

each-listed : (h : ℕ → ℕ → ℕ) (n : ℕ) (f g : ℕ → ℕ) → each h (listed n f) (listed n g) ≡ listed n (λ k. h (f k) (g k))
unfolding each
each-listed h zero f g = ap₂ (each h) (listed_nil f) (listed_nil g) ∙ sym (listed_nil _)
each-listed h (suc n) f g =
    ap₂ (each h) (listed_cons n f) (listed_cons n g) ∙ ap (λ l. h (f 0) (g 0) ∷ l) (each-listed h n (λ k. f (suc k)) (λ k. g (suc k)))
    ∙ sym (listed_cons n (λ k. h (f k) (g k)))

module _ (gf : Gf) where
  open K gf use {◌⊕◌}

  -- the n-th powers ps have the sum that is asked for
  unfoldable pub sum_is : ℕ → ℕ → List ℕ → Bool
  sum_is N n ps = eqb (xor_of ps) (bit_xor (one N n) (one (N + N) n))

  -- the sums from the n-th powers ps of the entries vs on, so many of them
  unfoldable pub sums_from : List ℕ → ℕ → ℕ → List ℕ → ℕ → Bool
  sums_from vs N n ps zero = true
  sums_from vs N n ps (suc left) = both (sum_is N n ps) (sums_from vs N (suc n) (each (times gf) ps vs) left)

  -- the powers of no step are ones
  unfoldable pub sums_pass : List ℕ → ℕ → Bool
  sums_pass vs N = sums_from vs N 0 (each (λ a b. 1) vs vs) (suc (N + N))

  module _ (q : ℕ) (v : ℕ → ℕ) (N : ℕ) where
    -- the n-th powers
    powers : ℕ → List ℕ
    powers n = listed q (λ k. power gf (v k) n)

    SumAt : ℕ → Type 0
    SumAt n = xor_sum q (λ k. power gf (v k) n) ≡ bit_xor (one N n) (one (N + N) n)

    more : (n : ℕ) → each (times gf) (powers n) (listed q v) ≡ powers (suc n)
    unfolding powers
    more n = each-listed (times gf) q _ v ∙ listed-ext q _ _ (λ k l. sym (power-suc gf (v k) n))

    sums-run : (left n : ℕ) → T (sums_from (listed q v) N n (powers n) left) → (i : ℕ) → i < left → SumAt (i + n)
    unfolding sums_from sum_is SumAt powers
    sums-run zero n t i h = absurd (omega arith)
    sums-run (suc left) n t zero h =
        let e : 0 + n ≡ n = omega arith in
        subst SumAt (sym e)
        (sym (xor_of-listed q _) ∙ eqb→eq _ _ (both_left (sum_is N n (powers n)) (sums_from (listed q v) N (suc n) (each (times gf) (powers n) (listed q v)) left) t))
    sums-run (suc left) n t (suc i) h =
        let e : suc i + n ≡ i + suc n = omega arith in
        subst SumAt (sym e)
        (sums-run left (suc n)
        (subst (λ ps. T (sums_from (listed q v) N (suc n) ps left)) (more n)
        (both_right (sum_is N n (powers n)) (sums_from (listed q v) N (suc n) (each (times gf) (powers n) (listed q v)) left) t))
        i (omega arith))

    sums_at : T (sums_pass (listed q v) N) → (n : ℕ) → n ≤ N + N → SumAt n
    unfolding sums_pass powers
    sums_at t n l =
        let e : n + 0 ≡ n = omega arith in
        subst SumAt e
        (sums-run (suc (N + N)) 0
        (subst (λ ps. T (sums_from (listed q v) N 0 ps (suc (N + N)))) (each-listed _ q v v ∙ listed-ext q _ _ (λ k b. sym (power-nil gf (v k)))) t)
        n (omega arith))

  to_f-one-at : (k n : ℕ) → to_f gf (one k n) ≡ unit (K gf) k n
  unfolding one
  to_f-one-at k n = go (eqb n k) refl
    where
      go : (b : Bool) → eqb n k ≡ b → to_f gf (one_if b) ≡ unit (K gf) k n
      go true e = to_f-one gf ∙ sym (ap (unit (K gf) k) (eqb-true n k e) ∙ unit-at (K gf) k)
      go false e = to_f-zero gf ∙ sym (unit-off (K gf) k n (eqb-false n k e))

  pub sums-pass : (q : ℕ) (v : ℕ → ℕ) (N : ℕ) → 0 < N → T (sums_pass (listed q v) N) → PowerSums (K gf) q (λ k. to_f gf (v k)) N
  unfolding SumAt
  sums-pass q v N h t =
      record {
        positive = h;
        sums = λ n l.
            sum-ext (K gf) q _ _ (λ k b. sym (to_f-power gf (v k) n))
            ∙ sym (to_f-xor_sum gf q (λ k. power gf (v k) n))
            ∙ ap (to_f gf) (sums_at q v N t n l)
            ∙ to_f-add gf (one N n) (one (N + N) n)
            ∙ ap₂ (λ x y. x ⊕ y) (to_f-one-at N n) (to_f-one-at (N + N) n);
      }

  pub sums-list : (l : List ℕ) (q N : ℕ) → length l ≡ q → 0 < N → T (sums_pass l N) → PowerSums (K gf) q (λ r. to_f gf (get_or l r 0)) N
  sums-list l q N size h t =
      sums-pass q (λ r. get_or l r 0) N h
      (subst (λ vs. T (sums_pass vs N)) (sym (ap (λ n. listed n (λ r. get_or l r 0)) (sym size) ∙ listed-get_d l 0)) t)
