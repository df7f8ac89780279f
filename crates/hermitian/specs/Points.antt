-- Lists of distinct points of the curve, and functions that tell them apart.
--
--   Points K w n x y    (x 0, y 0), …, (x (n − 1), y (n − 1)) lie on the curve, and no two are the same
--   points-some         some of them, chosen by places that rise
--   Apart x y i k       a function that vanishes at the first k points but the i-th, and not there
--   apart               there is one
--   Separators n x y    for each i < n a function that vanishes at the n points but the i-th, and not there
--   separators          they exist for distinct points
use Rattle.std.specs.Prelude.{◌≡◌, ◌≢◌}
use Rattle.std.proofs.Common.{sym, ap, ◌∙◌, subst, ⊎_elim, le_refl, le_of_suc-le-suc, eq-or-lt_of_le, arith}
use Prim.Native.Nat.{ℕ, zero, suc, ◌+◌, ◌*◌, ◌<◌, ◌≤◌}
use Rattle.std.proofs.Math.Decide.{dec_lt, ℕ_discrete}
use Rattle.lists.specs.Chosen.{lt-or-le}
use Rattle.algebra.specs.Field.{Field, add-self, add-cancel, zero-mul, mul-zero, add-mul, mul-ne-zero}
use Rattle.algebra.specs.Sum.{sum}
use Rattle.algebra.specs.Coefficients.{plus, scale, unit, lead-unit, Below, below-mono, below-plus, below-scale, below-shift}
use Rattle.algebra.specs.Weighted.{weighted-total, weighted-of, weighted-is, weighted-plus, weighted-scale}
use Rattle.hermitian.specs.Present.{present-zero}
use Rattle.hermitian.specs.Ring.{Fn, fn-plus, fn-scale, times_x, times_y, fn-times_x, fn-times_y, below-times_y, fn-unit}
use Rattle.hermitian.specs.Value.{Curve, Val, monomial, val-times_x, val-times_y, val-one}

module _ {F : Type 0} (K : Field F) (w : ℕ) where
  open K use {◌⊕◌, ◌⊗◌, 𝟘, 𝟙}

  pub record Points (n : ℕ) (x y : ℕ → F) : Type 0 where
    pub on : (i : ℕ) → i < n → Curve K w (x i) (y i)
    pub distinct : (i j : ℕ) → i < j → j < n → x i ≡ x j → y i ≡ y j → ⊥

  pub points-some : {n : ℕ} {x y : ℕ → F} (k : ℕ) (at : ℕ → ℕ) → ((i : ℕ) → i < k → at i < n)
      → ((i j : ℕ) → i < j → j < k → at i < at j) → Points n x y → Points k (λ i. x (at i)) (λ i. y (at i))
  points-some k at below rising p =
      record {
        on = λ i l. p.on (at i) (below i l);
        distinct = λ i j l h. p.distinct (at i) (at j) (rising i j l h) (below j h);
      }

  pub record Apart (x y : ℕ → F) (i k : ℕ) : Type 0 where
    pub function : ℕ → F
    pub fn : Fn K w function
    pub ends : Below K function (suc (k * suc w))
    pub others : (j : ℕ) → j < k → j ≢ i → Val K w (x j) (y j) function 𝟘
    pub value : F
    pub ne : value ≢ 𝟘
    pub here : Val K w (x i) (y i) function value

  -- value i j is the value of the i-th function at the j-th point
  pub record Separators (n : ℕ) (x y : ℕ → F) : Type 0 where
    pub function : ℕ → ℕ → F
    pub value : ℕ → ℕ → F
    pub fn : (i : ℕ) → i < n → Fn K w (function i)
    pub ends : (i : ℕ) → i < n → Below K (function i) (suc (n * suc w))
    pub val : (i j : ℕ) → i < n → j < n → Val K w (x j) (y j) (function i) (value i j)
    pub off : (i j : ℕ) → i < n → j < n → j ≢ i → value i j ≡ 𝟘
    pub ne : (i : ℕ) → i < n → value i i ≢ 𝟘

  module _ (two : 2 ≤ w) {n : ℕ} {x y : ℕ → F} (p : Points n x y) (i : ℕ) (inside : i < n) where
    -- a factor x + a or y + a, and what it does to values
    record Factor (a : F) (z : ℕ → F) : Type 0 where
      factor : (ℕ → F) → ℕ → F
      keeps : {c : ℕ → F} → Fn K w c → Fn K w (factor c)
      raises : {c : ℕ → F} {b : ℕ} → Below K c b → Below K (factor c) (b + suc w)
      val : (j : ℕ) → j < n → {c : ℕ → F} {v : F} → Fn K w c → Val K w (x j) (y j) c v → Val K w (x j) (y j) (factor c) ((z j ⊕ a) ⊗ v)

    factor_x : (a : F) → Factor a x
    factor_x a =
        record {
          factor = λ c. plus K (times_x K w c) (scale K a c);
          keeps = λ f. fn-plus K w (fn-times_x K w two f) (fn-scale K w a f);
          raises = λ b. below-plus K (below-mono K (omega arith) (below-shift K w b)) (below-mono K (omega arith) (below-scale K a b));
          val = λ j l {c} {v} f h.
              weighted-is K (sym (add-mul K (x j) a v))
              (weighted-plus K (val-times_x K w two (x j) (y j) (p.on j l) f h) (weighted-scale K a h));
        }

    factor_y : (a : F) → Factor a y
    factor_y a =
        record {
          factor = λ c. plus K (times_y K w c) (scale K a c);
          keeps = λ f. fn-plus K w (fn-times_y K w two f) (fn-scale K w a f);
          raises = λ b. below-plus K (below-times_y K w b) (below-mono K (omega arith) (below-scale K a b));
          val = λ j l {c} {v} f h.
              weighted-is K (sym (add-mul K (y j) a v))
              (weighted-plus K (val-times_y K w two (x j) (y j) (p.on j l) f h) (weighted-scale K a h));
        }

    -- one more point to vanish at
    more : {z : ℕ → F} (k : ℕ) → k < n → Factor (z k) z → z i ≢ z k → Apart x y i k → Apart x y i (suc k)
    more {z} k l m h s =
        record {
          function = m.factor s.function;
          fn = m.keeps s.fn;
          ends = below-mono K (omega arith) (m.raises s.ends);
          others = λ j b e.
              ⊎_elim (λ (q : j ≡ k). subst (λ t. Val K w (x t) (y t) (m.factor s.function) 𝟘) (sym q) new)
              (λ (q : j < k). weighted-is K (mul-zero K _) (m.val j (omega arith) s.fn (s.others j q e)))
              (eq-or-lt_of_le (le_of_suc-le-suc b));
          value = (z i ⊕ z k) ⊗ s.value;
          ne = mul-ne-zero K _ _ (λ e. h (add-cancel K _ _ e)) s.ne;
          here = m.val i inside s.fn s.here;
        }
      where
        v : F
        v = sum K (suc (k * suc w)) (λ o. s.function o ⊗ monomial K w (x k) (y k) o)

        new : Val K w (x k) (y k) (m.factor s.function) 𝟘
        new =
            weighted-is K (ap (λ a. a ⊗ v) (add-self K (z k)) ∙ zero-mul K v)
            (m.val k l s.fn (weighted-total K (monomial K w (x k) (y k)) (suc (k * suc w)) s.ends))

    start : Apart x y i 0
    start =
        record {
          function = unit K 0;
          fn = fn-unit K w 0 (present-zero w two);
          ends = below-mono K (omega arith) (lead-unit K 0).above;
          others = λ j l e. absurd (omega arith);
          value = 𝟙;
          ne = K.one_ne_zero;
          here = val-one K w two (x i) (y i);
        }

    next : (k : ℕ) → k < n → Apart x y i k → Apart x y i (suc k)
    next k l s = go (ℕ_discrete k i) (K.same (x i) (x k)) (K.same (y i) (y k))
      where
        go : Dec (k ≡ i) → Dec (x i ≡ x k) → Dec (y i ≡ y k) → Apart x y i (suc k)
        go (yes e) dx dy =
            record {
              function = s.function;
              fn = s.fn;
              ends = below-mono K (omega arith) s.ends;
              others = λ j b h.
                  ⊎_elim (λ (q : j ≡ k). absurd (h (q ∙ e))) (λ (q : j < k). s.others j q h) (eq-or-lt_of_le (le_of_suc-le-suc b));
              value = s.value;
              ne = s.ne;
              here = s.here;
            }
        go (no e) (no h) dy = more k l (factor_x (x k)) h s
        go (no e) (yes a) (no h) = more k l (factor_y (y k)) h s
        go (no e) (yes a) (yes b) =
            absurd
            (⊎_elim (λ (q : k < i). p.distinct k i q inside (sym a) (sym b)) (λ (q : i ≤ k). p.distinct i k (omega arith) l a b) (lt-or-le k i))

    pub apart : (k : ℕ) → k ≤ n → Apart x y i k
    apart zero l = start
    apart (suc k) l = next k l (apart k (omega arith))

  module _ (two : 2 ≤ w) {n : ℕ} {x y : ℕ → F} (p : Points n x y) where
    separator : (i : ℕ) → Dec (i < n) → ℕ → F
    separator i (yes l) = (apart two p i l n (le_refl n)).function
    separator i (no l) = λ o. 𝟘

    pub separators : Separators n x y
    unfolding separator
    separators =
        record {
          function = λ i. separator i (dec_lt i n);
          value = value';
          fn = λ i l. is-fn i (dec_lt i n) l;
          ends = λ i l. ending i (dec_lt i n) l;
          val = λ i j a b. weighted-total K (monomial K w (x j) (y j)) bound (ending i (dec_lt i n) a);
          off = λ i j a b h. off' i j (dec_lt i n) a b h;
          ne = λ i l. ne' i (dec_lt i n) l;
        }
      where
        bound : ℕ
        bound = suc (n * suc w)

        value' : ℕ → ℕ → F
        value' i j = sum K bound (λ o. separator i (dec_lt i n) o ⊗ monomial K w (x j) (y j) o)

        is-fn : (i : ℕ) (d : Dec (i < n)) → i < n → Fn K w (separator i d)
        is-fn i (yes l) h = (apart two p i l n (le_refl n)).fn
        is-fn i (no l) h = absurd (l h)

        ending : (i : ℕ) (d : Dec (i < n)) → i < n → Below K (separator i d) bound
        ending i (yes l) h = (apart two p i l n (le_refl n)).ends
        ending i (no l) h = absurd (l h)

        off' : (i j : ℕ) (d : Dec (i < n)) → i < n → j < n → j ≢ i → sum K bound (λ o. separator i d o ⊗ monomial K w (x j) (y j) o) ≡ 𝟘
        off' i j (yes l) a b h = let s = apart two p i l n (le_refl n) in weighted-of K bound s.ends (s.others j b h)
        off' i j (no l) a b h = absurd (l a)

        ne' : (i : ℕ) (d : Dec (i < n)) → i < n → sum K bound (λ o. separator i d o ⊗ monomial K w (x i) (y i) o) ≢ 𝟘
        ne' i (yes l) h e = let s = apart two p i l n (le_refl n) in s.ne (sym (weighted-of K bound s.ends s.here) ∙ e)
        ne' i (no l) h e = absurd (l h)
