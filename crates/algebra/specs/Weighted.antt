-- Functionals on coefficient functions: with e k the weight of coefficient k, the value of c is the sum of all c k ⊗ e k.
--
--   Weighted K e c v   c ends somewhere, and its coefficients times their weights sum to v
--   weighted-of        the sum up to any bound of c is its value
--   weighted-total, weighted-unique   a function that ends has a value, and only one
--   weighted-by, weighted-is     the same function, the same value
--   weighted-plus, weighted-scale, weighted-zero   values of sums, multiples, and of zero
--   weighted-sum       the value of a sum of multiples
--   weighted-ext       weights may differ where c is zero
--   weighted-factor    a factor of all weights is a factor of the value
--   weighted-shift, weighted-down   c shifted up by s, or down, at the weights that its coefficients meet there
use Rattle.std.specs.Prelude.{◌≡◌, refl, ℕ, zero, suc, ◌+◌, ◌-◌, ◌<◌, ◌≤◌}
use Rattle.std.proofs.Common.{sym, ap, ap₂, ◌∙◌, subst, add_comm, arith}
use Rattle.std.proofs.Math.Path.{fun_ext}
use Rattle.std.proofs.Math.Nat.{add-sub_cancel_left}
use Rattle.std.proofs.Math.Decide.{dec_le}
use Rattle.algebra.specs.Field.{Field, zero-add, zero-mul, mul_assoc, add-mul, ring}
use Rattle.algebra.specs.Sum.{sum, sum-nil, sum-suc, sum-ext, sum-zero, sum-plus, sum-scale, sum-append, sum_more}
use Rattle.algebra.specs.Coefficients.{plus, scale, shift, shift-at, shift-low, Below, below-mono, below-plus, below-scale, below-shift}

module _ {F : Type 0} (K : Field F) where
  open K use {◌⊕◌, ◌⊗◌, 𝟘}

  pub record Weighted (e c : ℕ → F) (v : F) : Type 0 where
    pub bound : ℕ
    pub ends : Below K c bound
    pub total : sum K bound (λ k. c k ⊗ e k) ≡ v

  -- beyond its end a function adds nothing
  sum_past : (e : ℕ → F) {c : ℕ → F} (m n : ℕ) → Below K c m → m ≤ n → sum K n (λ k. c k ⊗ e k) ≡ sum K m (λ k. c k ⊗ e k)
  sum_past e m n b l = sum_more K m n _ l (λ k h x. ap (λ x. x ⊗ e k) (b.zero_from k h) ∙ zero-mul K (e k))

  pub weighted-of : {e c : ℕ → F} {v : F} (n : ℕ) → Below K c n → Weighted e c v → sum K n (λ k. c k ⊗ e k) ≡ v
  weighted-of {e} {c} {v} n b h = go (dec_le h.bound n)
    where
      go : Dec (h.bound ≤ n) → sum K n (λ k. c k ⊗ e k) ≡ v
      go (yes l) = sum_past e h.bound n h.ends l ∙ h.total
      go (no l) = sym (sum_past e n h.bound b (omega arith)) ∙ h.total

  pub weighted-total : {c : ℕ → F} (e : ℕ → F) (n : ℕ) → Below K c n → Weighted e c (sum K n (λ k. c k ⊗ e k))
  weighted-total e n b = record { bound = n; ends = b; total = refl }

  pub weighted-unique : {e c : ℕ → F} {u v : F} → Weighted e c u → Weighted e c v → u ≡ v
  weighted-unique a b = sym a.total ∙ weighted-of a.bound a.ends b

  -- a function that is another has its value
  pub weighted-by : {e c d : ℕ → F} {v : F} → c ≡ d → Weighted e d v → Weighted e c v
  weighted-by {e} {c} {d} {v} p h = subst (λ f. Weighted e f v) (sym p) h

  -- a value that is another
  pub weighted-is : {e c : ℕ → F} {u v : F} → u ≡ v → Weighted e c u → Weighted e c v
  weighted-is p h = record { bound = h.bound; ends = h.ends; total = h.total ∙ p }

  pub weighted-plus : {e c d : ℕ → F} {u v : F} → Weighted e c u → Weighted e d v → Weighted e (plus K c d) (u ⊕ v)
  weighted-plus {e} {c} {d} {u} {v} a b =
      let n : ℕ = a.bound + b.bound in
      let p : Below K c n = below-mono K (omega arith) a.ends in
      let q : Below K d n = below-mono K (omega arith) b.ends in
      record {
        bound = n;
        ends = below-plus K p q;
        total = sum-ext K n _ _ (λ k l. add-mul K (c k) (d k) (e k)) ∙ sum-plus K n _ _ ∙ ap₂ (λ x y. x ⊕ y) (weighted-of n p a) (weighted-of n q b);
      }

  pub weighted-scale : {e c : ℕ → F} {v : F} (a : F) → Weighted e c v → Weighted e (scale K a c) (a ⊗ v)
  weighted-scale {e} {c} a h =
      record {
        bound = h.bound;
        ends = below-scale K a h.ends;
        total = sum-ext K h.bound _ _ (λ k l. mul_assoc K a (c k) (e k)) ∙ sum-scale K h.bound a _ ∙ ap (λ x. a ⊗ x) h.total;
      }

  pub weighted-zero : (e : ℕ → F) → Weighted e (λ k. 𝟘) 𝟘
  weighted-zero e = record { bound = 0; ends = record { zero_from = λ k l. refl }; total = sum-nil K _ }

  pub weighted-sum : {e : ℕ → F} (n : ℕ) (a : ℕ → F) (c : ℕ → ℕ → F) (v : ℕ → F) → ((i : ℕ) → i < n → Weighted e (c i) (v i))
      → Weighted e (λ k. sum K n (λ i. a i ⊗ c i k)) (sum K n (λ i. a i ⊗ v i))
  weighted-sum {e} zero a c v h =
      weighted-by (fun_ext (λ k. sum-nil K (λ i. a i ⊗ c i k))) (weighted-is (sym (sum-nil K (λ i. a i ⊗ v i))) (weighted-zero e))
  weighted-sum {e} (suc n) a c v h =
      weighted-by (fun_ext (λ k. sum-suc K n (λ i. a i ⊗ c i k)))
      (weighted-is (sym (sum-suc K n (λ i. a i ⊗ v i)))
      (weighted-plus (weighted-sum n a c v (λ i l. h i (omega arith))) (weighted-scale (a n) (h n (omega arith)))))

  pub weighted-ext : {d e c : ℕ → F} {v : F} → ((k : ℕ) → c k ⊗ d k ≡ c k ⊗ e k) → Weighted d c v → Weighted e c v
  weighted-ext h a =
      record { bound = a.bound; ends = a.ends; total = sum-ext K a.bound _ _ (λ k l. sym (h k)) ∙ a.total }

  pub weighted-factor : {e c : ℕ → F} {v : F} (a : F) → Weighted e c v → Weighted (λ k. a ⊗ e k) c (a ⊗ v)
  weighted-factor {e} {c} a h =
      record {
        bound = h.bound;
        ends = h.ends;
        total = sum-ext K h.bound _ _ (λ k l. simp (ring, K)) ∙ sum-scale K h.bound a (λ k. c k ⊗ e k) ∙ ap (λ x. a ⊗ x) h.total;
      }

  pub weighted-shift : {e c : ℕ → F} {v : F} (s : ℕ) → Weighted (λ k. e (k + s)) c v → Weighted e (shift K s c) v
  weighted-shift {e} {c} {v} s h =
      record {
        bound = h.bound + s;
        ends = below-shift K s h.ends;
        total =
            ap (λ n. sum K n (λ k. shift K s c k ⊗ e k)) (add_comm h.bound s)
            ∙ sum-append K s h.bound _
            ∙ ap₂ (λ x y. x ⊕ y)
            (sum-zero K s _ (λ k l. ap (λ x. x ⊗ e k) (shift-low K s k c l) ∙ zero-mul K (e k)))
            (sum-ext K h.bound _ _ (λ k l. ap (λ i. shift K s c i ⊗ e i) (add_comm s k) ∙ ap (λ x. x ⊗ e (k + s)) (shift-at K s k c)) ∙ h.total)
            ∙ zero-add K v;
      }

  -- what is zero below s may be moved down by s
  pub weighted-down : {e c : ℕ → F} {v : F} (s : ℕ) → ((k : ℕ) → k < s → c k ≡ 𝟘) → Weighted (λ k. e (k - s)) c v → Weighted e (λ k. c (k + s)) v
  weighted-down {e} {c} {v} s z h =
      let n : ℕ = h.bound in
      record {
        bound = n;
        ends = record { zero_from = λ k l. h.ends.zero_from (k + s) (omega arith) };
        total =
            sum-ext K n _ _ (λ k l. ap₂ (λ i j. c i ⊗ e j) (add_comm k s) (sym (add-sub_cancel_left s k)))
            ∙ sym (zero-add K _)
            ∙ ap (λ x. x ⊕ sum K n (λ k. c (s + k) ⊗ e (s + k - s))) (sym (sum-zero K s _ (λ k l. ap (λ x. x ⊗ e (k - s)) (z k l) ∙ zero-mul K (e (k - s)))))
            ∙ sym (sum-append K s n (λ k. c k ⊗ e (k - s)))
            ∙ weighted-of (s + n) (below-mono K (omega arith) h.ends) h;
      }
