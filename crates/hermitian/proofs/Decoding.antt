-- Why the decoder repairs: a word with at most T wrong values has its function in every small Q that passes through it.
--
--   radius-decides       then L + M + T < n, where L is the order up to which T points have a locator
--   decoding             where L + M + T < n, any small Q through the word has q = f·r,
--   plain-zero           and a Q through the word without z, of a weight below n, is zero
--   interpolant          there is such a Q with r not zero and q = f·r, so the least Q is small
--   near-unique          at most one function of order at most M is within T of a word
use Rattle.std.specs.Prelude.{◌≡◌, ◌≢◌, ℕ, suc, ◌+◌, ◌<◌, ◌≤◌}
use Rattle.std.proofs.Common.{sym, ap, ◌∙◌, subst, arith}
use Rattle.std.proofs.Math.Path.{fun_ext}
use Rattle.algebra.specs.Field.{Field, mul-zero, add-self, add-cancel}
use Rattle.algebra.specs.Sum.{sum}
use Rattle.algebra.specs.Coefficients.{plus, Below, below-mono, below-plus}
use Rattle.algebra.specs.Distance.{agreeing, differing, agree-or-differ, Agreement, agreement, Difference, difference, differing-comm, differing-triangle}
use Rattle.algebra.specs.Weighted.{weighted-total, weighted-unique, weighted-by, weighted-is, weighted-plus, weighted-zero}
use Rattle.hermitian.specs.Orders.{order_of, order_of-mono, order_of-most}
use Rattle.hermitian.specs.Ring.{Fn, fn-plus}
use Rattle.hermitian.specs.Value.{Val, monomial}
use Rattle.hermitian.specs.Product.{product, fn-product, below-product, val-product}
use Rattle.hermitian.specs.Points.{Points, points-some}
use Rattle.hermitian.specs.Locator.{Locator, locator}
use Rattle.hermitian.specs.ZeroBound.{vanishing, agreeing-injective}
use Rattle.hermitian.specs.Decoding.{Radius, Near, Vanishes, PassesThrough, Small}

pub radius-decides : {w : ℕ} → 2 ≤ w → (M T : ℕ) {n : ℕ} → Radius w M T n → order_of w T + M + T < n
radius-decides {w} two M T radius = omega (arith, radius, order_of-most w two T)

module _ {F : Type 0} (K : Field F) (w : ℕ) where
  open K use {◌⊕◌, ◌⊗◌, 𝟘}

  -- without z there is nothing that vanishes at so many points
  pub plain-zero : 2 ≤ w → {n : ℕ} {x y t : ℕ → F} → Points K w n x y → {L : ℕ} → L < n → {q r : ℕ → F} → Fn K w q → Below K q (suc L)
      → PassesThrough K w n x y t q r → ((o : ℕ) → r o ≡ 𝟘) → (o : ℕ) → q o ≡ 𝟘
  plain-zero two {t = t} p few fn order h none =
      vanishing K w two few p fn order
      (λ i l.
      let e = h i l in
      let v : e.value ≡ 𝟘 = weighted-unique K e.val_with_z (weighted-by K (fun_ext none) (weighted-zero K _)) in
      weighted-is K (ap (λ b. t i ⊗ b) v ∙ mul-zero K (t i)) e.val_plain)

  module _ (two : 2 ≤ w) {M T n : ℕ} {x y : ℕ → F} (p : Points K w n x y) {t f : ℕ → F} (near : Near K w M T n x y t f) where
    -- q + f·r vanishes wherever the word has f's value, at more places than its lead allows
    pub decoding : {L : ℕ} → L + M + T < n → {q r : ℕ → F} → Small K w M L q r → PassesThrough K w n x y t q r → q ≡ product K w (suc M) f r
    decoding {L} decides {q} {r} s h =
        fun_ext
        (λ o. add-cancel K (q o) (product K w (suc M) f r o)
        (vanishing K w two {M = L + M} many (points-some K w right A.at A.below A.rising p)
        (fn-plus K w s.fn_plain (fn-product K w two (suc M) f s.fn_with_z))
        (below-plus K s.order_plain (below-mono K (omega arith) (below-product K w (suc M) near.fn s.order_with_z)))
        zero-at o))
      where
        A : Agreement K n near.value t
        A = agreement K n near.value t

        right : ℕ
        right = agreeing K n near.value t

        many : L + M < right
        many = omega (arith, decides, near.few, agree-or-differ K n near.value t)

        zero-at : (i : ℕ) → i < right → Val K w (x (A.at i)) (y (A.at i)) (plus K q (product K w (suc M) f r)) 𝟘
        zero-at i l =
            let k : ℕ = A.at i in
            let b : k < n = A.below i l in
            let e = h k b in
            weighted-is K (ap (λ z. t k ⊗ e.value ⊕ z ⊗ e.value) (A.equal i l) ∙ add-self K _)
            (weighted-plus K e.val_plain
            (val-product K w two (x k) (y k) (p.on k b) (suc M) near.order (near.val k b) s.fn_with_z e.val_with_z))

    -- E·z + f·E, with E a locator of the wrong places
    pub interpolant : (r : ℕ → F) × (Small K w M (order_of w T) (product K w (suc M) f r) r) × (PassesThrough K w n x y t (product K w (suc M) f r) r)
        × ((o : ℕ) × (r o ≢ 𝟘))
    interpolant = (E, small, (λ i l. through i l (K.same (near.value i) (t i))), (L.at, L.ne))
      where
        D : Difference K n near.value t
        D = difference K n near.value t

        wrong : ℕ
        wrong = differing K n near.value t

        L : Locator K w wrong (λ i. x (D.at i)) (λ i. y (D.at i))
        L = locator K w two wrong (λ i. x (D.at i)) (λ i. y (D.at i))

        E : ℕ → F
        E = L.function

        E-order : Below K E (suc (order_of w T))
        E-order = below-mono K (omega (arith, order_of-mono w two near.few)) L.order

        small : Small K w M (order_of w T) (product K w (suc M) f E) E
        small =
            record {
              fn_plain = fn-product K w two (suc M) f L.fn;
              fn_with_z = L.fn;
              order_plain = below-mono K (omega arith) (below-product K w (suc M) near.fn E-order);
              order_with_z = E-order;
            }

        through : (i : ℕ) → i < n → Dec (near.value i ≡ t i) → Vanishes K w (x i) (y i) (t i) (product K w (suc M) f E) E
        through i l d =
            record {
              value = v;
              val_with_z = at-v;
              val_plain =
                  weighted-is K (right d)
                  (val-product K w two (x i) (y i) (p.on i l) (suc M) near.order (near.val i l) L.fn at-v);
            }
          where
            v : F
            v = sum K (suc (order_of w T)) (λ o. E o ⊗ monomial K w (x i) (y i) o)

            at-v : Val K w (x i) (y i) E v
            at-v = weighted-total K (monomial K w (x i) (y i)) (suc (order_of w T)) E-order

            right : Dec (near.value i ≡ t i) → near.value i ⊗ v ≡ t i ⊗ v
            right (yes e) = ap (λ z. z ⊗ v) e
            right (no e) =
                let c = D.covers i l e in
                let z : v ≡ 𝟘 = weighted-unique K at-v (subst (λ k. Val K w (x k) (y k) E 𝟘) c.2 (L.vanishes c.0 c.1)) in
                ap (λ a. near.value i ⊗ a) z ∙ mul-zero K _ ∙ sym (ap (λ a. t i ⊗ a) z ∙ mul-zero K _)

    pub near-unique : Radius w M T n → {g : ℕ → F} → Near K w M T n x y t g → f ≡ g
    near-unique radius {g} other =
        agreeing-injective K w two p near.fn near.order other.fn other.order near.val other.val
        (omega
        (arith, radius, near.few, other.few, agree-or-differ K n near.value other.value, differing-triangle K n near.value t other.value, differing-comm K n t other.value))
