-- The function of a message: symbol t multiplies the monomial of the t-th present order.
--
--   message_fn K w k s     the function with the coefficients s 0, …, s (k − 1) at the first k present orders
--   message-at            its coefficient at the t-th present order is s t
--   message-fn            it is a function on the curve,
--   message-order         of order at most M, where k orders up to M are present
--   message-val           its value at a point is the sum of the symbols times their monomials
use Rattle.std.specs.Prelude.{◌≡◌, ℕ, zero, suc, ◌<◌, ◌≤◌}
use Rattle.std.proofs.Common.{sym, ap, ap₂, ◌∙◌, arith}
use Rattle.std.proofs.Math.Decide.{dec_lt}
use Rattle.algebra.specs.Field.{Field, add-zero, zero-mul}
use Rattle.algebra.specs.Sum.{sum, sum-nil, sum-suc}
use Rattle.algebra.specs.Coefficients.{choose, choose_yes, choose_no, Below}
use Rattle.hermitian.specs.Present.{Present, dec_present}
use Rattle.hermitian.specs.Orders.{rank, rank-nil, rank-yes, rank-no, rank-gap, order_of, order_of-present, rank-order_of, order_of-rank}
use Rattle.hermitian.specs.Ring.{Fn}
use Rattle.hermitian.specs.Value.{Val, monomial}

module _ {F : Type 0} (K : Field F) (w : ℕ) where
  open K use {◌⊕◌, ◌⊗◌, 𝟘}

  unfoldable pub message_fn : ℕ → (ℕ → F) → ℕ → F
  message_fn k s o = choose (dec_present w o) (choose (dec_lt (rank w o) k) (s (rank w o)) 𝟘) 𝟘

  module _ (k : ℕ) (s : ℕ → F) where
    pub message-present : (o : ℕ) → Present w o → rank w o < k → message_fn k s o ≡ s (rank w o)
    unfolding message_fn
    message-present o p h = choose_yes (dec_present w o) _ 𝟘 p ∙ choose_yes (dec_lt (rank w o) k) _ 𝟘 h

    pub message-absent : (o : ℕ) → ¬ Present w o → message_fn k s o ≡ 𝟘
    unfolding message_fn
    message-absent o p = choose_no (dec_present w o) _ 𝟘 p

    message-late : (o : ℕ) → k ≤ rank w o → message_fn k s o ≡ 𝟘
    unfolding message_fn
    message-late o h = go (dec_present w o)
      where
        go : (d : Dec (Present w o)) → choose d (choose (dec_lt (rank w o) k) (s (rank w o)) 𝟘) 𝟘 ≡ 𝟘
        go (yes p) = choose_yes (yes p) _ 𝟘 p ∙ choose_no (dec_lt (rank w o) k) _ 𝟘 (omega arith)
        go (no p) = choose_no (no p) _ 𝟘 p

    -- where k orders up to M are present
    module _ (M : ℕ) (all : rank w (suc M) ≡ k) where
      pub message-order : Below K (message_fn k s) (suc M)
      message-order = record { zero_from = λ o l. message-late o (omega (arith, all, rank-gap w (suc M) o l)) }

      pub message-fn : Fn K w (message_fn k s)
      message-fn = record { bound = suc M; ends = message-order; absent = message-absent }

    module _ (two : 2 ≤ w) where
      pub message-at : (t : ℕ) → t < k → message_fn k s (order_of w t) ≡ s t
      message-at t h =
          let e : rank w (order_of w t) ≡ t = rank-order_of w two t in
          message-present (order_of w t) (order_of-present w two t) (omega arith) ∙ ap s e

      -- term by term: an absent order adds nothing
      pub ranked-sum : (e : ℕ → F) (n : ℕ) → rank w n ≤ k
          → sum K n (λ o. message_fn k s o ⊗ e o) ≡ sum K (rank w n) (λ t. s t ⊗ e (order_of w t))
      ranked-sum e zero h = sum-nil K _ ∙ sym (ap (λ r. sum K r (λ t. s t ⊗ e (order_of w t))) (rank-nil w) ∙ sum-nil K _)
      ranked-sum e (suc n) h = go (dec_present w n) (ranked-sum e n (omega (arith, rank-gap w n (suc n) (omega arith))))
        where
          go : Dec (Present w n) → sum K n (λ o. message_fn k s o ⊗ e o) ≡ sum K (rank w n) (λ t. s t ⊗ e (order_of w t))
              → sum K (suc n) (λ o. message_fn k s o ⊗ e o) ≡ sum K (rank w (suc n)) (λ t. s t ⊗ e (order_of w t))
          go (yes p) ih =
              sum-suc K n _
              ∙ ap₂ (λ a b. a ⊕ b) ih
              (ap₂ (λ a b. a ⊗ e b) (message-present n p (omega (arith, rank-yes w n p))) (sym (order_of-rank w two n p)))
              ∙ sym (sum-suc K (rank w n) (λ t. s t ⊗ e (order_of w t)))
              ∙ ap (λ r. sum K r (λ t. s t ⊗ e (order_of w t))) (sym (rank-yes w n p))
          go (no p) ih =
              sum-suc K n _
              ∙ ap₂ (λ a b. a ⊕ b) ih (ap (λ a. a ⊗ e n) (message-absent n p) ∙ zero-mul K (e n))
              ∙ add-zero K _
              ∙ ap (λ r. sum K r (λ t. s t ⊗ e (order_of w t))) (sym (rank-no w n p))

      pub message-val : (M : ℕ) → rank w (suc M) ≡ k → (px py : F)
          → Val K w px py (message_fn k s) (sum K k (λ t. s t ⊗ monomial K w px py (order_of w t)))
      message-val M all px py =
          record {
            bound = suc M;
            ends = message-order M all;
            total =
                ranked-sum (monomial K w px py) (suc M) (omega (arith, all))
                ∙ ap (λ r. sum K r (λ t. s t ⊗ monomial K w px py (order_of w t))) all;
          }
