-- Locators: any t points have a function of order at most the t-th present order, not zero, that vanishes on them.
--
--   absent_rank w o       how many absent orders lie below o
--   absent-below         it counts an absent order from the next one on,
--   absent-unique        so no two absent orders have the same number
--   Locator K w t x y    a function, not zero, of order at most order_of w t, that vanishes at (x i, y i) for each i < t
--   locator              there is one: the orders up to order_of w t are one more than the absent ones among them and the points
use Rattle.std.specs.Prelude.{◌≡◌, ◌≢◌, ℕ, suc, ◌+◌, ◌-◌, ◌<◌, ◌≤◌}
use Rattle.std.proofs.Math.Path.{refl}
use Rattle.std.proofs.Common.{sym, ap, ◌∙◌, ⊎_elim, arith}
use Rattle.std.proofs.Math.Decide.{dec_le, dec_lt, ℕ_discrete}
use Rattle.algebra.specs.Field.{Field, mul-zero, mul-one}
use Rattle.algebra.specs.Sum.{sum-ext, sum-single}
use Rattle.algebra.specs.Coefficients.{choose, choose_yes, choose_no, Below}
use Rattle.algebra.specs.Elimination.{Dependence, dependent}
use Rattle.lists.specs.Chosen.{lt-or-le}
use Rattle.hermitian.specs.Present.{Present, dec_present}
use Rattle.hermitian.specs.Orders.{rank, rank-nil, rank-yes, rank-no, rank-gap, order_of, order_of-present, rank-order_of}
use Rattle.hermitian.specs.Ring.{Fn}
use Rattle.hermitian.specs.Value.{monomial, Val}

-- the number of an absent order among the absent ones, upwards
unfoldable pub absent_rank : ℕ → ℕ → ℕ
absent_rank w o = o - rank w o

module _ (w : ℕ) where
  pub absent-below : (o n : ℕ) → ¬ Present w o → o < n → absent_rank w o < absent_rank w n
  unfolding absent_rank
  absent-below o n h l = omega (arith, rank-no w o h, rank-gap w (suc o) n l, rank-gap w 0 o (omega arith), rank-nil w)

  pub absent-unique : (a b : ℕ) → ¬ Present w a → ¬ Present w b → absent_rank w a ≡ absent_rank w b → a ≡ b
  absent-unique a b ha hb e = go (ℕ_discrete a b)
    where
      go : Dec (a ≡ b) → a ≡ b
      go (yes r) = r
      go (no r) =
          ⊎_elim (λ (l : a < b). absurd (omega (arith, e, absent-below a b ha l)))
          (λ (l : b ≤ a). absurd (omega (arith, e, absent-below b a hb (omega arith)))) (lt-or-le a b)

module _ {F : Type 0} (K : Field F) (w : ℕ) where
  open K use {◌⊕◌, ◌⊗◌, 𝟘, 𝟙}

  pub record Locator (t : ℕ) (x y : ℕ → F) : Type 0 where
    pub function : ℕ → F
    pub fn : Fn K w function
    pub order : Below K function (suc (order_of w t))
    pub at : ℕ
    pub ne : function at ≢ 𝟘
    pub vanishes : (i : ℕ) → i < t → Val K w (x i) (y i) function 𝟘

  module _ (two : 2 ≤ w) (t : ℕ) (x y : ℕ → F) where
    -- one for each point and one for each absent order, as many as there are orders below order_of w t
    equations : t + absent_rank w (suc (order_of w t)) ≡ order_of w t
    unfolding absent_rank
    equations =
        omega (arith, rank-yes w (order_of w t) (order_of-present w two t), rank-order_of w two t, rank-gap w 0 (order_of w t) (omega arith), rank-nil w)

    -- the equation t + absent_rank o says that the coefficient at the absent order o is zero
    zero_at : (s o : ℕ) → Dec (Present w o) → F
    zero_at s o (yes p) = 𝟘
    zero_at s o (no p) = choose (ℕ_discrete (t + absent_rank w o) s) 𝟙 𝟘

    equation : ℕ → ℕ → F
    equation o s = choose (dec_lt s t) (monomial K w (x s) (y s) o) (zero_at s o (dec_present w o))

    zero-off : (o i : ℕ) → ¬ Present w o → i ≢ o → (d : Dec (Present w i)) → zero_at (t + absent_rank w o) i d ≡ 𝟘
    unfolding zero_at
    zero-off o i h n (yes p) = refl
    zero-off o i h n (no p) =
        choose_no (ℕ_discrete (t + absent_rank w i) (t + absent_rank w o)) 𝟙 𝟘 (λ e. n (absent-unique w i o p h (omega arith)))

    zero-on : (o : ℕ) → ¬ Present w o → (d : Dec (Present w o)) → zero_at (t + absent_rank w o) o d ≡ 𝟙
    unfolding zero_at
    zero-on o h (yes p) = absurd (h p)
    zero-on o h (no p) = choose_yes (ℕ_discrete (t + absent_rank w o) (t + absent_rank w o)) 𝟙 𝟘 refl

    equation-high : (o i : ℕ) → equation i (t + absent_rank w o) ≡ zero_at (t + absent_rank w o) i (dec_present w i)
    unfolding equation
    equation-high o i = choose_no (dec_lt (t + absent_rank w o) t) _ _ (omega arith)

    equation-low : (o s : ℕ) → s < t → equation o s ≡ monomial K w (x s) (y s) o
    unfolding equation
    equation-low o s l = choose_yes (dec_lt s t) _ _ l

    pub locator : Locator t x y
    locator =
        record {
          function = c;
          fn = record { bound = suc n; ends = d.ends; absent = λ o h. gone o h (dec_le o n) };
          order = d.ends;
          at = d.at;
          ne = d.ne;
          vanishes = λ i l.
              record {
                bound = suc n;
                ends = d.ends;
                total = sum-ext K (suc n) _ _ (λ o h. ap (λ m. c o ⊗ m) (sym (equation-low o i l))) ∙ d.solves i (omega (arith, equations));
              };
        }
      where
        n : ℕ
        n = order_of w t

        d : Dependence K n equation
        d = dependent K n equation

        c : ℕ → F
        c = d.x

        gone : (o : ℕ) → ¬ Present w o → Dec (o ≤ n) → c o ≡ 𝟘
        gone o h (yes l) =
            let s : ℕ = t + absent_rank w o in
            sym (mul-one K (c o)) ∙ ap (λ m. c o ⊗ m) (sym (equation-high o o ∙ zero-on o h (dec_present w o)))
            ∙ sym (sum-single K (suc n) o (λ i. c i ⊗ equation i s) (omega arith)
            (λ i b e. ap (λ m. c i ⊗ m) (equation-high o i ∙ zero-off o i h e (dec_present w i)) ∙ mul-zero K (c i)))
            ∙ d.solves s (omega (arith, absent-below w o (suc n) h (omega arith), equations))
        gone o h (no l) = d.ends.zero_from o (omega arith)
