-- In how many of their first n places two words agree, and in how many they differ (Hamming distance).
--
--   agreeing K n a b, differing K n a b   the two counts
--   agree-or-differ    together they are n
--   Agreement, agreement      the places of agreement, rising
--   Difference, difference    as many places as differ, that cover every difference
--   differing-comm, differing-triangle    a metric
--   differing-nil, differing-suc-same, differing-suc-other   no place; one place more: the same, or one more
--   differing-suc-le, differing-suc-le-suc    never less, and at most one more
--   differing-ext      only the first n places matter
use Rattle.std.specs.Prelude.{◌≡◌, ◌≢◌, ℕ, zero, suc, ◌+◌, ◌<◌, ◌≤◌}
use Rattle.std.proofs.Common.{sym, ◌∙◌, lt-suc_self, arith}
use Rattle.std.proofs.Math.Nat.{le_step}
use Rattle.lists.specs.Chosen.{count, count-nil, count-suc, count-opposite, one-more-yes, one-more-no, dec_not, chosen}
use Rattle.algebra.specs.Field.{Field}

module _ {F : Type 0} (K : Field F) where
  unfoldable pub agreeing : ℕ → (ℕ → F) → (ℕ → F) → ℕ
  agreeing n a b = count (λ i. K.same (a i) (b i)) n

  unfoldable pub differing : ℕ → (ℕ → F) → (ℕ → F) → ℕ
  differing n a b = count (λ i. dec_not (K.same (a i) (b i))) n

  pub agree-or-differ : (n : ℕ) (a b : ℕ → F) → agreeing n a b + differing n a b ≡ n
  unfolding agreeing differing
  agree-or-differ n a b = count-opposite (λ i. K.same (a i) (b i)) n

  pub record Agreement (n : ℕ) (a b : ℕ → F) : Type 0 where
    pub at : ℕ → ℕ
    pub below : (i : ℕ) → i < agreeing n a b → at i < n
    pub rising : (i j : ℕ) → i < j → j < agreeing n a b → at i < at j
    pub equal : (i : ℕ) → i < agreeing n a b → a (at i) ≡ b (at i)

  pub record Difference (n : ℕ) (a b : ℕ → F) : Type 0 where
    pub at : ℕ → ℕ
    pub covers : (k : ℕ) → k < n → a k ≢ b k → (i : ℕ) × (i < differing n a b) × (at i ≡ k)

  pub agreement : (n : ℕ) (a b : ℕ → F) → Agreement n a b
  unfolding agreeing
  agreement n a b =
      let c = chosen (λ i. K.same (a i) (b i)) n in
      record { at = c.at; below = c.below; rising = c.rising; equal = c.accepted }

  pub difference : (n : ℕ) (a b : ℕ → F) → Difference n a b
  unfolding differing
  difference n a b =
      let c = chosen (λ i. dec_not (K.same (a i) (b i))) n in
      record { at = c.at; covers = c.all }

  pub differing-nil : (a b : ℕ → F) → differing 0 a b ≡ 0
  unfolding differing
  differing-nil a b = count-nil (λ i. dec_not (K.same (a i) (b i)))

  pub differing-suc-same : (n : ℕ) (a b : ℕ → F) → a n ≡ b n → differing (suc n) a b ≡ differing n a b
  unfolding differing
  differing-suc-same n a b e =
      count-suc (λ i. dec_not (K.same (a i) (b i))) n ∙ one-more-no (dec_not (K.same (a n) (b n))) _ (λ h. h e)

  pub differing-suc-other : (n : ℕ) (a b : ℕ → F) → a n ≢ b n → differing (suc n) a b ≡ suc (differing n a b)
  unfolding differing
  differing-suc-other n a b h =
      count-suc (λ i. dec_not (K.same (a i) (b i))) n ∙ one-more-yes (dec_not (K.same (a n) (b n))) _ h

  pub differing-suc-le : (n : ℕ) (a b : ℕ → F) → differing n a b ≤ differing (suc n) a b
  differing-suc-le n a b = go (K.same (a n) (b n))
    where
      go : Dec (a n ≡ b n) → differing n a b ≤ differing (suc n) a b
      go (yes e) = omega (arith, differing-suc-same n a b e)
      go (no e) = omega (arith, differing-suc-other n a b e)

  pub differing-suc-le-suc : (n : ℕ) (a b : ℕ → F) → differing (suc n) a b ≤ suc (differing n a b)
  differing-suc-le-suc n a b = go (K.same (a n) (b n))
    where
      go : Dec (a n ≡ b n) → differing (suc n) a b ≤ suc (differing n a b)
      go (yes e) = omega (arith, differing-suc-same n a b e)
      go (no e) = omega (arith, differing-suc-other n a b e)

  pub differing-comm : (n : ℕ) (a b : ℕ → F) → differing n a b ≡ differing n b a
  differing-comm zero a b = differing-nil a b ∙ sym (differing-nil b a)
  differing-comm (suc n) a b = go (K.same (a n) (b n)) (differing-comm n a b)
    where
      go : Dec (a n ≡ b n) → differing n a b ≡ differing n b a → differing (suc n) a b ≡ differing (suc n) b a
      go (yes e) ih = differing-suc-same n a b e ∙ ih ∙ sym (differing-suc-same n b a (sym e))
      go (no e) ih = omega (arith, ih, differing-suc-other n a b e, differing-suc-other n b a (λ h. e (sym h)))

  pub differing-triangle : (n : ℕ) (a b c : ℕ → F) → differing n a c ≤ differing n a b + differing n b c
  differing-triangle zero a b c = omega (arith, differing-nil a c)
  differing-triangle (suc n) a b c = go (K.same (a n) (b n)) (K.same (b n) (c n)) (differing-triangle n a b c)
    where
      go : Dec (a n ≡ b n) → Dec (b n ≡ c n) → differing n a c ≤ differing n a b + differing n b c
          → differing (suc n) a c ≤ differing (suc n) a b + differing (suc n) b c
      go (yes e) (yes h) ih =
          omega (arith, ih, differing-suc-same n a c (e ∙ h), differing-suc-same n a b e, differing-suc-same n b c h)
      go (no e) d ih = omega (arith, ih, differing-suc-le-suc n a c, differing-suc-other n a b e, differing-suc-le n b c)
      go (yes e) (no h) ih = omega (arith, ih, differing-suc-le-suc n a c, differing-suc-le n a b, differing-suc-other n b c h)

  pub differing-ext : (n : ℕ) (a b c d : ℕ → F) → ((i : ℕ) → i < n → a i ≡ c i) → ((i : ℕ) → i < n → b i ≡ d i) → differing n a b ≡ differing n c d
  differing-ext zero a b c d p q = differing-nil a b ∙ sym (differing-nil c d)
  differing-ext (suc n) a b c d p q =
      go (K.same (a n) (b n)) (differing-ext n a b c d (λ i l. p i (le_step l)) (λ i l. q i (le_step l)))
    where
      here : a n ≡ c n
      here = p n (lt-suc_self n)

      there : b n ≡ d n
      there = q n (lt-suc_self n)

      go : Dec (a n ≡ b n) → differing n a b ≡ differing n c d → differing (suc n) a b ≡ differing (suc n) c d
      go (yes e) ih = differing-suc-same n a b e ∙ ih ∙ sym (differing-suc-same n c d (sym here ∙ e ∙ there))
      go (no e) ih = omega (arith, ih, differing-suc-other n a b e, differing-suc-other n c d (λ h. e (here ∙ h ∙ sym there)))
