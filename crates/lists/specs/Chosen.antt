-- Counting the numbers below n that a decision accepts, and listing them.
--
--   count dec n        how many i < n the decision accepts
--   Chosen dec n       those i, rising: at 0 < at 1 < … < at (count − 1), all of them accepted, and none left out
--   chosen             they can be listed so
--   dec_not             the opposite decision
--   count-opposite     accepted and not accepted ones together are n
use Rattle.std.specs.Prelude.{◌≡◌, ◌⊎◌, ℕ, zero, suc, ◌+◌, ◌<◌, ◌≤◌}
use Rattle.std.proofs.Math.Path.{refl}
use Rattle.std.proofs.Common.{sym, ◌∙◌, subst, inl, inr, ⊎_elim, le_refl, eq-or-lt_of_le, le_of_suc-le-suc, arith}
use Rattle.std.proofs.Math.Decide.{dec_lt}

-- one side or the other
pub lt-or-le : (a b : ℕ) → (a < b) ⊎ (b ≤ a)
lt-or-le a b = go (dec_lt a b)
  where
    go : Dec (a < b) → (a < b) ⊎ (b ≤ a)
    go (yes h) = inl h
    go (no h) = inr (omega arith)

-- one more where the decision accepts
unfoldable pub one_more : {P : Type 0} → Dec P → ℕ → ℕ
one_more (yes p) n = suc n
one_more (no p) n = n

abbrev pub dec_not : {P : Type 0} → Dec P → Dec (¬ P)
dec_not (yes p) = no (λ n. n p)
dec_not (no n) = yes n

pub one-more-yes : {P : Type 0} (d : Dec P) (n : ℕ) → P → one_more d n ≡ suc n
unfolding one_more
one-more-yes (yes p) n h = refl
one-more-yes (no p) n h = absurd (p h)

pub one-more-no : {P : Type 0} (d : Dec P) (n : ℕ) → ¬ P → one_more d n ≡ n
unfolding one_more
one-more-no (yes p) n h = absurd (h p)
one-more-no (no p) n h = refl

pick : {P : Type 0} → Dec P → ℕ → ℕ → ℕ
pick (yes p) a b = a
pick (no p) a b = b

pick_yes : {P : Type 0} (d : Dec P) (a b : ℕ) → P → pick d a b ≡ a
unfolding pick
pick_yes (yes p) a b h = refl
pick_yes (no p) a b h = absurd (p h)

pick_no : {P : Type 0} (d : Dec P) (a b : ℕ) → ¬ P → pick d a b ≡ b
unfolding pick
pick_no (yes p) a b h = absurd (h p)
pick_no (no p) a b h = refl

module _ {P : ℕ → Type 0} (dec : (i : ℕ) → Dec (P i)) where
  unfoldable pub count : ℕ → ℕ
  count zero = 0
  count (suc n) = one_more (dec n) (count n)

  pub count-nil : count 0 ≡ 0
  unfolding count
  count-nil = refl

  pub count-suc : (n : ℕ) → count (suc n) ≡ one_more (dec n) (count n)
  unfolding count
  count-suc n = refl

  pub record Chosen (n : ℕ) : Type 0 where
    pub at : ℕ → ℕ
    pub below : (i : ℕ) → i < count n → at i < n
    pub accepted : (i : ℕ) → i < count n → P (at i)
    pub rising : (i j : ℕ) → i < j → j < count n → at i < at j
    pub all : (k : ℕ) → k < n → P k → (i : ℕ) × (i < count n) × (at i ≡ k)

  pub chosen : (n : ℕ) → Chosen n
  chosen zero =
      record {
        at = λ i. i;
        below = λ i l. absurd (omega (arith, count-nil));
        accepted = λ i l. absurd (omega (arith, count-nil));
        rising = λ i j h l. absurd (omega (arith, count-nil));
        all = λ k l p. absurd (omega arith);
      }
  chosen (suc n) = go (dec n) (chosen n)
    where
      -- the ones below n, and n itself last
      longer : P n → Chosen n → Chosen (suc n)
      longer p c = record { at = at'; below = below'; accepted = accepted'; rising = rising'; all = all' }
        where
          e : count (suc n) ≡ suc (count n)
          e = count-suc n ∙ one-more-yes (dec n) (count n) p

          at' : ℕ → ℕ
          at' i = pick (dec_lt i (count n)) (c.at i) n

          low : (i : ℕ) → i < count n → at' i ≡ c.at i
          low i l = pick_yes (dec_lt i (count n)) (c.at i) n l

          last : (i : ℕ) → count n ≤ i → at' i ≡ n
          last i l = pick_no (dec_lt i (count n)) (c.at i) n (omega arith)

          below' : (i : ℕ) → i < count (suc n) → at' i < suc n
          below' i l = ⊎_elim (λ h. omega (arith, low i h, c.below i h)) (λ h. omega (arith, last i h)) (lt-or-le i (count n))

          accepted' : (i : ℕ) → i < count (suc n) → P (at' i)
          accepted' i l =
              ⊎_elim (λ h. subst P (sym (low i h)) (c.accepted i h)) (λ h. subst P (sym (last i h)) p) (lt-or-le i (count n))

          rising' : (i j : ℕ) → i < j → j < count (suc n) → at' i < at' j
          rising' i j h l =
              let a : i < count n = omega (arith, e) in
              ⊎_elim (λ (b : j < count n). omega (arith, low i a, low j b, c.rising i j h b))
              (λ (b : count n ≤ j). omega (arith, low i a, last j b, c.below i a))
              (lt-or-le j (count n))

          all' : (k : ℕ) → k < suc n → P k → (i : ℕ) × (i < count (suc n)) × (at' i ≡ k)
          all' k l q =
              ⊎_elim (λ (b : k ≡ n). (count n, omega (arith, e), last (count n) (le_refl (count n)) ∙ sym b))
              (λ (b : k < n). let t : (i : ℕ) × (i < count n) × (c.at i ≡ k) = c.all k b q in (t.0, omega (arith, e, t.1), low t.0 t.1 ∙ t.2))
              (eq-or-lt_of_le (le_of_suc-le-suc l))

      go : Dec (P n) → Chosen n → Chosen (suc n)
      go (yes p) c = longer p c
      go (no p) c =
          let e : count (suc n) ≡ count n = count-suc n ∙ one-more-no (dec n) (count n) p in
          record {
            at = c.at;
            below = λ i l. omega (arith, c.below i (omega arith));
            accepted = λ i l. c.accepted i (omega arith);
            rising = λ i j h l. c.rising i j h (omega arith);
            all = λ k l q.
                ⊎_elim (λ (b : k ≡ n). absurd (p (subst P b q)))
                (λ (b : k < n). let t : (i : ℕ) × (i < count n) × (c.at i ≡ k) = c.all k b q in (t.0, omega (arith, t.1), t.2))
                (eq-or-lt_of_le (le_of_suc-le-suc l));
          }

pub count-opposite : {P : ℕ → Type 0} (dec : (i : ℕ) → Dec (P i)) (n : ℕ) → count dec n + count (λ i. dec_not (dec i)) n ≡ n
count-opposite {P} dec zero = omega (arith, count-nil dec, count-nil (λ i. dec_not (dec i)))
count-opposite {P} dec (suc n) = go (dec n) (count-opposite dec n)
  where
    neg : (i : ℕ) → Dec (¬ P i)
    neg i = dec_not (dec i)

    go : Dec (P n) → count dec n + count (λ i. dec_not (dec i)) n ≡ n → count dec (suc n) + count (λ i. dec_not (dec i)) (suc n) ≡ suc n
    go (yes p) ih =
        omega (
          arith,
          count-suc dec n,
          count-suc (λ i. dec_not (dec i)) n,
          one-more-yes (dec n) (count dec n) p,
          one-more-no (dec_not (dec n)) (count (λ i. dec_not (dec i)) n) (λ h. h p),
        )
    go (no p) ih =
        omega (
          arith,
          count-suc dec n,
          count-suc (λ i. dec_not (dec i)) n,
          one-more-no (dec n) (count dec n) p,
          one-more-yes (dec_not (dec n)) (count (λ i. dec_not (dec i)) n) p,
        )
