-- How large the least Q can be: with more terms of key at most L than samples, its highest key is at most L.
--
--   terms w M n      how many keys below n are keys of terms
--   terms-rank       they are the present orders up to (n − 1)/2 without z, and up to n/2 − M − 1 with z
--   terms-weight     so those of weight up to s, whose keys are up to 2s + 1
--   size             more terms of key at most L than samples: some Q through them, not zero, has no key above L
--   least_size       so the least Q has none
use Rattle.std.specs.Prelude.{◌≡◌, List, ℕ, zero, suc, ◌+◌, ◌-◌, ◌*◌, ◌/◌, ◌%◌, ◌<◌, ◌≤◌, length}
use Rattle.std.proofs.Common.{ap, ap₂, ◌∙◌, le_trans, arith}
use Rattle.std.proofs.Math.Decide.{dec_le, ℕ_discrete}
use Rattle.lists.specs.Chosen.{count, count-nil, count-suc, one-more-yes, one-more-no, Chosen, chosen}
use Rattle.algebra.specs.Field.{Field}
use Rattle.algebra.specs.Coefficients.{Lead, unit, lead-unit}
use Rattle.algebra.specs.Dimension.{Rising, vanishing-exists}
use Rattle.algebra.specs.Least.{Least}
use Rattle.hermitian.specs.Present.{Present, dec_present}
use Rattle.hermitian.specs.Orders.{rank, rank-nil, rank-yes, rank-no}
use Rattle.hermitian.specs.Keys.{IsKey, dec_key, key-even, even-key, key-odd, odd-key}
use Rattle.hermitian.specs.Interpolant.{Interpolant, interpolant-unit, interpolant-space}
use Rattle.hermitian.specs.Interpolation.{Sample, Through, evaluation}

unfoldable pub terms : ℕ → ℕ → ℕ → ℕ
terms w M n = count (dec_key w M) n

module _ (w M : ℕ) where
  terms-yes : (n : ℕ) → IsKey w M n → terms w M (suc n) ≡ suc (terms w M n)
  unfolding terms
  terms-yes n h = count-suc (dec_key w M) n ∙ one-more-yes (dec_key w M n) _ h

  terms-no : (n : ℕ) → ¬ IsKey w M n → terms w M (suc n) ≡ terms w M n
  unfolding terms
  terms-no n h = count-suc (dec_key w M) n ∙ one-more-no (dec_key w M n) _ h

  terms-nil : terms w M 0 ≡ 0
  unfolding terms
  terms-nil = count-nil (dec_key w M)

  pub terms-rank : (n : ℕ) → terms w M n ≡ rank w (suc n / 2) + rank w (n / 2 - M)
  terms-rank zero =
      let e : 0 / 2 - M ≡ 0 = omega arith in
      omega (arith, terms-nil, rank-nil w, ap (rank w) e)
  terms-rank (suc n) = go (terms-rank n) (ℕ_discrete (n % 2) 0)
    where
      -- an even key counts where half of it is present,
      even : n % 2 ≡ 0 → Dec (Present w (n / 2)) → terms w M (suc n) + rank w (n / 2) ≡ rank w (suc (n / 2)) + terms w M n
      even z (yes p) = omega (arith, terms-yes n (even-key z p), rank-yes w (n / 2) p)
      even z (no p) = omega (arith, terms-no n (λ k. p (key-even z k)), rank-no w (n / 2) p)

      -- an odd key where half of it, less M, is
      odd : ¬ (n % 2 ≡ 0) → Dec (M ≤ n / 2) → Dec (Present w (n / 2 - M))
          → terms w M (suc n) + rank w (n / 2 - M) ≡ rank w (suc (n / 2) - M) + terms w M n
      odd z (yes l) (yes p) =
          let e : suc (n / 2) - M ≡ suc (n / 2 - M) = omega arith in
          omega (arith, terms-yes n (odd-key z l p), rank-yes w (n / 2 - M) p, ap (rank w) e)
      odd z (yes l) (no p) =
          let e : suc (n / 2) - M ≡ suc (n / 2 - M) = omega arith in
          omega (arith, terms-no n (λ k. p (key-odd z k).1), rank-no w (n / 2 - M) p, ap (rank w) e)
      odd z (no l) p =
          let e : suc (n / 2) - M ≡ n / 2 - M = omega arith in
          omega (arith, terms-no n (λ k. l (key-odd z k).0), ap (rank w) e)

      go : terms w M n ≡ rank w (suc n / 2) + rank w (n / 2 - M) → Dec (n % 2 ≡ 0)
          → terms w M (suc n) ≡ rank w (suc (suc n) / 2) + rank w (suc n / 2 - M)
      go ih (yes z) =
          let a : suc n / 2 ≡ n / 2 = omega arith in
          let b : suc (suc n) / 2 ≡ suc (n / 2) = omega arith in
          omega (arith, even z (dec_present w (n / 2)), ap (rank w) a, ap (rank w) b, ap (λ x. rank w (x - M)) a)
      go ih (no z) =
          let a : suc n / 2 ≡ suc (n / 2) = omega arith in
          let b : suc (suc n) / 2 ≡ suc n / 2 = omega arith in
          omega (arith, odd z (dec_le M (n / 2)) (dec_present w (n / 2 - M)), ap (rank w) b, ap (λ x. rank w (x - M)) a)

  -- the terms of weight up to s: all keys up to 2s + 1
  pub terms-weight : (s : ℕ) → terms w M (suc (2 * s + 1)) ≡ rank w (suc s) + rank w (suc s - M)
  terms-weight s =
      let a : suc (suc (2 * s + 1)) / 2 ≡ suc s = omega arith in
      let b : suc (2 * s + 1) / 2 - M ≡ suc s - M = omega arith in
      terms-rank (suc (2 * s + 1)) ∙ ap₂ (λ x y. rank w x + rank w y) a b

module _ {F : Type 0} (K : Field F) (w : ℕ) (two : 2 ≤ w) (M : ℕ) {P : Type 0} (sample : P → Sample K w) where
  -- the terms, as elements of different leads
  term-elements : (L n : ℕ) → n < terms w M (suc L) → (e : ℕ → ℕ → F) × (m : ℕ → ℕ) × Rising K L (Interpolant K w M) n e m
  unfolding terms
  term-elements L n h =
      let t : Chosen (dec_key w M) (suc L) = chosen (dec_key w M) (suc L) in (
        (λ i. unit K (t.at i)),
        t.at,
        record {
          member = λ i l. interpolant-unit K w M (t.accepted i (omega arith));
          leads = λ i l. lead-unit K (t.at i);
          within = λ i l. omega (arith, t.below i (omega arith));
          rising = λ i j g l. t.rising i j g (omega arith);
        },
      )

  pub size : (L : ℕ) (ps : List P) → length ps < terms w M (suc L)
      → (c : ℕ → F) × (l : ℕ) × Through K w M sample ps c × Lead K c l × (l ≤ L)
  size L ps h =
      let t = term-elements L (length ps) h in
      vanishing-exists K L (interpolant-space K w M two) (λ p. evaluation K w M two (sample p)) ps t.2

  pub least_size : {ps : List P} {c : ℕ → F} {l : ℕ} (L : ℕ) → Least K (Through K w M sample ps) c l → length ps < terms w M (suc L) → l ≤ L
  least_size {ps} L q h =
      let t = size L ps h in
      le_trans (q.least t.0 t.1 t.2 t.3) t.4
