-- least_q is document 01's least Q: it exists, it has the smallest highest term with coefficient 1, and it is the only one.
--
--   least_first         the theory's least Q through ns, as a word, is the first candidate in lexicographic order
--   least-there, least-bound, least-ends   there always is one, and no key of it is above 128
--   least_q-some         there is a least Q, and it is document 01's
--   least_q-is, least_q-only   what least_q gives is the least Q, and nothing else is
--   is_least_q-unique     two least Qs have the same coefficients, whatever their lengths
--   is_least_q-least, least-is_least_q   it is the theory's least element, there and back
--   least_q-any-order    it depends on the set of settled places alone
--   everywhere-least    x^16 + x, which vanishes at every place, is the least Q where no Q through ns has a smaller highest key
use Rattle.std.specs.Prelude.{◌≡◌, ◌≢◌, ◌⊎◌, ℕ, suc, ◌<◌, ◌≤◌, length}
use Rattle.std.proofs.Math.Path.{refl}
use Rattle.std.proofs.Common.{sym, ap, ◌∙◌, subst, subst₂, inl, inr, ⊎_elim, eq-or-lt_of_le, arith, lit≤}
use mathlib.Core.List.{List, Memᴰ}
use Rattle.std.proofs.Math.Option.{some, some-injective}
use Rattle.std.proofs.Math.Decide.{ℕ_discrete}
use Rattle.lists.specs.Falling.{falling, from_end, falling-from_end, falling-lex}
use Rattle.lists.specs.Words.{Lex}
use Rattle.lists.specs.Answers.{best, Beats, earlier, NoWorse, free, Found, first_that-words, answers-unique}
use Rattle.algebra.specs.Coefficients.{Below, Lead, below-mono, zero-or-lead}
use Rattle.algebra.specs.Least.{Least, least-unique, least-same}
use Rattle.algebra.specs.Subspace.{common-fewer}
use Rattle.galois.specs.Field16.{GF, K16, value, value-zero, value-one}
use Rattle.hermitian.specs.Keys.{Term, key, IsKey, is_key, dec_key, key-injective, key-before, before-key}
use Rattle.hermitian.specs.Interpolant.{interpolant-lead}
use Rattle.hermitian.specs.Interpolation.{through-space}
use Rattle.hermitian.specs.Frobenius.{frobenius, frobenius-bound, frobenius-least, least-Q-frobenius}
use Rattle.code.specs.Nodes.{px, sample_at, ThroughNodes}
use Rattle.family.specs.Nodes.{Node}
use Rattle.galois.specs.Gf16.{gf16}
use Rattle.galois.specs.BinaryField.{power_size}
use Rattle.interpolant.specs.LeastQ.{coefficient, is_candidate, keys, least_q}
use Rattle.interpolant.specs.Meaning.{QThrough, Highest, IsLeastQ}
use Rattle.interpolant.specs.OnKeys.{coefficients_of, word_of}
use Rattle.interpolant.proofs.OnKeys.{on_keys, on_numbers, word_of-length, word_of-below, coefficient-word_of, word_of-coefficients, coefficients_of-ends, coefficient-zero, coefficients_of-zero, coefficients_of-one, coefficient-value, coefficient-ext, candidate-yes, candidate-nonzero, candidate-of}
open K16 use {𝟘}

module _ (M : ℕ) (ns : List Node) where
  -- x^16 + x has key 128
  pub least-bound : {c : ℕ → GF} {l : ℕ} → Least K16 (ThroughNodes M ns) c l → l ≤ 128
  least-bound h = frobenius-bound K16 4 (lit≤ tt) M 16 sample_at (λ n. power_size gf16 (lit≤ tt) (px n.place)) (lit≤ tt) h

  pub least-there : (c : ℕ → GF) × (l : ℕ) × Least K16 (ThroughNodes M ns) c l × (l ≤ 128)
  least-there = least-Q-frobenius K16 4 (lit≤ tt) M 16 sample_at (λ n. power_size gf16 (lit≤ tt) (px n.place)) (lit≤ tt) ns

  pub everywhere-least : ((d : ℕ → GF) (m : ℕ) → ThroughNodes M ns d → Lead K16 d m → 128 ≤ m) → Least K16 (ThroughNodes M ns) (frobenius K16 4 16) 128
  everywhere-least h = frobenius-least K16 4 (lit≤ tt) M 16 sample_at (λ n. power_size gf16 (lit≤ tt) (px n.place)) (lit≤ tt) ns h

  module _ {c : ℕ → GF} {l : ℕ} (h : Least K16 (ThroughNodes M ns) c l) where
    pub least-ends : Below K16 c keys
    least-ends = below-mono K16 (omega (arith, least-bound h)) h.leads.above

    -- its coefficients as numbers
    at : (k : ℕ) → coefficient (word_of keys c) k ≡ value (c k)
    at k = coefficient-word_of keys c least-ends k

    one-there : value (c l) ≡ 1
    one-there = ap value h.monic ∙ value-one

    zero-above : (k : ℕ) → l < k → value (c k) ≡ 0
    zero-above k g = ap value (h.leads.above.zero_from k g) ∙ value-zero

    found-through : QThrough M ns (word_of keys c)
    found-through = on_numbers (word_of-below keys c) (subst (ThroughNodes M ns) (sym (word_of-coefficients keys c least-ends)) h.member)

    found : Found 16 keys (is_candidate M ns) (word_of keys c)
    found =
        record {
          word = record { size = word_of-length keys c; symbols = word_of-below keys c };
          passed = candidate-of M ns (word_of keys c) found-through l (λ e. omega (arith, e, at l, one-there));
        }

    module _ {r : List ℕ} (f : Found 16 keys (is_candidate M ns) r) where
      other : QThrough M ns r
      other = candidate-yes M ns r f.word.symbols f.passed

      -- a smaller number at the highest difference
      earlier-there : (m : ℕ) → m < keys → value (c m) < coefficient r m → ((j : ℕ) → m < j → j < keys → value (c j) ≡ coefficient r j)
          → Beats free (word_of keys c) r
      unfolding word_of coefficient
      earlier-there m b lt e =
          earlier refl
          (subst (Lex (falling keys (λ k. value (c k)))) (ap (λ n. falling n (from_end r)) (sym f.word.size) ∙ falling-from_end r)
          (falling-lex keys (λ k. value (c k)) (from_end r) m b lt e))

      -- the other has a lead, as it is not zero
      leading : (m : ℕ) × (m < keys) × Lead K16 (coefficients_of r) m
      leading = go (zero-or-lead K16 (length r) (coefficients_of-ends r))
        where
          go : ((k : ℕ) → coefficients_of r k ≡ 𝟘) ⊎ ((m : ℕ) × (m < length r) × Lead K16 (coefficients_of r) m)
              → (m : ℕ) × (m < keys) × Lead K16 (coefficients_of r) m
          go (inl z) =
              let t = candidate-nonzero M ns r f.passed in
              absurd (t.2 (coefficient-zero r f.word.symbols t.0 (z t.0)))
          go (inr t) = (t.0, omega (arith, t.1, f.word.size), t.2)

      module _ {m : ℕ} (b : m < keys) (leads : Lead K16 (coefficients_of r) m) where
        nonzero : coefficient r m ≢ 0
        nonzero e = leads.ne (coefficients_of-zero r m e)

        other-above : (k : ℕ) → m < k → coefficient r k ≡ 0
        other-above k g = coefficient-zero r f.word.symbols k (leads.above.zero_from k g)

        higher-lead : l < m → Beats free (word_of keys c) r
        higher-lead g =
            earlier-there m b (omega (arith, zero-above m g, nonzero))
            (λ j a e. zero-above j (omega arith) ∙ sym (other-above j a))

        higher-coefficient : l ≡ m → coefficient r m ≢ 1 → Beats free (word_of keys c) r
        higher-coefficient e n =
            earlier-there m b (omega (arith, ap (λ k. value (c k)) e, one-there, n, nonzero))
            (λ j a d. zero-above j (omega arith) ∙ sym (other-above j a))

        same_word : l ≡ m → coefficient r m ≡ 1 → r ≡ word_of keys c
        same_word e o =
            let u : coefficients_of r ≡ c = (least-unique K16 (through-space K16 4 M (lit≤ tt) sample_at ns) other-least h).1 in
            coefficient-ext r (word_of keys c) (f.word.size ∙ sym (word_of-length keys c))
            (λ k. coefficient-value r f.word.symbols k ∙ ap (λ d. value (d k)) u ∙ sym (at k))
          where
            other-least : Least K16 (ThroughNodes M ns) (coefficients_of r) m
            other-least =
                record {
                  member = on_keys other;
                  leads = leads;
                  monic = coefficients_of-one r m o;
                  least = λ d k w g. subst (λ x. x ≤ k) e (h.least d k w g);
                }

        no-worse : Dec (l ≡ m) → Dec (coefficient r m ≡ 1) → NoWorse free (word_of keys c) r
        no-worse (yes e) (yes o) = inl (same_word e o)
        no-worse (yes e) (no o) = inr (higher-coefficient e o)
        no-worse (no e) d = inr (higher-lead (omega (arith, h.least (coefficients_of r) m (on_keys other) leads)))

      beaten : NoWorse free (word_of keys c) r
      beaten = no-worse leading.1 leading.2 (ℕ_discrete l leading.0) (ℕ_discrete (coefficient r leading.0) 1)

    pub least_first : least_q M ns ≡ some (word_of keys c)
    unfolding least_q
    least_first = answers-unique (first_that-words 16 keys (is_candidate M ns)) (best found (λ r f. beaten f))

-- ---- document 01's words
module _ {M : ℕ} {ns : List Node} where
  -- the highest term is the lead
  highest-lead : {q : List ℕ} {t : Term} → QThrough M ns q → Highest M q t → Lead K16 (coefficients_of q) (key M t)
  highest-lead {q} {t} h g =
      record {
        ne = λ e. g.there (coefficient-zero q h.symbols (key M t) e);
        above = record { zero_from = λ k l. coefficients_of-zero q k (go k l (dec_key 4 M k)) };
      }
    where
      go : (k : ℕ) → key M t < k → Dec (IsKey 4 M k) → coefficient q k ≡ 0
      go k l (yes (is_key u p e)) = ap (coefficient q) e ∙ g.none_higher u (key-before M t u (omega (arith, e)))
      go k l (no n) = h.terms k n

  lead-highest : {q : List ℕ} {t : Term} → QThrough M ns q → Lead K16 (coefficients_of q) (key M t) → Highest M q t
  lead-highest {q} {t} h g =
      record {
        there = λ e. g.ne (coefficients_of-zero q (key M t) e);
        none_higher = λ u b. coefficient-zero q h.symbols (key M u) (g.above.zero_from (key M u) (before-key M t u b));
      }

  -- every element of the theory is a Q on numbers
  numbers : {d : ℕ → GF} {m : ℕ} → ThroughNodes M ns d → Lead K16 d m → QThrough M ns (word_of (suc m) d) × Lead K16 (coefficients_of (word_of (suc m) d)) m
  numbers {d} {m} w g =
      let e = word_of-coefficients (suc m) d g.above in
      (on_numbers (word_of-below (suc m) d) (subst (ThroughNodes M ns) (sym e) w), subst (λ c. Lead K16 c m) (sym e) g)

  pub is_least_q-least : {q : List ℕ} {t : Term} → IsLeastQ M ns q t → Least K16 (ThroughNodes M ns) (coefficients_of q) (key M t)
  is_least_q-least {q} {t} h =
      record {
        member = on_keys h.through;
        leads = highest-lead h.through h.highest;
        monic = coefficients_of-one q (key M t) h.one;
        least = λ d m w g. go d m w g (interpolant-lead K16 4 M w.member g);
      }
    where
      go : (d : ℕ → GF) (m : ℕ) → ThroughNodes M ns d → Lead K16 d m → IsKey 4 M m → key M t ≤ m
      go d m w g (is_key u p e) =
          let n = numbers w g in
          ⊎_elim (λ s. omega (arith, e, ap (key M) s)) (λ b. omega (arith, e, before-key M t u b))
          (h.smallest (word_of (suc m) d) u n.0 (lead-highest n.0 (subst (Lead K16 (coefficients_of (word_of (suc m) d))) e n.1)))

  pub least-is_least_q : {q : List ℕ} {t : Term} → QThrough M ns q → Least K16 (ThroughNodes M ns) (coefficients_of q) (key M t) → IsLeastQ M ns q t
  least-is_least_q {q} {t} w h =
      record {
        through = w;
        highest = lead-highest w h.leads;
        one = coefficient-value q w.symbols (key M t) ∙ ap value h.monic ∙ value-one;
        smallest = λ r u v g.
            ⊎_elim (λ e. inl (key-injective M t u e)) (λ l. inr (key-before M t u l))
            (eq-or-lt_of_le (h.least (coefficients_of r) (key M u) (on_keys v) (highest-lead v g)));
      }

  pub is_least_q-unique : {q r : List ℕ} {t u : Term} → IsLeastQ M ns q t → IsLeastQ M ns r u → (t ≡ u) × ((k : ℕ) → coefficient q k ≡ coefficient r k)
  is_least_q-unique {q} {r} {t} {u} a b =
      let e = least-unique K16 (through-space K16 4 M (lit≤ tt) sample_at ns) (is_least_q-least a) (is_least_q-least b) in (
        key-injective M t u e.0,
        λ k. coefficient-value q a.through.symbols k ∙ ap (λ d. value (d k)) e.1 ∙ sym (coefficient-value r b.through.symbols k),
      )

  pub least_q-only : {q : List ℕ} {t : Term} → IsLeastQ M ns q t → length q ≡ keys → least_q M ns ≡ some q
  least_q-only {q} {t} a e =
      let h = is_least_q-least a in
      least_first M ns h
      ∙ ap some (coefficient-ext (word_of keys (coefficients_of q)) q (word_of-length keys (coefficients_of q) ∙ sym e)
      (λ k. at M ns h k ∙ sym (coefficient-value q a.through.symbols k)))

-- the least Q of the theory, as document 01's
least-term : (M : ℕ) (ns : List Node) {c : ℕ → GF} {l : ℕ} → Least K16 (ThroughNodes M ns) c l → IsKey 4 M l
    → (t : Term) × IsLeastQ M ns (word_of keys c) t
least-term M ns {c} {l} h (is_key t p e) = (
  t,
  least-is_least_q (found-through M ns h) (subst₂ (Least K16 (ThroughNodes M ns)) (sym (word_of-coefficients keys c (least-ends M ns h))) e h),
)

pub least_q-some : (M : ℕ) (ns : List Node) → (q : List ℕ) × (t : Term) × (least_q M ns ≡ some q) × (length q ≡ keys) × IsLeastQ M ns q t
least_q-some M ns =
    let s = least-there M ns in
    let h = s.2 in
    let t = least-term M ns h (interpolant-lead K16 4 M h.member.member h.leads) in
    (word_of keys s.0, t.0, least_first M ns h, word_of-length keys s.0, t.1)

pub least_q-is : (M : ℕ) (ns : List Node) {q : List ℕ} → least_q M ns ≡ some q → (t : Term) × (length q ≡ keys) × IsLeastQ M ns q t
least_q-is M ns {q} e =
    let r = least_q-some M ns in
    let s : r.0 ≡ q = some-injective r.0 q (sym r.2 ∙ e) in
    (r.1, subst (λ l. length l ≡ keys) s r.3, subst (λ l. IsLeastQ M ns l r.1) s r.4)

-- ---- 'The reading does not depend on the order in which places arrived': the least Q is the only one, so it knows the set of settled places alone
pub least_q-any-order : (M : ℕ) (ns ms : List Node) → ((n : Node) → Memᴰ n ns → Memᴰ n ms)
    → ((n : Node) → Memᴰ n ms → Memᴰ n ns) → least_q M ns ≡ least_q M ms
least_q-any-order M ns ms there back =
    let h = (least-there M ns).2 in
    least_first M ns h ∙ sym (least_first M ms (least-same K16 (common-fewer K16 back) (common-fewer K16 there) h))
