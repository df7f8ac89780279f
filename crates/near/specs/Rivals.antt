-- How many codewords can be near: with few doubtful places never three, and with fewer never two. For every member, where T is that of the rate and of the
-- blank places.
--
--   tests-apart       three test words differ, pair by pair, in no more than twice as many places together as are doubled: two of them agree
--                     at each doubled place, which has two symbols, and all of them at each other place
--   doubled columns doubtful   the doubtful places that are not blank; there are d of them
--   tests-two         so two test words differ in at most d places
--   no_third          where 2d < 3g + 3 no three different messages have their codewords near: two codewords differ in n − M − b places
--                     at least that are not blank, 2T of which can be wrong settled ones
--   FewDoubtful k columns doubtful T   d + 2T + b < n − M, where b places are blank
--   genus-few         so it is where d is at most g, at every rate and with every number of blank places within the limit
--   genus-odd         and where d is at most g + 1, if n − M − g − 1 − b is odd
--   no-second         then no two different messages have their codewords near
use Rattle.std.specs.Prelude.{Bool, true, false, not, ◌≡◌, refl, ◌≢◌, ◌⊎◌, ℕ, suc, ◌+◌, ◌-◌, ◌*◌, ◌%◌, ◌<◌, ◌≤◌, T, length}
use Rattle.std.proofs.Common.{true≢false, ap, ◌∙◌, inl, inr}
use Rattle.std.proofs.Math.Path.{sym}
use mathlib.Core.List.{List, Memᴰ}
use native.Mathlib.Omega.{arith}
use Rattle.std.proofs.Math.Dec.{leb→le}
use Rattle.std.proofs.Math.ListN.{get_or}
use Rattle.lists.specs.Count.{bit, bit_le, sum_of-mono, sum_of-plus, count}
use Rattle.lists.specs.Different.{count-among}
use Rattle.lists.specs.Distinct.{among, among-member}
use Rattle.lists.specs.Every.{T_true}
use Rattle.lists.specs.Words.{Word}
use Rattle.lists.specs.Answers.{Found}
use Rattle.hermitian.specs.Present.{genus}
use Rattle.soft.specs.TestWord.{test_words}
use Rattle.soft.specs.TestWordLaws.{test_words-length, test_words-kept, test_words-symbol}
use Rattle.soft.specs.Blank.{open_at, blanks_of, unblanked}
use Rattle.soft.specs.Total.{everywhere, differ_at, differing_in, differing}
use Rattle.soft.specs.TotalLaws.{agree-true, differing-comm, differing-self, differing-triangle, differing-fewer}
use Rattle.family.specs.Member.{Member, symbols, places}
use Rattle.family.specs.Encoding.{encode_of}
use Rattle.near.specs.Near.{m_of, blank_limit, reach_of, near_to, near}
use Rattle.near.specs.Reach.{Workable, Reach, reach-is, reach-only, reach_in}
use Rattle.near.specs.Distance.{open-apart}
use Rattle.near.specs.Laws.{near-member}

-- the places that are doubled
abbrev pub doubled : (ℕ → List ℕ) → List ℕ → List ℕ
doubled columns doubtful = unblanked (open_at columns) doubtful

module _ (n : ℕ) (columns : ℕ → List ℕ) (doubtful : List ℕ) {t u v : List ℕ} (a : Memᴰ t (test_words n columns doubtful))
    (b : Memᴰ u (test_words n columns doubtful)) (c : Memᴰ v (test_words n columns doubtful)) where
  abbrev twice : List ℕ
  twice = doubled columns doubtful

  -- words of n places that have one symbol at a place
  none : (x y : List ℕ) (p : ℕ) → p < n → length x ≡ n → length y ≡ n → get_or x p 0 ≡ get_or y p 0 → bit (differ_at x y p) ≡ 0
  none x y p h lx ly e = ap (λ s. bit (not s)) (agree-true x y p (omega arith) (omega arith) e)

  lt : length t ≡ n
  lt = test_words-length n columns doubtful t a

  lu : length u ≡ n
  lu = test_words-length n columns doubtful u b

  lv : length v ≡ n
  lv = test_words-length n columns doubtful v c

  apart : ℕ → ℕ
  apart p = bit (differ_at t u p) + bit (differ_at u v p) + bit (differ_at t v p)

  -- two of three that have one of two symbols have the same
  at_most : (p : ℕ) → p < n → apart p ≤ 2
  unfolding apart
  at_most p h = go (test_words-symbol n columns doubtful t a p h) (test_words-symbol n columns doubtful u b p h) (test_words-symbol n columns doubtful v c p h)
    where
      tu : get_or t p 0 ≡ get_or u p 0 → apart p ≤ 2
      tu e = omega (arith, none t u p h lt lu e, bit_le (differ_at u v p), bit_le (differ_at t v p))

      uv : get_or u p 0 ≡ get_or v p 0 → apart p ≤ 2
      uv e = omega (arith, none u v p h lu lv e, bit_le (differ_at t u p), bit_le (differ_at t v p))

      tv : get_or t p 0 ≡ get_or v p 0 → apart p ≤ 2
      tv e = omega (arith, none t v p h lt lv e, bit_le (differ_at t u p), bit_le (differ_at u v p))

      go : {x y : ℕ} → (get_or t p 0 ≡ x) ⊎ (get_or t p 0 ≡ y) → (get_or u p 0 ≡ x) ⊎ (get_or u p 0 ≡ y) → (get_or v p 0 ≡ x) ⊎ (get_or v p 0 ≡ y) → apart p ≤ 2
      go (inl d) (inl e) f = tu (d ∙ sym e)
      go (inr d) (inr e) f = tu (d ∙ sym e)
      go (inl d) (inr e) (inl f) = tv (d ∙ sym f)
      go (inl d) (inr e) (inr f) = uv (e ∙ sym f)
      go (inr d) (inl e) (inl f) = uv (e ∙ sym f)
      go (inr d) (inl e) (inr f) = tv (d ∙ sym f)

  settled : (p : ℕ) → p < n → (Memᴰ p twice → ⊥) → apart p ≡ 0
  unfolding apart
  settled p h out =
      let x = test_words-kept n columns doubtful t a p h out in
      let y = test_words-kept n columns doubtful u b p h out in
      let z = test_words-kept n columns doubtful v c p h out in
      omega (arith, none t u p h lt lu (x ∙ sym y), none u v p h lu lv (y ∙ sym z), none t v p h lt lv (x ∙ sym z))

  place : (p : ℕ) → p < n → apart p ≤ bit (among p twice) + bit (among p twice)
  place p h = go (among p twice) refl
    where
      go : (s : Bool) → among p twice ≡ s → apart p ≤ bit s + bit s
      go true e = at_most p h
      go false e = omega (arith, settled p h (λ m. true≢false (sym (among-member m) ∙ e)))

  pub tests-apart : differing n t u + differing n u v + differing n t v ≤ 2 * length twice
  unfolding differing_in count apart
  tests-apart =
      omega (
        arith,
        sum_of-mono n apart (λ p. bit (among p twice) + bit (among p twice)) place,
        sum_of-plus n (λ p. bit (differ_at t u p) + bit (differ_at u v p)) (λ p. bit (differ_at t v p)),
        sum_of-plus n (λ p. bit (differ_at t u p)) (λ p. bit (differ_at u v p)),
        sum_of-plus n (λ p. bit (among p twice)) (λ p. bit (among p twice)),
        count-among twice n (λ p. among p twice) (λ p h x. T_true (among p twice) x),
      )

pub tests-two : (n : ℕ) (columns : ℕ → List ℕ) (doubtful : List ℕ) {t u : List ℕ} → Memᴰ t (test_words n columns doubtful)
    → Memᴰ u (test_words n columns doubtful) → differing n t u ≤ length (doubled columns doubtful)
tests-two n columns doubtful {t} {u} a b =
    omega (
      arith,
      tests-apart n columns doubtful a b a,
      differing-comm everywhere n t u,
      differing-self n t (omega (arith, test_words-length n columns doubtful t a)),
    )

module _ (𝓜 : Member) where
  -- d + 2T + b < n − M
  abbrev pub FewDoubtful : ℕ → (ℕ → List ℕ) → List ℕ → ℕ → Type 0
  FewDoubtful k columns doubtful T = length (doubled columns doubtful) + 2 * T + blanks_of (places 𝓜) columns < places 𝓜 - m_of 𝓜 k

  module _ {k T : ℕ} (columns : ℕ → List ℕ) (reach : Reach 𝓜 k (blanks_of (places 𝓜) columns) T) (doubtful : List ℕ) where
    pub genus-few : length (doubled columns doubtful) ≤ genus 𝓜.w → FewDoubtful k columns doubtful T
    genus-few few = omega (arith, few, reach.fits)

    pub genus-odd : (blank_limit 𝓜 k - blanks_of (places 𝓜) columns) % 2 ≡ 1 → length (doubled columns doubtful) ≤ suc (genus 𝓜.w)
        → FewDoubtful k columns doubtful T
    unfolding reach_of blank_limit
    genus-odd odd few = omega (arith, few, odd, reach.fits, reach-only 𝓜 reach)

module _ (𝓜 : Member) {k : ℕ} (rate : Workable 𝓜 k) (columns : ℕ → List ℕ) (within : blanks_of (places 𝓜) columns ≤ blank_limit 𝓜 k) (doubtful : List ℕ) where
  abbrev pub tests : List (List ℕ)
  tests = test_words (places 𝓜) columns doubtful

  abbrev T₀ : ℕ
  T₀ = reach_in 𝓜 k columns

  abbrev pub IsNear : List ℕ → Type 0
  IsNear m = Found (symbols 𝓜) k (near 𝓜 (open_at columns) T₀ k tests) m

  -- the codewords of two different messages are no nearer to each other than their test words and twice T allow
  pair : (m o t s : List ℕ) → Word (symbols 𝓜) k m → Word (symbols 𝓜) k o → m ≢ o → T (near_to 𝓜 (open_at columns) T₀ k t m)
      → T (near_to 𝓜 (open_at columns) T₀ k s o) → places 𝓜 ≤ m_of 𝓜 k + blanks_of (places 𝓜) columns + 2 * T₀ + differing (places 𝓜) t s
  unfolding near_to
  pair m o t s u v other a b =
      omega (
        arith,
        open-apart 𝓜 columns rate u v other,
        leb→le (differing_in (open_at columns) (places 𝓜) (encode_of 𝓜 k m) t) T₀ a,
        leb→le (differing_in (open_at columns) (places 𝓜) (encode_of 𝓜 k o) s) T₀ b,
        differing-triangle (open_at columns) (places 𝓜) (encode_of 𝓜 k m) t (encode_of 𝓜 k o),
        differing-triangle (open_at columns) (places 𝓜) t s (encode_of 𝓜 k o),
        differing-comm (open_at columns) (places 𝓜) s (encode_of 𝓜 k o),
        differing-fewer (open_at columns) (places 𝓜) t s,
      )

  pub no_third : 2 * length (doubled columns doubtful) < 3 * genus 𝓜.w + 3
      → {m o q : List ℕ} → IsNear m → IsNear o → IsNear q → m ≢ o → o ≢ q → m ≢ q → ⊥
  no_third few {m} {o} {q} x y z mo oq mq =
      let a = near-member 𝓜 (open_at columns) T₀ k tests m x.passed in
      let b = near-member 𝓜 (open_at columns) T₀ k tests o y.passed in
      let c = near-member 𝓜 (open_at columns) T₀ k tests q z.passed in
      omega (
        arith,
        few,
        (reach-is 𝓜 rate within).fits,
        pair m o a.0 b.0 x.word y.word mo a.2 b.2,
        pair o q b.0 c.0 y.word z.word oq b.2 c.2,
        pair m q a.0 c.0 x.word z.word mq a.2 c.2,
        tests-apart (places 𝓜) columns doubtful a.1 b.1 c.1,
      )

  pub no-second : FewDoubtful 𝓜 k columns doubtful T₀ → {m o : List ℕ} → IsNear m → IsNear o → m ≢ o → ⊥
  no-second few {m} {o} x y mo =
      let a = near-member 𝓜 (open_at columns) T₀ k tests m x.passed in
      let b = near-member 𝓜 (open_at columns) T₀ k tests o y.passed in
      omega (
        arith,
        few,
        pair m o a.0 b.0 x.word y.word mo a.2 b.2,
        tests-two (places 𝓜) columns doubtful a.1 b.1,
      )
