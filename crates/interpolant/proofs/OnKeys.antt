-- A Q on numbers is a Q on keys over GF(16), and its values are those of the theory.
--
--   coefficient-beyond, coefficient-below, coefficient-value, coefficient-zero, coefficient-ext   coefficients as numbers,
--   coefficients_of-ends, coefficients_of-zero, coefficients_of-one    and as elements
--   on_keys, on_numbers   a Q through ns is the theory's, there and back
--   word_of-length, word_of-below, coefficient-word_of, word_of-coefficients   it is a word of n, below 16, with these coefficients
--   candidate-yes, candidate-nonzero, candidate-of   the candidates for the least Q are the Qs through ns with a coefficient that is not 0
use Rattle.std.specs.Prelude.{Bool, true, false, not, ◌≡◌, refl, ◌≢◌, ℕ, ◌+◌, ◌*◌, ◌<◌, ◌≤◌, T, eqb, length}
use Rattle.std.proofs.Common.{sym, ap, ap₂, ◌∙◌, subst, ⊎_elim, mod-eq_of_lt, arith, eqb→eq, lit<, eq-eqb}
use Rattle.std.proofs.Math.Path.{fun_ext}
use mathlib.Core.List.Memᴰ
use mathlib.Core.List.{List, [], ◌∷◌, Memᴰ}
use Rattle.std.proofs.Math.Decide.{dec_lt}
use Rattle.std.proofs.lemmas.Bool.{eqb-false, not-true}
use Rattle.lists.specs.Every.{both, both_left, both_right, both-intro, every, every-at, every_true, every-false, true-T, T_true}
use Rattle.lists.specs.Falling.{falling, from_end, from_end-beyond, from_end-below, from_end-ext, falling-at, falling-beyond, falling-below, falling-length}
use Rattle.lists.specs.XorSum.{xor_sum-below}
use Rattle.lists.specs.Words.{all_below}
use Rattle.algebra.specs.Sum.{sum, sum-ext}
use Rattle.algebra.specs.Coefficients.{Below, choose, choose_yes, choose_no}
use Rattle.algebra.specs.Weighted.{weighted-total}
use Rattle.galois.specs.Field16.{GF, K16, to_f, value, to_f-add, to_f-times, to_f-zero, to_f-one, to_f-value, value-to_f, to_f-injective, value-lt, value-zero, times-lt, xor_below}
use Rattle.hermitian.specs.Value as Value
use Rattle.hermitian.specs.Keys.{IsKey, dec_key}
use Rattle.hermitian.specs.Interpolant.{Interpolant}
use Rattle.hermitian.specs.Interpolation as Interpolation
use Rattle.galois.specs.BinaryField.{to_f-xor_sum}
use Rattle.code.specs.Nodes.{px, py, sample_at, ThroughNodes}
use Rattle.family.specs.Encoding.{to_f-monomial}
use Rattle.family.specs.Nodes.{Node}
use Rattle.interpolant.specs.LeastQ.{coefficient, plain_of, z_of, function_at, value_at_node, is_through, term_or_zero, has_terms, zero_at, is_nonzero, is_candidate}
use Rattle.interpolant.specs.Meaning.{QThrough}
use Rattle.family.specs.Member.{m16}
use Rattle.galois.specs.Gf16.{gf16}
use Rattle.interpolant.specs.OnKeys.{word_of, coefficients_of}
open K16 use {◌⊕◌, ◌⊗◌, 𝟘, 𝟙}

pub word_of-length : (n : ℕ) (c : ℕ → GF) → length (word_of n c) ≡ n
unfolding word_of
word_of-length n c = falling-length n _

pub word_of-below : (n : ℕ) (c : ℕ → GF) → T (all_below 16 (word_of n c))
unfolding word_of
word_of-below n c = falling-below 16 n _ (λ k l. value-lt (c k))

pub coefficient-word_of : (n : ℕ) (c : ℕ → GF) → Below K16 c n → (k : ℕ) → coefficient (word_of n c) k ≡ value (c k)
unfolding word_of coefficient
coefficient-word_of n c b k = go (dec_lt k n)
  where
    go : Dec (k < n) → from_end (falling n (λ k. value (c k))) k ≡ value (c k)
    go (yes h) = falling-at n _ k h
    go (no h) = falling-beyond n _ k (omega arith) ∙ sym (ap value (b.zero_from k (omega arith)) ∙ value-zero)

pub coefficient-beyond : (q : List ℕ) (k : ℕ) → length q ≤ k → coefficient q k ≡ 0
unfolding coefficient
coefficient-beyond q k h = from_end-beyond q k h

pub coefficient-below : (q : List ℕ) → T (all_below 16 q) → (k : ℕ) → coefficient q k < 16
unfolding coefficient
coefficient-below q t k = from_end-below 16 q (lit< tt) t k

pub coefficients_of-zero : (q : List ℕ) (k : ℕ) → coefficient q k ≡ 0 → coefficients_of q k ≡ 𝟘
unfolding coefficients_of
coefficients_of-zero q k e = ap to_f e ∙ to_f-zero

pub coefficient-zero : (q : List ℕ) → T (all_below 16 q) → (k : ℕ) → coefficients_of q k ≡ 𝟘 → coefficient q k ≡ 0
unfolding coefficients_of
coefficient-zero q t k e = to_f-injective (coefficient q k) 0 (coefficient-below q t k) (lit< tt) (e ∙ sym to_f-zero)

pub coefficients_of-one : (q : List ℕ) (k : ℕ) → coefficient q k ≡ 1 → coefficients_of q k ≡ 𝟙
unfolding coefficients_of
coefficients_of-one q k e = ap to_f e ∙ to_f-one

-- the coefficient is the number of the element
pub coefficient-value : (q : List ℕ) → T (all_below 16 q) → (k : ℕ) → coefficient q k ≡ value (coefficients_of q k)
unfolding coefficients_of
coefficient-value q t k = sym (value-to_f (coefficient q k) ∙ mod-eq_of_lt (coefficient-below q t k))

-- two words of one length with the same coefficients are one
pub coefficient-ext : (q r : List ℕ) → length q ≡ length r → ((k : ℕ) → coefficient q k ≡ coefficient r k) → q ≡ r
unfolding coefficient
coefficient-ext q r e h = from_end-ext q r e (λ k l. h k)

pub coefficients_of-ends : (q : List ℕ) → Below K16 (coefficients_of q) (length q)
coefficients_of-ends q = record { zero_from = λ k h. coefficients_of-zero q k (coefficient-beyond q k h) }

pub word_of-coefficients : (n : ℕ) (c : ℕ → GF) → Below K16 c n → coefficients_of (word_of n c) ≡ c
unfolding coefficients_of
word_of-coefficients n c b = fun_ext (λ k. ap to_f (coefficient-word_of n c b k) ∙ to_f-value (c k))

-- ---- values
to_f-function_at : (f : ℕ → ℕ) (n p : ℕ) → to_f (function_at f n p) ≡ sum K16 n (λ o. to_f (f o) ⊗ Value.monomial K16 4 (px p) (py p) o)
unfolding function_at
to_f-function_at f n p =
    to_f-xor_sum gf16 n _ ∙ sum-ext K16 n _ _ (λ o l. to_f-times _ _ ∙ ap (λ x. to_f (f o) ⊗ x) (to_f-monomial m16 o p))

function_at-below : (f : ℕ → ℕ) (n p : ℕ) → function_at f n p < 16
unfolding function_at
function_at-below f n p = xor_sum-below 4 n _ (λ o l. times-lt _ _)

pub value_at_node-below : (M : ℕ) (q : List ℕ) (n : Node) → value_at_node M q n < 16
unfolding value_at_node
value_at_node-below M q n = xor_below _ _ (function_at-below _ _ _) (times-lt _ _)

value-on_keys : (M : ℕ) (q : List ℕ) (n : Node) → Interpolant K16 4 M (coefficients_of q)
    → Interpolation.Value K16 4 M (sample_at n) (coefficients_of q) (to_f (value_at_node M q n))
unfolding value_at_node coefficients_of
value-on_keys M q n i =
    record {
      interpolant = i;
      at0 = _;
      at1 = _;
      value0 = weighted-total K16 _ (length q) (record { zero_from = λ o l. (coefficients_of-ends q).zero_from (2 * o) (omega arith) });
      value1 = weighted-total K16 _ (length q) (record { zero_from = λ o l. (coefficients_of-ends q).zero_from (2 * (o + M) + 1) (omega arith) });
      total =
          sym (to_f-add _ _ ∙ ap₂ (λ x y. x ⊕ y) (to_f-function_at (plain_of M q) (length q) n.place)
          (to_f-times _ _ ∙ ap (λ x. to_f n.symbol ⊗ x) (to_f-function_at (z_of M q) (length q) n.place)));
    }

module _ {M : ℕ} {ns : List Node} {q : List ℕ} where
  pub on_keys : QThrough M ns q → ThroughNodes M ns (coefficients_of q)
  on_keys h =
      record {
        member = i;
        vanishes = λ n m. subst (Interpolation.Value K16 4 M (sample_at n) (coefficients_of q)) (ap to_f (h.vanishes n m) ∙ to_f-zero) (value-on_keys M q n i);
      }
    where
      i : Interpolant K16 4 M (coefficients_of q)
      i = record { bound = length q; ends = coefficients_of-ends q; absent = λ k a. coefficients_of-zero q k (h.terms k a) }

  pub on_numbers : T (all_below 16 q) → ThroughNodes M ns (coefficients_of q) → QThrough M ns q
  on_numbers t h =
      record {
        symbols = t;
        terms = λ k a. coefficient-zero q t k (h.member.absent k a);
        vanishes = λ n m.
            to_f-injective (value_at_node M q n) 0 (value_at_node-below M q n) (lit< tt)
            (Interpolation.value-unique K16 4 M (sample_at n) (value-on_keys M q n h.member) (h.vanishes n m) ∙ sym to_f-zero);
      }

-- ---- the tests
is_through-at : (M : ℕ) (ns : List Node) (q : List ℕ) → T (is_through M ns q) → (n : Node) → Memᴰ n ns → value_at_node M q n ≡ 0
unfolding is_through
is_through-at M [] q t n m = absurd (Memᴰ.not-nil m)
is_through-at M (r ∷ ns) q t n m =
    ⊎_elim (λ (e : n ≡ r). ap (value_at_node M q) e ∙ eqb→eq (value_at_node M q r) 0 (both_left (eqb (value_at_node M q r) 0) (is_through M ns q) t))
    (λ l. is_through-at M ns q (both_right (eqb (value_at_node M q r) 0) (is_through M ns q) t) n l) (Memᴰ.cases_cons m)

is_through-of : (M : ℕ) (ns : List Node) (q : List ℕ) → ((n : Node) → Memᴰ n ns → value_at_node M q n ≡ 0) → T (is_through M ns q)
unfolding is_through
is_through-of M [] q h = tt
is_through-of M (r ∷ ns) q h =
    both-intro (eqb (value_at_node M q r) 0) (is_through M ns q) (true-T _ (eq-eqb (value_at_node M q r) 0 (h r (Memᴰ.head refl))))
    (is_through-of M ns q (λ n m. h n (Memᴰ.tail m)))

has_terms-at : (M : ℕ) (q : List ℕ) → T (has_terms M q) → (k : ℕ) → ¬ IsKey 4 M k → coefficient q k ≡ 0
unfolding has_terms term_or_zero
has_terms-at M q t k n = go (dec_lt k (length q))
  where
    go : Dec (k < length q) → coefficient q k ≡ 0
    go (yes h) = eqb→eq (coefficient q k) 0 (subst T (choose_no (dec_key 4 M k) true (eqb (coefficient q k) 0) n) (every-at (length q) (term_or_zero M q) t k h))
    go (no h) = coefficient-beyond q k (omega arith)

has_terms-of : (M : ℕ) (q : List ℕ) → ((k : ℕ) → ¬ IsKey 4 M k → coefficient q k ≡ 0) → T (has_terms M q)
unfolding has_terms term_or_zero
has_terms-of M q h = true-T _ (every_true (length q) (term_or_zero M q) (λ k l. go k (dec_key 4 M k)))
  where
    go : (k : ℕ) (d : Dec (IsKey 4 M k)) → choose d true (eqb (coefficient q k) 0) ≡ true
    go k (yes i) = choose_yes (yes i) _ _ i
    go k (no i) = choose_no (no i) _ _ i ∙ eq-eqb (coefficient q k) 0 (h k i)

not-of : (b : Bool) → (b ≡ true → ⊥) → T (not b)
not-of true h = absurd (h refl)
not-of false h = tt

is_nonzero-at : (q : List ℕ) → T (is_nonzero q) → (k : ℕ) × (k < length q) × (coefficient q k ≢ 0)
unfolding is_nonzero zero_at
is_nonzero-at q t =
    let r = every-false (length q) (zero_at q) (not-true _ (T_true _ t)) in
    (r.0, r.1, eqb-false (coefficient q r.0) 0 r.2)

is_nonzero-of : (q : List ℕ) (k : ℕ) → coefficient q k ≢ 0 → T (is_nonzero q)
unfolding is_nonzero zero_at
is_nonzero-of q k n = not-of _ (λ e. n (go e (dec_lt k (length q))))
  where
    go : every (length q) (zero_at q) ≡ true → Dec (k < length q) → coefficient q k ≡ 0
    go e (yes h) = eqb→eq (coefficient q k) 0 (every-at (length q) (zero_at q) (true-T _ e) k h)
    go e (no h) = coefficient-beyond q k (omega arith)

module _ (M : ℕ) (ns : List Node) (q : List ℕ) where
  pub candidate-nonzero : T (is_candidate M ns q) → (k : ℕ) × (k < length q) × (coefficient q k ≢ 0)
  unfolding is_candidate
  candidate-nonzero t = is_nonzero-at q (both_left (is_nonzero q) (both (has_terms M q) (is_through M ns q)) t)

  pub candidate-yes : T (all_below 16 q) → T (is_candidate M ns q) → QThrough M ns q
  unfolding is_candidate
  candidate-yes b t =
      let r = both_right (is_nonzero q) (both (has_terms M q) (is_through M ns q)) t in
      record {
        symbols = b;
        terms = has_terms-at M q (both_left (has_terms M q) (is_through M ns q) r);
        vanishes = is_through-at M ns q (both_right (has_terms M q) (is_through M ns q) r);
      }

  pub candidate-of : QThrough M ns q → (k : ℕ) → coefficient q k ≢ 0 → T (is_candidate M ns q)
  unfolding is_candidate
  candidate-of h k n =
      both-intro (is_nonzero q) (both (has_terms M q) (is_through M ns q)) (is_nonzero-of q k n)
      (both-intro (has_terms M q) (is_through M ns q) (has_terms-of M q h.terms) (is_through-of M ns q h.vanishes))
