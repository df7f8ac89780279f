-- Functions of few terms and their codewords: for examples, which the checker computes.
--
--   Term             a symbol, and the order of the monomial that it multiplies
--   coefficient_in ts o   the symbol that such terms have at the order o, or 0
--   message_of k ts   the message of k symbols of the function with these terms
--   terms_of k m      the terms of a message's function: those of its symbols that are not zero, rising
--   term_at t x y     the value of a term at a point; sum_at ts x y: what terms add up to there
--   value-terms      the value at a place of a message's function is what its terms add up to
--   holds ts symbol p   that sum at place p is the symbol that a rule gives, as a test
--   encode-terms     where it is at every place, the codeword has the symbols of the rule
use Rattle.std.specs.Prelude.{Bool, ◌≡◌, T, get_or}
use Rattle.std.proofs.Math.Bool.{true, false, cond}
use Rattle.std.proofs.Math.Path.{refl, sym, ap}
use Rattle.std.proofs.Common.{◌∙◌, eqb-true}
use mathlib.Core.List.{List, [], ◌∷◌, ◌++◌, append-nil}
use Prim.Native.Nat.{ℕ, zero, suc}
use Rattle.std.specs.Int.Bits.{bit_xor, xor_comm, xor_zero_r}
use Rattle.std.proofs.Math.Dec.{eqb, eqb→eq}
use Rattle.lists.specs.Every.{every, every-at}
use Rattle.lists.specs.Listed.{listed, listed-ext}
use Rattle.lists.specs.Xor.{xor_assoc}
use Rattle.lists.specs.XorSum.{xor_sum-nil, xor_sum-suc}
use Rattle.galois.specs.BinaryField.{times, power}
use Rattle.hermitian.specs.Orders.{x_power, y_power, order_of}
use Rattle.family.specs.Curve.{x_of, y_of}
use Rattle.family.specs.Member.{Member, places}
use Rattle.family.specs.Encoding.{monomial, term, value_at, encode_of}
use Rattle.family.specs.Evaluation.{term-zero}

abbrev pub Term : Type 0
Term = ℕ × ℕ

unfoldable pub coefficient_in : List Term → ℕ → ℕ
coefficient_in [] o = 0
coefficient_in (t ∷ ts) o = cond (eqb o t.1) t.0 (coefficient_in ts o)

module _ (𝓜 : Member) where
  open 𝓜 use {gf, w}

  unfoldable pub message_of : ℕ → List Term → List ℕ
  message_of k ts = listed k (λ t. coefficient_in ts (order_of w t))

  unfoldable pub terms_of : ℕ → List ℕ → List Term
  terms_of zero m = []
  terms_of (suc k) m = terms_of k m ++ cond (eqb (get_or m k 0) 0) [] ((get_or m k 0, order_of w k) ∷ [])

  abbrev pub term_at : Term → ℕ → ℕ → ℕ
  term_at t x y = times gf t.0 (times gf (power gf x (x_power w t.1)) (power gf y (y_power w t.1)))

  unfoldable pub sum_at : List Term → ℕ → ℕ → ℕ
  sum_at [] x y = 0
  sum_at (t ∷ ts) x y = bit_xor (term_at t x y) (sum_at ts x y)

  sum-snoc : (ts : List Term) (t : Term) (x y : ℕ) → sum_at (ts ++ (t ∷ [])) x y ≡ bit_xor (sum_at ts x y) (term_at t x y)
  unfolding sum_at
  sum-snoc [] t x y = xor_comm (term_at t x y) 0
  sum-snoc (s ∷ ts) t x y =
      ap (bit_xor (term_at s x y)) (sum-snoc ts t x y) ∙ sym (xor_assoc (term_at s x y) (sum_at ts x y) (term_at t x y))

  module _ (m : List ℕ) (p : ℕ) where
    abbrev sums : List Term → ℕ
    sums ts = sum_at ts (x_of w p) (y_of gf w p)

    pub value-terms : (k : ℕ) → value_at 𝓜 k m p ≡ sum_at (terms_of k m) (x_of w p) (y_of gf w p)
    unfolding value_at term monomial terms_of sum_at
    value-terms zero = xor_sum-nil (term 𝓜 m p)
    value-terms (suc k) = xor_sum-suc k (term 𝓜 m p) ∙ ap (λ v. bit_xor v (term 𝓜 m p k)) (value-terms k) ∙ step (eqb (get_or m k 0) 0) refl
      where
        step : (b : Bool) → eqb (get_or m k 0) 0 ≡ b
            → bit_xor (sums (terms_of k m)) (term 𝓜 m p k) ≡ sums (terms_of k m ++ cond b [] ((get_or m k 0, order_of w k) ∷ []))
        step true e =
            ap (bit_xor (sums (terms_of k m))) (term-zero 𝓜 m p k (eqb-true (get_or m k 0) 0 e)) ∙ xor_zero_r (sums (terms_of k m))
            ∙ sym (ap sums (append-nil (terms_of k m)))
        step false e = sym (sum-snoc (terms_of k m) (get_or m k 0, order_of w k) (x_of w p) (y_of gf w p))

  unfoldable pub holds : List Term → (ℕ → ℕ) → ℕ → Bool
  holds ts symbol p = eqb (sum_at ts (x_of w p) (y_of gf w p)) (symbol p)

  pub encode-terms : (k : ℕ) (m : List ℕ) (ts : List Term) (symbol : ℕ → ℕ) → terms_of k m ≡ ts → T (every (places 𝓜) (holds ts symbol))
      → encode_of 𝓜 k m ≡ listed (places 𝓜) symbol
  unfolding encode_of holds
  encode-terms k m ts symbol e t =
      listed-ext (places 𝓜) (value_at 𝓜 k m) symbol
      (λ p l.
      value-terms m p k ∙ ap (λ us. sum_at us (x_of w p) (y_of gf w p)) e
      ∙ eqb→eq (sum_at ts (x_of w p) (y_of gf w p)) (symbol p) (every-at (places 𝓜) (holds ts symbol) t p l))
