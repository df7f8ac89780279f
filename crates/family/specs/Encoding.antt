-- Encoding is evaluation, and reading back is its inverse (document 01, 'The field and the curve').
--
--   monomial o p     the value at place p of the monomial of order o: x^i y^j with w·i + (w + 1)·j = o and j below w
--   term m p t       what message symbol t adds at place p: it multiplies the t-th lowest present order
--   value_at k m p    the value at place p of the function of a message of k symbols
--   encode_of k m     the codeword: that function's value at each place
--   encodes_to k v m  m encodes to the word v, as a test
--   read_back_of k v   the first message of k symbols that encodes to v, or none
--   to_f-monomial     in the field, a monomial's value is the ring's
--   to_f-value_at      and a function's value the sum of its terms
use Rattle.std.specs.Prelude.{Bool, ◌≡◌, List, ℕ, get_or}
use Rattle.std.proofs.Math.Path.{ap, ap₂}
use Rattle.std.proofs.Common.{◌∙◌}
use Rattle.std.proofs.Math.Option.{Option}
use Rattle.lists.specs.Listed.{listed}
use Rattle.lists.specs.XorSum.{xor_sum}
use Rattle.lists.specs.Words.{words}
use Rattle.lists.specs.Answers.{first_that}
use Rattle.lists.specs.Same.{same}
use Rattle.algebra.specs.Sum.{sum, sum-ext}
use Rattle.galois.specs.BinaryField.{K, size, times, power, to_f, to_f-times, to_f-power, to_f-xor_sum}
use Rattle.hermitian.specs.Orders.{x_power, y_power, order_of}
use Rattle.hermitian.specs.Value as Value
use Rattle.family.specs.Curve.{x_of, y_of}
use Rattle.family.specs.Member.{Member, places, px, py}

module _ (𝓜 : Member) where
  open 𝓜 use {gf, w}
  open K gf use {◌⊗◌}

  unfoldable pub monomial : ℕ → ℕ → ℕ
  monomial o p = times gf (power gf (x_of w p) (x_power w o)) (power gf (y_of gf w p) (y_power w o))

  unfoldable pub term : List ℕ → ℕ → ℕ → ℕ
  term m p t = times gf (get_or m t 0) (monomial (order_of w t) p)

  unfoldable pub value_at : ℕ → List ℕ → ℕ → ℕ
  value_at k m p = xor_sum k (term m p)

  unfoldable pub encode_of : ℕ → List ℕ → List ℕ
  encode_of k m = listed (places 𝓜) (value_at k m)

  unfoldable pub encodes_to : ℕ → List ℕ → List ℕ → Bool
  encodes_to k v m = same (encode_of k m) v

  unfoldable pub read_back_of : ℕ → List ℕ → Option (List ℕ)
  read_back_of k v = first_that (encodes_to k v) (words (size gf) k)

  pub to_f-monomial : (o p : ℕ) → to_f gf (monomial o p) ≡ Value.monomial (K gf) w (px 𝓜 p) (py 𝓜 p) o
  unfolding monomial Value.monomial
  to_f-monomial o p = to_f-times gf _ _ ∙ ap₂ (λ x y. x ⊗ y) (to_f-power gf (x_of w p) _) (to_f-power gf (y_of gf w p) _)

  pub to_f-value_at : (k : ℕ) (m : List ℕ) (p : ℕ)
      → to_f gf (value_at k m p) ≡ sum (K gf) k (λ t. to_f gf (get_or m t 0) ⊗ Value.monomial (K gf) w (px 𝓜 p) (py 𝓜 p) (order_of w t))
  unfolding value_at term
  to_f-value_at k m p =
      to_f-xor_sum gf k _ ∙ sum-ext (K gf) k _ _ (λ t l. to_f-times gf _ _ ∙ ap (λ x. to_f gf (get_or m t 0) ⊗ x) (to_f-monomial (order_of w t) p))
