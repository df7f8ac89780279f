-- Functions by order: a coefficient for each order below the number of places, that of order o at o; what stands at a missing order
-- counts for nothing. What the code holds and evaluates.
--
--   if_present b a        a where the order is present, 0 where it is missing; present-yes, present-no
--   monomial_at p o       the monomial of order o at place p, and 0 for a missing order
--   rank-places          n − g orders below n, the number of places, are present;
--   order_below          so the orders of n − g message symbols are below n
--   value_by f m          the sum of coefficient times monomial over the orders: an element (value_by-below)
--   value_of f p          so the value at place p of the function with coefficients f
--   coefficient_of m o    the coefficient of order o in the function of message m: symbol t at the t-th present order
--   coefficient-present, coefficient-missing   that of a present order, and of a missing one
--   function_of m         all of them
--   function-value       its value is that of the message's first n − g symbols (document 01's sum over message symbols)
--   function-codeword    so its values are their codeword
--   encode-length        a codeword has n places,
--   encode-at, encode-symbols   and an element at each
--   term-zero            a symbol that is zero adds nothing
--   encode-beyond        symbols that a message does not have add nothing: the codeword is the same for every k from its length on
--   encode-over          and of a list of n bytes that it is written over nothing is left
--   encode-zeros         a message of zeros encodes to zeros
use Rattle.std.specs.Prelude.{Bool, true, false, ◌≡◌, List, length, get_or, replicate}
use Rattle.std.proofs.Math.Path.{sym, ap, subst}
use Rattle.std.proofs.Common.{ap₂, ◌∙◌, arith, le-leb}
use Prim.Native.Nat.{ℕ, ◌-◌, ◌/◌, ◌%◌, ◌<◌, ◌≤◌}
use Rattle.std.proofs.lemmas.List.{length-replicate}
use Rattle.std.proofs.Math.ListN.{get_or-replicate, get_or-eq_default}
use Rattle.std.proofs.lemmas.Bool.{lt-leb}
use Rattle.lists.specs.Listed.{listed, listed-length, listed_at, listed-ext, listed_by}
use Rattle.lists.specs.Every.{T_true}
use Rattle.lists.specs.Over.{over, over-same}
use Rattle.lists.specs.Words.{all_below, all_below-from}
use Rattle.lists.specs.XorSum.{xor_sum, xor_sum-nil, xor_sum-more, xor_sum-below}
use Rattle.algebra.specs.Field.{zero-mul}
use Rattle.algebra.specs.Sum.{sum, sum-ext}
use Rattle.galois.specs.BinaryField.{GF, K, size, times, times_comm, times_zero, times-lt, to_f, to_f-times, to_f-zero, to_f-injective, to_f-xor_sum}
use Rattle.hermitian.specs.Present.{Present, dec_present, genus, genus-double}
use Rattle.hermitian.specs.Orders.{is_present, rank, rank-past, rank-large, order_of, order_of-below}
use Rattle.hermitian.specs.Value as Value
use Rattle.hermitian.specs.Message.{message_fn, message-present, message-absent, ranked-sum}
use Rattle.family.specs.Member.{Member, places, px, py}
use Rattle.family.specs.Points.{places-more}
use Rattle.family.specs.Encoding.{monomial, term, value_at, encode_of, to_f-monomial, to_f-value_at}

abbrev pub if_present : Bool → ℕ → ℕ
if_present true a = a
if_present false a = 0

module _ (𝓜 : Member) where
  open 𝓜 use {gf, w, wide}
  open K gf use {◌⊗◌}

  unfoldable pub monomial_at : ℕ → ℕ → ℕ
  monomial_at p o = if_present (is_present w o) (monomial 𝓜 o p)

  pub rank-places : rank w (places 𝓜) ≡ places 𝓜 - genus w
  rank-places = omega (arith, rank-large w wide (places 𝓜) (omega (arith, places-more 𝓜, genus-double w)))

  pub order_below : (t : ℕ) → t < places 𝓜 - genus w → order_of w t < places 𝓜
  order_below t h = omega (arith, (order_of-below w wide t (places 𝓜)).1 (omega (arith, rank-places)))

  unfoldable pub value_term : List ℕ → List ℕ → ℕ → ℕ
  value_term f m o = times gf (get_or f o 0) (get_or m o 0)

  unfoldable pub value_by : List ℕ → List ℕ → ℕ
  value_by f m = xor_sum (places 𝓜) (value_term f m)

  unfoldable pub value_of : List ℕ → ℕ → ℕ
  value_of f p = value_by f (listed (places 𝓜) (monomial_at p))

  unfoldable pub coefficient_of : List ℕ → ℕ → ℕ
  coefficient_of m o = if_present (is_present w o) (get_or m (rank w o) 0)

  unfoldable pub function_of : List ℕ → List ℕ
  function_of m = listed (places 𝓜) (coefficient_of m)

  pub present-yes : (o a : ℕ) → Present w o → if_present (is_present w o) a ≡ a
  unfolding is_present
  present-yes o a h = ap (λ b. if_present b a) (le-leb (o % w) (o / w) h)

  pub present-no : (o a : ℕ) → ¬ Present w o → if_present (is_present w o) a ≡ 0
  unfolding is_present
  present-no o a h = ap (λ b. if_present b a) (lt-leb (o % w) (o / w) (omega arith))

  pub coefficient-present : (m : List ℕ) (o : ℕ) → Present w o → coefficient_of m o ≡ get_or m (rank w o) 0
  unfolding coefficient_of
  coefficient-present m o h = present-yes o _ h

  pub coefficient-missing : (m : List ℕ) (o : ℕ) → ¬ Present w o → coefficient_of m o ≡ 0
  unfolding coefficient_of
  coefficient-missing m o h = present-no o _ h

  -- sums of products of the field are elements
  pub value_by-below : (f m : List ℕ) → value_by f m < size gf
  unfolding value_by value_term
  value_by-below f m = xor_sum-below gf.bits (places 𝓜) _ (λ o l. times-lt gf _ _)

  value-below : (k : ℕ) (m : List ℕ) (p : ℕ) → value_at 𝓜 k m p < size gf
  unfolding value_at term
  value-below k m p = xor_sum-below gf.bits k (term 𝓜 m p) (λ t l. times-lt gf (get_or m t 0) (monomial 𝓜 (order_of w t) p))

  -- in the field, the sum over orders is the sum over ranks
  in-ring : (m : List ℕ) (p o : ℕ) → o < places 𝓜
      → to_f gf (times gf (coefficient_of m o) (monomial_at p o))
      ≡ message_fn (K gf) w (places 𝓜 - genus w) (λ t. to_f gf (get_or m t 0)) o ⊗ Value.monomial (K gf) w (px 𝓜 p) (py 𝓜 p) o
  unfolding monomial_at
  in-ring m p o h = go (dec_present w o)
    where
      s : ℕ → GF gf
      s t = to_f gf (get_or m t 0)

      go : Dec (Present w o) → to_f gf (times gf (coefficient_of m o) (monomial_at p o))
          ≡ message_fn (K gf) w (places 𝓜 - genus w) s o ⊗ Value.monomial (K gf) w (px 𝓜 p) (py 𝓜 p) o
      go (yes e) =
          to_f-times gf _ _
          ∙ ap₂ (λ a b. a ⊗ b)
          (ap (to_f gf) (coefficient-present m o e) ∙ sym (message-present (K gf) w (places 𝓜 - genus w) s o e (omega (arith, rank-past w o (places 𝓜) e h, rank-places))))
          (ap (to_f gf) (present-yes o (monomial 𝓜 o p) e) ∙ to_f-monomial 𝓜 o p)
      go (no e) =
          ap (to_f gf) (ap (times gf (coefficient_of m o)) (present-no o (monomial 𝓜 o p) e) ∙ times_zero gf _)
          ∙ to_f-zero gf
          ∙ sym (ap (λ a. a ⊗ Value.monomial (K gf) w (px 𝓜 p) (py 𝓜 p) o) (message-absent (K gf) w (places 𝓜 - genus w) s o e) ∙ zero-mul (K gf) _)

  pub function-value : (m : List ℕ) (p : ℕ) → value_of (function_of m) p ≡ value_at 𝓜 (places 𝓜 - genus w) m p
  unfolding value_of value_by value_term function_of
  function-value m p =
      to_f-injective gf _ _ (value_by-below (function_of m) (listed (places 𝓜) (monomial_at p))) (value-below (places 𝓜 - genus w) m p)
      (to_f-xor_sum gf (places 𝓜) _
      ∙ sum-ext (K gf) (places 𝓜) _ _ (λ o l.
      ap (to_f gf) (ap₂ (times gf) (listed_at (places 𝓜) o (coefficient_of m) 0 l) (listed_at (places 𝓜) o (monomial_at p) 0 l)) ∙ in-ring m p o l)
      ∙ ranked-sum (K gf) w (places 𝓜 - genus w) _ wide _ (places 𝓜) (omega (arith, rank-places))
      ∙ ap (λ k. sum (K gf) k (λ t. to_f gf (get_or m t 0) ⊗ Value.monomial (K gf) w (px 𝓜 p) (py 𝓜 p) (order_of w t))) rank-places
      ∙ sym (to_f-value_at 𝓜 (places 𝓜 - genus w) m p))

  pub function-codeword : (m : List ℕ) → listed (places 𝓜) (value_of (function_of m)) ≡ encode_of 𝓜 (places 𝓜 - genus w) m
  unfolding encode_of
  function-codeword m = listed-ext (places 𝓜) _ _ (λ p _. function-value m p)

  pub encode-length : (k : ℕ) (m : List ℕ) → length (encode_of 𝓜 k m) ≡ places 𝓜
  unfolding encode_of
  encode-length k m = listed-length (places 𝓜) (value_at 𝓜 k m)

  pub encode-at : (k : ℕ) (m : List ℕ) (p : ℕ) → p < places 𝓜 → get_or (encode_of 𝓜 k m) p 0 < size gf
  unfolding encode_of
  encode-at k m p h = subst (λ s. s < size gf) (sym (listed_at (places 𝓜) p (value_at 𝓜 k m) 0 h)) (value-below k m p)

  pub encode-symbols : (k : ℕ) (m : List ℕ) → all_below (size gf) (encode_of 𝓜 k m) ≡ true
  encode-symbols k m =
      T_true (all_below (size gf) (encode_of 𝓜 k m)) (all_below-from (size gf) (encode_of 𝓜 k m) (λ p h. encode-at k m p (omega (arith, encode-length k m))))

  -- ---- a symbol that is zero adds nothing
  pub term-zero : (m : List ℕ) (p t : ℕ) → get_or m t 0 ≡ 0 → term 𝓜 m p t ≡ 0
  unfolding term
  term-zero m p t e = ap (λ x. times gf x (monomial 𝓜 (order_of w t) p)) e ∙ times_comm gf 0 _ ∙ times_zero gf _

  -- ---- a message that is shorter than the code takes
  term-beyond : (m : List ℕ) (p t : ℕ) → length m ≤ t → term 𝓜 m p t ≡ 0
  term-beyond m p t h = term-zero m p t (get_or-eq_default m 0 h)

  value-beyond : (k : ℕ) (m : List ℕ) (p : ℕ) → length m ≤ k → value_at 𝓜 k m p ≡ value_at 𝓜 (length m) m p
  unfolding value_at
  value-beyond k m p h = xor_sum-more (length m) k (term 𝓜 m p) h (λ t a b. term-beyond m p t a)

  pub encode-beyond : (k n : ℕ) (m : List ℕ) → length m ≤ k → length m ≤ n → encode_of 𝓜 k m ≡ encode_of 𝓜 n m
  unfolding encode_of
  encode-beyond k n m h l = listed-ext (places 𝓜) _ _ (λ p _. value-beyond k m p h ∙ sym (value-beyond n m p l))

  pub encode-over : (k n : ℕ) (m l : List ℕ) → length m ≤ k → length m ≤ n → length l ≡ places 𝓜 → over (encode_of 𝓜 k m) l ≡ encode_of 𝓜 n m
  encode-over k n m l h g e = over-same _ l (e ∙ sym (encode-length k m)) ∙ encode-beyond k n m h g

  -- ---- the zero word is a codeword
  value-zero : (k : ℕ) (m : List ℕ) (p : ℕ) → ((t : ℕ) → t < k → get_or m t 0 ≡ 0) → value_at 𝓜 k m p ≡ 0
  unfolding value_at
  value-zero k m p h = xor_sum-more 0 k (term 𝓜 m p) (omega arith) (λ t a b. term-zero m p t (h t b)) ∙ xor_sum-nil (term 𝓜 m p)

  pub encode-zeros : (k : ℕ) (m : List ℕ) → ((t : ℕ) → t < k → get_or m t 0 ≡ 0) → encode_of 𝓜 k m ≡ replicate (places 𝓜) 0
  unfolding encode_of
  encode-zeros k m h =
      sym
      (listed_by 0 (places 𝓜) (replicate (places 𝓜) 0) (value_at 𝓜 k m) (length-replicate (places 𝓜) 0)
      (λ p b. get_or-replicate (places 𝓜) p 0 0 b ∙ sym (value-zero k m p h)))
