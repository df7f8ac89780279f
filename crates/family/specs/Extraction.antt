-- Reading a message off a codeword: each symbol is a sum of the word's values times a dual of its monomial.
--
--   fibre_sum v b x     the sum over the places with this x of the word's symbol times y^b
--   moment v a b       the sum over all places of the word's symbol times x^a y^b
--   symbol_of v i j     the coefficient of x^i y^j in the function whose values are v, read off four moments
--   extracted_at v o    the coefficient of order o
--   message_at v t      message symbol t so read, and extract_of k v the first k of them
--   powers_at a b p, dual_at i j p    x^a y^b and the dual of x^i y^j at a place; dual-powers: their products sum to 1 where both agree, and to 0
--   to_f-symbol_of       a coefficient so read is the sum of the values times its dual
--   extract-word       they are symbols: a word of k elements
--   extract-take       the first k of a longer message so read
--   extract-encode     what was encoded is read again (k up to n − g, where no power of x is above q − 1)
use Rattle.std.specs.Prelude.{◌≡◌, ◌≢◌, List, take}
use Rattle.std.proofs.Math.Path.{sym, ap, ap₂, subst}
use Rattle.std.proofs.Common.{◌∙◌, arith}
use Prim.Native.Nat.{ℕ, zero, suc, ◌+◌, ◌-◌, ◌*◌, ◌%◌, ◌<◌, ◌≤◌}
use Rattle.std.proofs.Math.Decide.{ℕ_discrete}
use Rattle.std.specs.Int.Bits.{bit_xor}
use Rattle.std.proofs.Math.ListN.{get_or}
use Rattle.lists.specs.Listed.{listed, listed-length, listed_at, listed-ext, listed-get_d, take-listed}
use Rattle.lists.specs.Words.{Word, all_below-at, all_below-from}
use Rattle.lists.specs.XorSum.{xor_sum, xor_sum-below}
use Rattle.algebra.specs.Field.{mul-zero, zero-mul, one-mul, mul-one, mul_assoc, mul_comm, mul-swap}
use Rattle.algebra.specs.Sum.{sum, sum-ext, sum-scale, sum-scale-right, sum-swap, sum-single, sum-blocks}
use Rattle.algebra.specs.Power.{pow, pow-nil}
use Rattle.algebra.specs.Coefficients.{unit, unit-at, unit-off}
use Rattle.algebra.specs.Dual.{dual, dual-sum, dual-split}
use Rattle.galois.specs.BinaryField.{GF, K, size, times, power, to_f, to_f-add, to_f-times, to_f-zero, to_f-injective, to_f-power, to_f-xor_sum, times-lt, xor_below, one-lt}
use Rattle.hermitian.specs.Present.{genus}
use Rattle.hermitian.specs.Orders.{order, x_power, y_power, order-of, order_of, order_of-present, order_of-injective}
use Rattle.hermitian.specs.Value as Value
use Rattle.family.specs.Curve.{fibre, x_of, y_of}
use Rattle.family.specs.Member.{Member, places, px, py}
use Rattle.family.specs.Points.{x_below, rest_below, place_of}
use Rattle.family.specs.Encoding.{value_at, encode_of, to_f-value_at}
use Rattle.family.specs.Evaluation.{order_below}

-- a where i is 0, and 0 where it is not
abbrev pub at_zero : ℕ → ℕ → ℕ
at_zero zero a = a
at_zero (suc i) a = 0

module _ (𝓜 : Member) where
  open 𝓜 use {gf, w, wide, x_sums, y_sums}
  open K gf use {◌⊕◌, ◌⊗◌, 𝟘, 𝟙}

  unfoldable pub fibre_term : List ℕ → ℕ → ℕ → ℕ → ℕ
  fibre_term v b x r = times gf (get_or v (x * w + r) 0) (power gf (y_of gf w (x * w + r)) b)

  unfoldable pub fibre_sum : List ℕ → ℕ → ℕ → ℕ
  fibre_sum v b x = xor_sum w (fibre_term v b x)

  unfoldable pub moment_term : List ℕ → ℕ → ℕ → ℕ → ℕ
  moment_term v a b x = times gf (fibre_sum v b x) (power gf x a)

  unfoldable pub moment : List ℕ → ℕ → ℕ → ℕ
  moment v a b = xor_sum (size gf) (moment_term v a b)

  -- x^i y^j against its dual (x^(q − 1 − i) + [i = 0]) (y^(w − 1 − j) + [j = 0]), multiplied out
  unfoldable pub symbol_of : List ℕ → ℕ → ℕ → ℕ
  symbol_of v i j =
      bit_xor (moment v (size gf - 1 - i) (w - 1 - j))
      (bit_xor (at_zero i (moment v 0 (w - 1 - j))) (at_zero j (bit_xor (moment v (size gf - 1 - i) 0) (at_zero i (moment v 0 0)))))

  unfoldable pub extracted_at : List ℕ → ℕ → ℕ
  extracted_at v o = symbol_of v (x_power w o) (y_power w o)

  unfoldable pub message_at : List ℕ → ℕ → ℕ
  message_at v t = extracted_at v (order_of w t)

  unfoldable pub extract_of : ℕ → List ℕ → List ℕ
  extract_of k v = listed k (message_at v)

  -- ---- a monomial times the dual of another, summed over all places
  -- the dual of x^i y^j at a place
  unfoldable pub dual_at : ℕ → ℕ → ℕ → GF gf
  dual_at i j p = dual (K gf) (size gf - 1) i (px 𝓜 p) ⊗ dual (K gf) (w - 1) j (py 𝓜 p)

  -- x^a y^b at a place
  unfoldable pub powers_at : ℕ → ℕ → ℕ → GF gf
  powers_at a b p = pow (K gf) (px 𝓜 p) a ⊗ pow (K gf) (py 𝓜 p) b

  pub dual-powers : (a b i j : ℕ) → a ≤ size gf - 1 → b ≤ w - 1 → i ≤ size gf - 1 → j ≤ w - 1
      → sum (K gf) (places 𝓜) (λ p. powers_at a b p ⊗ dual_at i j p) ≡ unit (K gf) i a ⊗ unit (K gf) j b
  unfolding dual_at powers_at y_of
  dual-powers a b i j ha hb hi hj =
      sum-blocks (K gf) (size gf) w _
      ∙ sum-ext (K gf) (size gf) _ _ (λ x l.
      sum-ext (K gf) w _ _ (λ r h. place x r l h)
      ∙ sum-scale (K gf) w (pow (K gf) (to_f gf x) a ⊗ dual (K gf) (size gf - 1) i (to_f gf x)) _
      ∙ ap (λ z. (pow (K gf) (to_f gf x) a ⊗ dual (K gf) (size gf - 1) i (to_f gf x)) ⊗ z) (dual-sum (K gf) w (λ r. to_f gf (get_or (fibre gf w x) r 0)) (w - 1) (y_sums x l) b j hb hj))
      ∙ sum-scale-right (K gf) (size gf) (unit (K gf) j b) _
      ∙ ap (λ z. z ⊗ unit (K gf) j b) (dual-sum (K gf) (size gf) (to_f gf) (size gf - 1) x_sums a i ha hi)
    where
      place : (x r : ℕ) → x < size gf → r < w
          → (pow (K gf) (px 𝓜 (x * w + r)) a ⊗ pow (K gf) (py 𝓜 (x * w + r)) b) ⊗ (dual (K gf) (size gf - 1) i (px 𝓜 (x * w + r)) ⊗ dual (K gf) (w - 1) j (py 𝓜 (x * w + r)))
          ≡ (pow (K gf) (to_f gf x) a ⊗ dual (K gf) (size gf - 1) i (to_f gf x)) ⊗ (pow (K gf) (to_f gf (get_or (fibre gf w x) r 0)) b ⊗ dual (K gf) (w - 1) j (to_f gf (get_or (fibre gf w x) r 0)))
      place x r l h =
          let e : x_of w (x * w + r) ≡ x = (place_of 𝓜 x r h).0 in
          let f : get_or (fibre gf w x) r 0 ≡ get_or (fibre gf w (x_of w (x * w + r))) ((x * w + r) % w) 0 =
          ap₂ (λ u s. get_or (fibre gf w u) s 0) (sym e) (sym (place_of 𝓜 x r h).1) in
          ap₂ (λ u v. (pow (K gf) (to_f gf u) a ⊗ pow (K gf) (to_f gf v) b) ⊗ (dual (K gf) (size gf - 1) i (to_f gf u) ⊗ dual (K gf) (w - 1) j (to_f gf v))) e (sym f)
          ∙ mul-swap (K gf) _ _ _ _

  -- ---- the four sums of a symbol are the values times its dual
  to_f-moment : (v : List ℕ) (a b : ℕ) → to_f gf (moment v a b) ≡ sum (K gf) (places 𝓜) (λ p. to_f gf (get_or v p 0) ⊗ powers_at a b p)
  unfolding moment moment_term fibre_sum fibre_term powers_at
  to_f-moment v a b =
      to_f-xor_sum gf (size gf) _
      ∙ sum-ext (K gf) (size gf) _ _ (λ x l.
      to_f-times gf _ _
      ∙ ap₂ (λ s t. s ⊗ t) (to_f-xor_sum gf w _) (to_f-power gf x a)
      ∙ sym (sum-scale-right (K gf) w (pow (K gf) (to_f gf x) a) _)
      ∙ sum-ext (K gf) w _ _ (λ r h. place x r h))
      ∙ sym (sum-blocks (K gf) (size gf) w _)
    where
      place : (x r : ℕ) → r < w
          → to_f gf (times gf (get_or v (x * w + r) 0) (power gf (y_of gf w (x * w + r)) b)) ⊗ pow (K gf) (to_f gf x) a
          ≡ to_f gf (get_or v (x * w + r) 0) ⊗ (pow (K gf) (px 𝓜 (x * w + r)) a ⊗ pow (K gf) (py 𝓜 (x * w + r)) b)
      place x r h =
          let e : x_of w (x * w + r) ≡ x = (place_of 𝓜 x r h).0 in
          ap (λ s. s ⊗ pow (K gf) (to_f gf x) a) (to_f-times gf _ _ ∙ ap (λ s. to_f gf (get_or v (x * w + r) 0) ⊗ s) (to_f-power gf (y_of gf w (x * w + r)) b))
          ∙ mul_assoc (K gf) _ _ _
          ∙ ap (λ s. to_f gf (get_or v (x * w + r) 0) ⊗ s) (mul_comm (K gf) _ _)
          ∙ ap (λ u. to_f gf (get_or v (x * w + r) 0) ⊗ (pow (K gf) (to_f gf u) a ⊗ pow (K gf) (py 𝓜 (x * w + r)) b)) (sym e)

  to_f-at_zero : (i n : ℕ) → to_f gf (at_zero i n) ≡ unit (K gf) 0 i ⊗ to_f gf n
  to_f-at_zero zero n = sym (ap (λ x. x ⊗ to_f gf n) (unit-at (K gf) 0) ∙ one-mul (K gf) (to_f gf n))
  to_f-at_zero (suc i) n = to_f-zero gf ∙ sym (ap (λ x. x ⊗ to_f gf n) (unit-off (K gf) 0 (suc i) (λ (e : suc i ≡ 0). omega arith)) ∙ zero-mul (K gf) (to_f gf n))

  pub to_f-symbol_of : (v : List ℕ) (i j : ℕ) → to_f gf (symbol_of v i j) ≡ sum (K gf) (places 𝓜) (λ p. to_f gf (get_or v p 0) ⊗ dual_at i j p)
  unfolding symbol_of dual_at powers_at dual
  to_f-symbol_of v i j =
      to_f-add gf _ _
      ∙ ap₂ (λ x y. x ⊕ y) (to_f-moment v (size gf - 1 - i) (w - 1 - j))
      (to_f-add gf _ _
      ∙ ap₂ (λ x y. x ⊕ y) (to_f-at_zero i _ ∙ ap (λ x. unit (K gf) 0 i ⊗ x) (to_f-moment v 0 (w - 1 - j) ∙ left))
      (to_f-at_zero j _ ∙ ap (λ x. unit (K gf) 0 j ⊗ x)
      (to_f-add gf _ _
      ∙ ap₂ (λ x y. x ⊕ y) (to_f-moment v (size gf - 1 - i) 0 ∙ right)
      (to_f-at_zero i _ ∙ ap (λ x. unit (K gf) 0 i ⊗ x) (to_f-moment v 0 0 ∙ neither)))))
      ∙ dual-split (K gf) (places 𝓜) (λ p. to_f gf (get_or v p 0)) (λ p. pow (K gf) (px 𝓜 p) (size gf - 1 - i)) (λ p. pow (K gf) (py 𝓜 p) (w - 1 - j)) (unit (K gf) 0 i) (unit (K gf) 0 j)
    where
      s : ℕ → GF gf
      s p = to_f gf (get_or v p 0)

      left : sum (K gf) (places 𝓜) (λ p. s p ⊗ (pow (K gf) (px 𝓜 p) 0 ⊗ pow (K gf) (py 𝓜 p) (w - 1 - j))) ≡ sum (K gf) (places 𝓜) (λ p. s p ⊗ pow (K gf) (py 𝓜 p) (w - 1 - j))
      left = sum-ext (K gf) (places 𝓜) _ _ (λ p l. ap (λ x. s p ⊗ x) (ap (λ x. x ⊗ pow (K gf) (py 𝓜 p) (w - 1 - j)) (pow-nil (K gf) (px 𝓜 p)) ∙ one-mul (K gf) _))

      right : sum (K gf) (places 𝓜) (λ p. s p ⊗ (pow (K gf) (px 𝓜 p) (size gf - 1 - i) ⊗ pow (K gf) (py 𝓜 p) 0)) ≡ sum (K gf) (places 𝓜) (λ p. s p ⊗ pow (K gf) (px 𝓜 p) (size gf - 1 - i))
      right = sum-ext (K gf) (places 𝓜) _ _ (λ p l. ap (λ x. s p ⊗ x) (ap (λ x. pow (K gf) (px 𝓜 p) (size gf - 1 - i) ⊗ x) (pow-nil (K gf) (py 𝓜 p)) ∙ mul-one (K gf) _))

      neither : sum (K gf) (places 𝓜) (λ p. s p ⊗ (pow (K gf) (px 𝓜 p) 0 ⊗ pow (K gf) (py 𝓜 p) 0)) ≡ sum (K gf) (places 𝓜) (λ p. s p)
      neither = sum-ext (K gf) (places 𝓜) _ _ (λ p l. ap (λ x. s p ⊗ x) (ap₂ (λ x y. x ⊗ y) (pow-nil (K gf) (px 𝓜 p)) (pow-nil (K gf) (py 𝓜 p)) ∙ one-mul (K gf) _) ∙ mul-one (K gf) _)

  -- ---- so the symbols of a codeword are those of its message
  -- below order n no power of x is above q − 1
  small : (t : ℕ) → t < places 𝓜 - genus w → x_power w (order_of w t) ≤ size gf - 1
  small t h = omega (arith, x_below 𝓜 (order_of w t) (order_below 𝓜 t h))

  rest_up : (o : ℕ) → y_power w o ≤ w - 1
  rest_up o = omega (arith, rest_below 𝓜 o)

  -- the sum over places picks one symbol of the message
  picks : (k : ℕ) (m : List ℕ) → k ≤ places 𝓜 - genus w → (s : ℕ) → s < k
      → sum (K gf) (places 𝓜) (λ p. to_f gf (value_at 𝓜 k m p) ⊗ dual_at (x_power w (order_of w s)) (y_power w (order_of w s)) p) ≡ to_f gf (get_or m s 0)
  unfolding Value.monomial powers_at
  picks k m most s within =
      sum-ext (K gf) (places 𝓜) _ _ (λ p l. ap (λ x. x ⊗ dual_at i j p) (to_f-value_at 𝓜 k m p) ∙ sym (sum-scale-right (K gf) k (dual_at i j p) _))
      ∙ sum-swap (K gf) (places 𝓜) k _
      ∙ sum-ext (K gf) k _ _ (λ t l. sum-ext (K gf) (places 𝓜) _ _ (λ p h. mul_assoc (K gf) _ _ _) ∙ sum-scale (K gf) (places 𝓜) (to_f gf (get_or m t 0)) _
      ∙ ap (λ x. to_f gf (get_or m t 0) ⊗ x) (dual-powers (a t) (b t) i j (small t (omega arith)) (rest_up (order_of w t)) (small s (omega arith)) (rest_up (order_of w s))))
      ∙ sum-single (K gf) k s _ within (λ t l n. ap (λ x. to_f gf (get_or m t 0) ⊗ x) (other t n) ∙ mul-zero (K gf) _)
      ∙ ap (λ x. to_f gf (get_or m s 0) ⊗ x) (ap₂ (λ x y. x ⊗ y) (unit-at (K gf) i) (unit-at (K gf) j) ∙ mul-one (K gf) 𝟙)
      ∙ mul-one (K gf) _
    where
      a : ℕ → ℕ
      a t = x_power w (order_of w t)

      b : ℕ → ℕ
      b t = y_power w (order_of w t)

      i : ℕ
      i = a s

      j : ℕ
      j = b s

      other : (t : ℕ) → t ≢ s → unit (K gf) i (a t) ⊗ unit (K gf) j (b t) ≡ 𝟘
      other t n = go (ℕ_discrete (a t) i) (ℕ_discrete (b t) j)
        where
          go : Dec (a t ≡ i) → Dec (b t ≡ j) → unit (K gf) i (a t) ⊗ unit (K gf) j (b t) ≡ 𝟘
          go (no h) d = ap (λ x. x ⊗ unit (K gf) j (b t)) (unit-off (K gf) i (a t) h) ∙ zero-mul (K gf) _
          go (yes h) (no g) = ap (λ x. unit (K gf) i (a t) ⊗ x) (unit-off (K gf) j (b t) g) ∙ mul-zero (K gf) _
          go (yes h) (yes g) =
              absurd (n (order_of-injective w wide t s
              (sym (order-of w (order_of w t) (order_of-present w wide t)) ∙ ap₂ (order w) h g ∙ order-of w (order_of w s) (order_of-present w wide s))))

  to_f-symbol_at : (k : ℕ) (m : List ℕ) → k ≤ places 𝓜 - genus w → (s : ℕ) → s < k → to_f gf (extracted_at (encode_of 𝓜 k m) (order_of w s)) ≡ to_f gf (get_or m s 0)
  unfolding extracted_at encode_of
  to_f-symbol_at k m most s within =
      to_f-symbol_of (listed (places 𝓜) (value_at 𝓜 k m)) _ _
      ∙ sum-ext (K gf) (places 𝓜) _ _ (λ p l. ap (λ x. to_f gf x ⊗ dual_at (x_power w (order_of w s)) (y_power w (order_of w s)) p) (listed_at (places 𝓜) p (value_at 𝓜 k m) 0 l))
      ∙ picks k m most s within

  moment-lt : (v : List ℕ) (a b : ℕ) → moment v a b < size gf
  unfolding moment moment_term
  moment-lt v a b = xor_sum-below gf.bits (size gf) _ (λ x l. times-lt gf _ _)

  at_zero-lt : (i n : ℕ) → n < size gf → at_zero i n < size gf
  at_zero-lt zero n h = h
  at_zero-lt (suc i) n h = omega (arith, one-lt gf)

  pub extracted_at-lt : (v : List ℕ) (o : ℕ) → extracted_at v o < size gf
  unfolding extracted_at symbol_of
  extracted_at-lt v o =
      xor_below gf _ _ (moment-lt v _ _)
      (xor_below gf _ _ (at_zero-lt (x_power w o) _ (moment-lt v _ _))
      (at_zero-lt (y_power w o) _ (xor_below gf _ _ (moment-lt v _ _) (at_zero-lt (x_power w o) _ (moment-lt v _ _)))))

  pub extract-word : (k : ℕ) (v : List ℕ) → Word (size gf) k (extract_of k v)
  unfolding extract_of message_at
  extract-word k v =
      record {
        size = listed-length k _;
        symbols = all_below-from (size gf) _ (λ t h. subst (λ x. x < size gf) (sym (listed_at k t _ 0 (omega (arith, listed-length k (message_at v))))) (extracted_at-lt v (order_of w t)));
      }

  pub extract-take : (k n : ℕ) (v : List ℕ) → k ≤ n → take k (extract_of n v) ≡ extract_of k v
  unfolding extract_of
  extract-take k n v h = take-listed 0 k n (message_at v) h

  pub extract-encode : (k : ℕ) (m : List ℕ) → k ≤ places 𝓜 - genus w → Word (size gf) k m → extract_of k (encode_of 𝓜 k m) ≡ m
  unfolding extract_of message_at
  extract-encode k m most u =
      listed-ext k _ (λ t. get_or m t 0) (λ t h. to_f-injective gf _ _ (extracted_at-lt _ _) (all_below-at (size gf) m u.symbols t (omega (arith, u.size))) (to_f-symbol_at k m most t h))
      ∙ ap (λ n. listed n (λ t. get_or m t 0)) (sym u.size)
      ∙ listed-get_d m 0
