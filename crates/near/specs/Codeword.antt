-- A message as a function on the curve: what nearness of words says in the theory, for every member and any places that count.
--
--   codeword-symbol     a codeword has a symbol at each place
--   symbols_of word       a word as elements of the field, by place
--   message_function k m       the function of a message
--   message_function-fn, message_function-order, encode-val   it is a function of order at most M, and the codeword holds its values
--   message_function-at         its coefficient at the t-th present order is symbol t
--   message_from k f      the message read off a function's coefficients; messageFrom-word: k symbols
--   message_from-function  it is the message again
--   place_at n i          the i-th of the first n places that counts; counted-points: their points
--   differing-le         words differ, as elements, in no more of the places that count than as numbers
--   near-function        a near codeword's function is near in the theory's sense
--   near-one             at most one message has its codeword within T of a word, where so many wrong places can be repaired
use Rattle.std.specs.Prelude.{Bool, true, false, not, ◌&&◌, ◌≡◌, T, ltb, length}
use Rattle.std.proofs.Math.Bool.{cond}
use Rattle.std.proofs.Math.Path.{refl, ap, subst}
use Rattle.std.proofs.Common.{sym, ap₂, ◌∙◌, arith, eqb-true}
use mathlib.Core.List.{List, [], ◌∷◌, ◌++◌, Memᴰ}
use Prim.Native.Nat.{ℕ, zero, suc, ◌+◌, ◌<◌, ◌≤◌}
use Rattle.std.proofs.Math.Nat.{mod-eq_of_lt}
use Rattle.std.proofs.Math.Dec.{leb→le, eqb}
use Rattle.std.proofs.Math.ListN.{get_or, get_or-append}
use Rattle.std.proofs.Math.Seq.{get_or_at}
use Rattle.lists.specs.Count.{bit, count, count-nil, count-suc, kept, kept-suc, kept-length, kept-passes, kept-rising}
use Rattle.lists.specs.Distinct.{and_right}
use Rattle.lists.specs.Listed.{listed, listed-length, listed_at, listed-ext, listed-get_d}
use Rattle.lists.specs.Member.{member-at}
use Rattle.lists.specs.Words.{Word, all_below-at, all_below-from}
use Rattle.lists.specs.Answers.{Found}
use Rattle.algebra.specs.Coefficients.{Below}
use Rattle.algebra.specs.Weighted.{weighted-is}
use Rattle.algebra.specs.Distance as Distance
use Rattle.galois.specs.BinaryField.{GF, K, size, to_f, value, value-lt, value-to_f}
use Rattle.hermitian.specs.Ring.{Fn}
use Rattle.hermitian.specs.Value.{Val}
use Rattle.hermitian.specs.Points.{Points, points-some}
use Rattle.hermitian.specs.Decoding.{Near}
use Rattle.hermitian.proofs.Decoding.{near-unique}
use Rattle.hermitian.specs.Orders.{order_of}
use Rattle.hermitian.specs.Message.{message_fn, message-at, message-fn, message-order, message-val}
use Rattle.soft.specs.Total.{symbol_at, agree, differ_at, differing_in}
use Rattle.family.specs.Member.{Member, symbols, places, px, py}
use Rattle.family.specs.Points.{points}
use Rattle.family.specs.Encoding.{encode_of, value_at, to_f-value_at}
use Rattle.family.specs.Evaluation.{encode-at}
use Rattle.near.specs.Near.{m_of, near_to}
use Rattle.near.specs.Reach.{Workable, Repairable, ranks}

module _ (𝓜 : Member) where
  open 𝓜 use {gf, w, wide}

  pub codeword-symbol : (k : ℕ) (m : List ℕ) (p : ℕ) → p < places 𝓜 → symbol_at (encode_of 𝓜 k m) p < symbols 𝓜
  codeword-symbol k m p h = encode-at 𝓜 k m p h

  unfoldable pub symbols_of : List ℕ → ℕ → GF gf
  symbols_of word p = to_f gf (get_or word p 0)

  pub symbols_of-at : (word : List ℕ) (p : ℕ) → symbols_of word p ≡ to_f gf (get_or word p 0)
  unfolding symbols_of
  symbols_of-at word p = refl

  unfoldable pub message_function : ℕ → List ℕ → ℕ → GF gf
  message_function k m = message_fn (K gf) w k (symbols_of m)

  module _ {k : ℕ} (rate : Workable 𝓜 k) (m : List ℕ) where
    pub message_function-fn : Fn (K gf) w (message_function k m)
    unfolding message_function
    message_function-fn = message-fn (K gf) w k (symbols_of m) (m_of 𝓜 k) (ranks 𝓜 rate)

    pub message_function-order : Below (K gf) (message_function k m) (suc (m_of 𝓜 k))
    unfolding message_function
    message_function-order = message-order (K gf) w k (symbols_of m) (m_of 𝓜 k) (ranks 𝓜 rate)

    -- the codeword holds the function's values
    pub encode-val : (p : ℕ) → p < places 𝓜 → Val (K gf) w (px 𝓜 p) (py 𝓜 p) (message_function k m) (symbols_of (encode_of 𝓜 k m) p)
    unfolding message_function encode_of symbols_of
    encode-val p h =
        weighted-is (K gf) (sym (ap (to_f gf) (listed_at (places 𝓜) p (value_at 𝓜 k m) 0 h) ∙ to_f-value_at 𝓜 k m p))
        (message-val (K gf) w k (symbols_of m) wide (m_of 𝓜 k) (ranks 𝓜 rate) (px 𝓜 p) (py 𝓜 p))

  pub message_function-at : (k : ℕ) (m : List ℕ) (t : ℕ) → t < k → message_function k m (order_of w t) ≡ to_f gf (get_or m t 0)
  unfolding message_function symbols_of
  message_function-at k m t h = message-at (K gf) w k (symbols_of m) wide t h

  -- symbol t from its coefficient
  unfoldable pub symbol_from : (ℕ → GF gf) → ℕ → ℕ
  symbol_from f t = value gf (f (order_of w t))

  unfoldable pub message_from : ℕ → (ℕ → GF gf) → List ℕ
  message_from k f = listed k (symbol_from f)

  pub message_from-word : (k : ℕ) (f : ℕ → GF gf) → Word (size gf) k (message_from k f)
  unfolding message_from symbol_from
  message_from-word k f =
      record {
        size = listed-length k (symbol_from f);
        symbols =
            all_below-from (size gf) (listed k (symbol_from f))
            (λ t h. subst (λ s. s < size gf) (sym (listed_at k t (symbol_from f) 0 (omega (arith, listed-length k (symbol_from f))))) (value-lt gf (f (order_of w t))));
      }

  pub message_from-function : {k : ℕ} {m : List ℕ} → Word (size gf) k m → message_from k (message_function k m) ≡ m
  unfolding message_from symbol_from
  message_from-function {k} {m} u =
      listed-ext k (symbol_from (message_function k m)) (λ t. get_or m t 0)
      (λ t h.
      ap (value gf) (message_function-at k m t h) ∙ value-to_f gf (get_or m t 0)
      ∙ mod-eq_of_lt (all_below-at (size gf) m u.symbols t (omega (arith, u.size))))
      ∙ ap (λ n. listed n (λ t. get_or m t 0)) (sym u.size) ∙ listed-get_d m 0

  agree-equal : (u v : List ℕ) (p : ℕ) → agree u v p ≡ true → symbols_of u p ≡ symbols_of v p
  unfolding agree symbols_of
  agree-equal u v p e =
      ap (to_f gf)
      (eqb-true (get_or u p 0) (get_or v p 0)
      (and_right (ltb p (length v)) (eqb (get_or u p 0) (get_or v p 0))
      (and_right (ltb p (length u)) (ltb p (length v) && eqb (get_or u p 0) (get_or v p 0)) e)))

  -- ---- the places that count
  module _ (counts : ℕ → Bool) where
    -- the i-th of the first n places that counts
    unfoldable pub place_at : ℕ → ℕ → ℕ
    place_at n i = get_or (kept n counts) i 0

    at-earlier : (n i : ℕ) → i < count n counts → place_at (suc n) i ≡ place_at n i
    unfolding place_at
    at-earlier n i h =
        ap (λ l. get_or l i 0) (kept-suc n counts)
        ∙ get_or-append (kept n counts) (cond (counts n) (n ∷ []) []) 0 i (omega (arith, kept-length n counts))

    at_last : (n : ℕ) → counts n ≡ true → place_at (suc n) (count n counts) ≡ n
    unfolding place_at
    at_last n e =
        ap (λ l. get_or l (count n counts) 0) (kept-suc n counts ∙ ap (λ b. kept n counts ++ cond b (n ∷ []) []) e)
        ∙ get_or_at (kept n counts) n [] 0 (count n counts) (kept-length n counts)

    module _ (i n : ℕ) (h : i < count n counts) where
      counted : Memᴰ (place_at n i) (kept n counts)
      unfolding place_at
      counted = member-at (kept n counts) 0 i (omega (arith, kept-length n counts))

      pub place_at-below : place_at n i < n
      place_at-below = (kept-passes n counts (place_at n i) counted).0

      pub place_at-counts : T (counts (place_at n i))
      place_at-counts = (kept-passes n counts (place_at n i) counted).1

    pub place_at-rising : (n i j : ℕ) → i < j → j < count n counts → place_at n i < place_at n j
    unfolding place_at
    place_at-rising n i j l h = (kept-rising n counts).rises i j l (omega (arith, kept-length n counts))

    -- words differ, as elements, in no more of them than as numbers: equal numbers are equal elements
    pub differing-le : (n : ℕ) (u v : List ℕ)
        → Distance.differing (K gf) (count n counts) (λ i. symbols_of u (place_at n i)) (λ i. symbols_of v (place_at n i)) ≤ differing_in counts n u v
    unfolding differing_in
    differing-le zero u v = omega (arith, count-nil counts, ap (λ c. Distance.differing (K gf) c (λ i. symbols_of u (place_at zero i)) (λ i. symbols_of v (place_at zero i))) (count-nil counts), Distance.differing-nil (K gf) (λ i. symbols_of u (place_at zero i)) (λ i. symbols_of v (place_at zero i)))
    differing-le (suc n) u v = go (counts n) refl (agree u v n) refl (differing-le n u v)
      where
        own : ℕ → GF gf
        own i = symbols_of u (place_at (suc n) i)

        other : ℕ → GF gf
        other i = symbols_of v (place_at (suc n) i)

        earlier : Distance.differing (K gf) (count n counts) own other ≡ Distance.differing (K gf) (count n counts) (λ i. symbols_of u (place_at n i)) (λ i. symbols_of v (place_at n i))
        earlier =
            Distance.differing-ext (K gf) (count n counts) own other _ _ (λ i l. ap (symbols_of u) (at-earlier n i l)) (λ i l. ap (symbols_of v) (at-earlier n i l))

        number : (b : Bool) → counts n ≡ b → count (suc n) counts ≡ count n counts + bit b
        number b e = count-suc n counts ∙ ap (λ c. count n counts + bit c) e

        differ : (b c : Bool) → counts n ≡ b → agree u v n ≡ c
            → count (suc n) (λ p. counts p && differ_at u v p) ≡ count n (λ p. counts p && differ_at u v p) + bit (b && not c)
        differ b c e f =
            count-suc n (λ p. counts p && differ_at u v p) ∙ ap₂ (λ x y. count n (λ p. counts p && differ_at u v p) + bit (x && not y)) e f

        up-to : (b : Bool) → counts n ≡ b → Distance.differing (K gf) (count (suc n) counts) own other ≡ Distance.differing (K gf) (count n counts + bit b) own other
        up-to b e = ap (λ c. Distance.differing (K gf) c own other) (number b e)

        go : (b : Bool) → counts n ≡ b → (c : Bool) → agree u v n ≡ c
            → Distance.differing (K gf) (count n counts) (λ i. symbols_of u (place_at n i)) (λ i. symbols_of v (place_at n i)) ≤ count n (λ p. counts p && differ_at u v p)
            → Distance.differing (K gf) (count (suc n) counts) own other ≤ count (suc n) (λ p. counts p && differ_at u v p)
        go false e c f ih =
            let z : count n counts + 0 ≡ count n counts = omega arith in
            omega (arith, up-to false e, ap (λ m. Distance.differing (K gf) m own other) z, earlier, differ false c e f)
        go true e true f ih =
            let o : count n counts + 1 ≡ suc (count n counts) = omega arith in
            omega (
              arith,
              up-to true e,
              ap (λ m. Distance.differing (K gf) m own other) o,
              earlier,
              differ true true e f,
              Distance.differing-suc-same (K gf) (count n counts) own other
                  (ap (symbols_of u) (at_last n e) ∙ agree-equal u v n f ∙ sym (ap (symbols_of v) (at_last n e))),
            )
        go true e false f ih =
            let o : count n counts + 1 ≡ suc (count n counts) = omega arith in
            omega (
              arith,
              up-to true e,
              ap (λ m. Distance.differing (K gf) m own other) o,
              earlier,
              differ true false e f,
              Distance.differing-suc-le-suc (K gf) (count n counts) own other,
            )

    -- their points, and what a codeword has there
    pub counted-points : Points (K gf) w (count (places 𝓜) counts) (λ i. px 𝓜 (place_at (places 𝓜) i)) (λ i. py 𝓜 (place_at (places 𝓜) i))
    counted-points =
        points-some (K gf) w (count (places 𝓜) counts) (place_at (places 𝓜)) (λ i h. place_at-below i (places 𝓜) h)
        (λ i j l h. place_at-rising (places 𝓜) i j l h) (points 𝓜)

    module _ (reach : ℕ) {k : ℕ} (rate : Workable 𝓜 k) (word : List ℕ) where
      pub near-function : (m : List ℕ) → T (near_to 𝓜 counts reach k word m)
          → Near (K gf) w (m_of 𝓜 k) reach (count (places 𝓜) counts) (λ i. px 𝓜 (place_at (places 𝓜) i)) (λ i. py 𝓜 (place_at (places 𝓜) i))
          (λ i. symbols_of word (place_at (places 𝓜) i)) (message_function k m)
      unfolding near_to
      near-function m t =
          record {
            fn = message_function-fn rate m;
            order = message_function-order rate m;
            value = λ i. symbols_of (encode_of 𝓜 k m) (place_at (places 𝓜) i);
            val = λ i h. encode-val rate m (place_at (places 𝓜) i) (place_at-below i (places 𝓜) h);
            few =
                omega
                (arith, leb→le (differing_in counts (places 𝓜) (encode_of 𝓜 k m) word) reach t, differing-le (places 𝓜) (encode_of 𝓜 k m) word);
          }

      pub near-one : Repairable 𝓜 counts reach k → {m n : List ℕ} → Found (symbols 𝓜) k (near_to 𝓜 counts reach k word) m
          → Found (symbols 𝓜) k (near_to 𝓜 counts reach k word) n → m ≡ n
      near-one repairs {m} {n} a b =
          sym (message_from-function a.word)
          ∙ ap (message_from k) (near-unique (K gf) w wide counted-points (near-function m a.passed) repairs (near-function n b.passed))
          ∙ message_from-function b.word
