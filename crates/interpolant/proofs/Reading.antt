-- The 98 bytes: what they are of the least Q, that they hold all of it, and that they do not depend on the order of arrival.
--
--   byte_key-plain, byte_key-z   which term a byte is of; byte_of-plain, byte_of-z: and so of the Q with the coefficients c on keys
--   reading-least       the reading is listed by these bytes of the theory's least Q: what the code's contract cites
--   reading-size, reading-below   98 bytes, each below 16
--   reading-plain, reading-z      bytes 0 to 64 are Q0 by order, 65 to 97 are Q1 by orders 0 to 32
--   missing-plain, missing-z   'missing orders hold 0'
--   reading-any-order   'the reading does not depend on the order in which places arrived'
--   least-weight        with more terms of weight at most W than settled places, the highest term weighs at most W
--   terms-many          weights up to n + M leave room for more than N terms, where N + 10 < 2n + M: at most six orders are absent without z, and six with z
--   beyond-z            so through at most N places Q1 has no order above n
--   outside-plain, outside-z, all_shown   from M = 11 on, which is the smallest there is, nothing of the least Q through at most 64 places lies outside the
--                       98 bytes
--   reading-determines  so they determine it
--   reading-former      from M = 43 on the reading is the 82 bytes of document 01, Q1 by orders 0 to 16, and 16 zeros behind them; zero-bytes
use Rattle.std.specs.Prelude.{◌≡◌, ◌≢◌, length, replicate}
use Rattle.std.proofs.Math.Path.{sym, ap}
use Rattle.std.proofs.Common.{◌∙◌, subst, inl, arith, lit≤, length-append, get_or-append-add, lt-ltb, le-ltb}
use mathlib.Core.List.{List, ◌++◌, Memᴰ}
use Rattle.std.proofs.Math.Option.{some}
use Prim.Native.Nat.{ℕ, suc, ◌+◌, ◌-◌, ◌*◌, ◌/◌, ◌<◌, ◌≤◌}
use Rattle.std.proofs.Math.Decide.{dec_le, dec_lt}
use Rattle.std.proofs.Math.ListN.{get_or, get_or-append}
use Rattle.std.proofs.lemmas.List.{length-replicate, get_or-replicate}
use Rattle.std.proofs.Math.Seq.{ext_get_or}
use Rattle.lists.specs.Listed.{listed, listed-length, listed_at, listed-ext}
use Rattle.algebra.specs.Least.{Least}
use Rattle.galois.specs.Field16.{GF, K16, value}
use Rattle.hermitian.specs.Present.{Present, genus}
use Rattle.hermitian.specs.Orders.{rank, rank-least}
use Rattle.hermitian.specs.Keys.{Term, plain, times_z, key, weight, IsKey, is_key, dec_key, key-even, key-odd}
use Rattle.hermitian.specs.Size.{terms, terms-weight, least_size}
use Rattle.code.specs.Nodes.{sample_at, ThroughNodes}
use Rattle.family.specs.Member.{m16, places}
use Rattle.family.specs.Nodes.{Node}
use Rattle.interpolant.specs.LeastQ.{coefficient, keys, least_q, top_plain, top_z, byte_key, byte_at, bytes_of_q, reading_length, reading_of}
use Rattle.interpolant.specs.Meaning.{IsLeastQ, Shown, of_Q0, of_Q1}
use Rattle.interpolant.proofs.OnKeys.{coefficient-beyond, coefficient-below, coefficient-word_of, coefficient-ext}
use Rattle.interpolant.proofs.Least.{least-ends, least_first, is_least_q-least, least_q-some, least_q-is, least_q-any-order}
use Rattle.interpolant.specs.Reading.{byte_of, former_length}

-- ---- which term a byte is of
pub byte_key-plain : (M o : ℕ) → o ≤ top_plain → byte_key M o ≡ key M (plain o)
unfolding byte_key
byte_key-plain M o h = simp (lt-ltb o (suc top_plain) (omega arith))

pub byte_key-z : (M o : ℕ) → byte_key M (suc top_plain + o) ≡ key M (times_z o)
unfolding byte_key
byte_key-z M o =
    let e : suc top_plain + o - suc top_plain ≡ o = omega arith in
    simp (le-ltb (suc top_plain + o) (suc top_plain) (omega arith), e)

pub byte_of-plain : (M : ℕ) (c : ℕ → GF) (o : ℕ) → o ≤ top_plain → byte_of M c o ≡ value (c (2 * o))
unfolding byte_of
byte_of-plain M c o h = ap (λ k. value (c k)) (byte_key-plain M o h)

pub byte_of-z : (M : ℕ) (c : ℕ → GF) (o : ℕ) → byte_of M c (suc top_plain + o) ≡ value (c (2 * (o + M) + 1))
unfolding byte_of
byte_of-z M c o = ap (λ k. value (c k)) (byte_key-z M o)

module _ (M : ℕ) (ns : List Node) where
  pub reading-least : {c : ℕ → GF} {l : ℕ} → Least K16 (ThroughNodes M ns) c l → reading_of M ns ≡ listed reading_length (byte_of M c)
  unfolding reading_of bytes_of_q byte_at byte_of
  reading-least {c} h =
      ap (bytes_of_q reading_length M) (least_first M ns h) ∙ listed-ext reading_length _ _ (λ i l. coefficient-word_of keys c (least-ends M ns h) (byte_key M i))

  -- the least Q and its bytes
  reading-some : {q : List ℕ} → least_q M ns ≡ some q → reading_of M ns ≡ listed reading_length (byte_at M q)
  unfolding reading_of bytes_of_q
  reading-some e = ap (bytes_of_q reading_length M) e

  pub reading-size : length (reading_of M ns) ≡ reading_length
  reading-size = ap length (reading-some (least_q-some M ns).2) ∙ listed-length reading_length _

  module _ {q : List ℕ} (e : least_q M ns ≡ some q) where
    reading-at : (i : ℕ) → i < reading_length → get_or (reading_of M ns) i 0 ≡ coefficient q (byte_key M i)
    unfolding byte_at
    reading-at i h = ap (λ l. get_or l i 0) (reading-some e) ∙ listed_at reading_length i (byte_at M q) 0 h

    pub reading-below : (i : ℕ) → i < reading_length → get_or (reading_of M ns) i 0 < 16
    reading-below i h =
        subst (λ a. a < 16) (sym (reading-at i h)) (coefficient-below q (least_q-is M ns e).2.through.symbols (byte_key M i))

    pub reading-plain : (o : ℕ) → o ≤ top_plain → get_or (reading_of M ns) o 0 ≡ coefficient q (key M (plain o))
    reading-plain o h = reading-at o (omega arith) ∙ ap (coefficient q) (byte_key-plain M o h)

    pub reading-z : (o : ℕ) → o ≤ top_z → get_or (reading_of M ns) (suc top_plain + o) 0 ≡ coefficient q (key M (times_z o))
    reading-z o h = reading-at (suc top_plain + o) (omega arith) ∙ ap (coefficient q) (byte_key-z M o)

pub reading-any-order : (M : ℕ) (ns ms : List Node) → ((n : Node) → Memᴰ n ns → Memᴰ n ms)
    → ((n : Node) → Memᴰ n ms → Memᴰ n ns) → reading_of M ns ≡ reading_of M ms
unfolding reading_of
reading-any-order M ns ms there back = ap (bytes_of_q reading_length M) (least_q-any-order M ns ms there back)

-- ---- how much there is of the least Q
pub least-weight : (M W : ℕ) {ns : List Node} {q : List ℕ} {t : Term} → length ns < terms 4 M (suc (2 * W + 1)) → IsLeastQ M ns q t → weight M t ≤ W
least-weight M W {ns} {q} {t} h a = go t (least_size K16 4 (lit≤ tt) M sample_at (2 * W + 1) (is_least_q-least a) h)
  where
    go : (t : Term) → key M t ≤ 2 * W + 1 → weight M t ≤ W
    go (plain o) l = omega arith
    go (times_z o) l = omega arith

pub terms-many : (N n M : ℕ) → N + 10 < 2 * n + M → N < terms 4 M (suc (2 * (n + M) + 1))
unfolding genus
terms-many N n M h =
    let b : suc (n + M) - M ≡ suc n = omega arith in
    omega (arith, terms-weight 4 M (n + M), ap (rank 4) b, rank-least 4 (lit≤ tt) (suc (n + M)), rank-least 4 (lit≤ tt) (suc n))

module _ (M : ℕ) (ns : List Node) {q : List ℕ} (e : least_q M ns ≡ some q) where
  pub outside-plain : (o : ℕ) → top_plain < o → coefficient q (key M (plain o)) ≡ 0
  outside-plain o h = coefficient-beyond q (2 * o) (omega (arith, (least_q-is M ns e).1))

  pub missing-plain : (o : ℕ) → ¬ Present 4 o → coefficient q (key M (plain o)) ≡ 0
  missing-plain o n = (least_q-is M ns e).2.through.terms (2 * o) (λ k. n (subst (Present 4) (omega arith) (key-even (omega arith) k)))

  pub missing-z : (o : ℕ) → ¬ Present 4 o → coefficient q (key M (times_z o)) ≡ 0
  missing-z o n =
      let f : (2 * (o + M) + 1) / 2 - M ≡ o = omega arith in
      (least_q-is M ns e).2.through.terms (2 * (o + M) + 1) (λ k. n (subst (Present 4) f (key-odd (omega arith) k).1))

  pub beyond-z : (n : ℕ) → length ns + 10 < 2 * n + M → (o : ℕ) → n < o → coefficient q (key M (times_z o)) ≡ 0
  beyond-z n room o h =
      let t = least_q-is M ns e in
      let l : weight M t.0 ≤ n + M = least-weight M (n + M) (terms-many (length ns) n M room) t.2 in
      t.2.highest.none_higher (times_z o) (inl (omega arith))

  module _ (large : 11 ≤ M) (most : length ns ≤ places m16) where
    pub outside-z : (o : ℕ) → top_z < o → coefficient q (key M (times_z o)) ≡ 0
    outside-z = beyond-z top_z (omega arith)

    pub all_shown : (k : ℕ) → coefficient q k ≢ 0 → Shown M k
    all_shown k n = go (dec_key 4 M k)
      where
        at_plain : (o : ℕ) → k ≡ key M (plain o) → Dec (o ≤ top_plain) → Shown M k
        at_plain o f (yes h) = of_Q0 o h f
        at_plain o f (no h) = absurd (n (ap (coefficient q) f ∙ outside-plain o (omega arith)))

        at-z : (o : ℕ) → k ≡ key M (times_z o) → Dec (o ≤ top_z) → Shown M k
        at-z o f (yes h) = of_Q1 o h f
        at-z o f (no h) = absurd (n (ap (coefficient q) f ∙ outside-z o (omega arith)))

        go : Dec (IsKey 4 M k) → Shown M k
        go (yes (is_key (plain o) p f)) = at_plain o f (dec_le o top_plain)
        go (yes (is_key (times_z o) p f)) = at-z o f (dec_le o top_z)
        go (no h) = absurd (n ((least_q-is M ns e).2.through.terms k h))

module _ (M : ℕ) (ns : List Node) (large : 43 ≤ M) (most : length ns ≤ places m16) where
  pub zero-bytes : (i : ℕ) → former_length ≤ i → i < reading_length → get_or (reading_of M ns) i 0 ≡ 0
  zero-bytes i l h =
      let f : i ≡ suc top_plain + (i - suc top_plain) = omega arith in
      let a = least_q-some M ns in
      ap (λ k. get_or (reading_of M ns) k 0) f ∙ reading-z M ns a.2 (i - suc top_plain) (omega arith)
      ∙ beyond-z M ns a.2 16 (omega arith) (i - suc top_plain) (omega arith)

  pub reading-former : reading_of M ns ≡ bytes_of_q former_length M (least_q M ns) ++ replicate (reading_length - former_length) 0
  unfolding bytes_of_q byte_at
  reading-former = ext_get_or 0 _ _ (reading-size M ns ∙ sym long) (λ i h. go i (omega (arith, reading-size M ns)) (dec_lt i former_length))
    where
      former : List ℕ
      former = bytes_of_q former_length M (least_q M ns)

      zeros : List ℕ
      zeros = replicate (reading_length - former_length) 0

      q : List ℕ
      q = (least_q-some M ns).0

      is : least_q M ns ≡ some q
      is = (least_q-some M ns).2

      former-is : former ≡ listed former_length (byte_at M q)
      former-is = ap (bytes_of_q former_length M) is

      size : length former ≡ former_length
      size = ap length former-is ∙ listed-length former_length (byte_at M q)

      zeros-long : length zeros ≡ reading_length - former_length
      zeros-long = length-replicate {A = ℕ} (reading_length - former_length) 0

      long : length (former ++ zeros) ≡ reading_length
      long = length-append former zeros ∙ omega (arith, size, zeros-long)

      go : (i : ℕ) → i < reading_length → Dec (i < former_length) → get_or (reading_of M ns) i 0 ≡ get_or (former ++ zeros) i 0
      go i h (yes l) =
          reading-at M ns is i h
          ∙ sym (get_or-append former zeros 0 i (omega (arith, size)) ∙ ap (λ r. get_or r i 0) former-is ∙ listed_at former_length i (byte_at M q) 0 l)
      go i h (no l) =
          let f : i ≡ length former + (i - former_length) = omega (arith, size) in
          zero-bytes i (omega arith) h
          ∙ sym (ap (λ k. get_or (former ++ zeros) k 0) f ∙ get_or-append-add former zeros (i - former_length) 0
          ∙ get_or-replicate (reading_length - former_length) (i - former_length) 0 0 (omega arith))

-- ---- so the bytes determine the least Q
pub reading-determines : (M : ℕ) (ns ms : List Node) → 11 ≤ M → length ns ≤ places m16 → length ms ≤ places m16 → reading_of M ns ≡ reading_of M ms
    → least_q M ns ≡ least_q M ms
reading-determines M ns ms large few few' e =
    a.2 ∙ ap some (coefficient-ext a.0 b.0 (a.3 ∙ sym b.3) (λ k. go k (dec_key 4 M k))) ∙ sym b.2
  where
    a : (q : List ℕ) × (t : Term) × (least_q M ns ≡ some q) × (length q ≡ keys) × IsLeastQ M ns q t
    a = least_q-some M ns

    b : (q : List ℕ) × (t : Term) × (least_q M ms ≡ some q) × (length q ≡ keys) × IsLeastQ M ms q t
    b = least_q-some M ms

    at_plain : (o : ℕ) → Dec (o ≤ top_plain) → coefficient a.0 (key M (plain o)) ≡ coefficient b.0 (key M (plain o))
    at_plain o (yes h) = sym (reading-plain M ns a.2 o h) ∙ ap (λ l. get_or l o 0) e ∙ reading-plain M ms b.2 o h
    at_plain o (no h) = outside-plain M ns a.2 o (omega arith) ∙ sym (outside-plain M ms b.2 o (omega arith))

    at-z : (o : ℕ) → Dec (o ≤ top_z) → coefficient a.0 (key M (times_z o)) ≡ coefficient b.0 (key M (times_z o))
    at-z o (yes h) = sym (reading-z M ns a.2 o h) ∙ ap (λ l. get_or l (suc top_plain + o) 0) e ∙ reading-z M ms b.2 o h
    at-z o (no h) = outside-z M ns a.2 large few o (omega arith) ∙ sym (outside-z M ms b.2 large few' o (omega arith))

    go : (k : ℕ) → Dec (IsKey 4 M k) → coefficient a.0 k ≡ coefficient b.0 k
    go k (yes (is_key (plain o) p f)) = ap (coefficient a.0) f ∙ at_plain o (dec_le o top_plain) ∙ ap (coefficient b.0) (sym f)
    go k (yes (is_key (times_z o) p f)) = ap (coefficient a.0) f ∙ at-z o (dec_le o top_z) ∙ ap (coefficient b.0) (sym f)
    go k (no h) = a.4.through.terms k h ∙ sym (b.4.through.terms k h)
