-- Bursts: a window of consecutive symbols may be altered.
--
--   Altered k messages frame start long   a frame with the head of the superframe of these messages and a symbol in each of its 512 bytes, that is as it was
--                          built outside the window of `long` symbols from number `start` on; altered-passed: it passes the checks
--   run a n, run_length, run-among, among-run, run-distinct   n numbers in a row from a on
--   burst-few              a window of at most 8T symbols meets each word in at most T places
--   burst                  so with at most 8T symbols altered, T by the rate, all eight messages come back and no word is named, at every rate
--   burst-39               document 02's sentence: at rate 39, if at most 48 consecutive symbols are altered
--   far-named              a word that differs from the codeword of a message in more than T places, but so few that no other codeword can be near, is named
--   broken_of k messages start long   the superframe with each symbol in the window replaced by the next one
--   broken-altered, broken-many   it is so altered, and of a window of more than 8T symbols the first one's word differs in more than T places
--   Sharp k messages long  wherever the window of so many symbols starts, some alteration inside it leaves a word without its message
--   burst-sharp            so it is with 8T + 1 symbols, at every rate; burst-49: with 49 at rate 39
use Rattle.std.specs.Prelude.{Bool, not, ◌&&◌, ◌≡◌, ◌≢◌, ◌⊎◌, leb, length, get_or}
use Rattle.std.proofs.Math.Bool.{true, false, cond}
use Rattle.std.proofs.Math.Path.{refl, subst}
use Rattle.std.proofs.Common.{sym, ap, ◌∙◌, inl, inr, pow_pos}
use mathlib.Core.List.{List, []}
use Prim.Native.Nat.{ℕ, suc, ◌+◌, ◌-◌, ◌*◌, ◌/◌, ◌%◌, ◌^◌, ◌<◌, ◌≤◌}
use Rattle.std.proofs.Math.Nat.{div-eq_of_lt}
use Rattle.std.proofs.Math.Decide.{dec_lt, dec_le}
use native.Mathlib.Omega.{arith}
use Rattle.std.proofs.Math.Dec.{T as Holds, ltb}
use borrow.Author.Tests.{lt-ltb, le-ltb, le-leb, lt-leb}
use Rattle.lists.specs.Block.{block}
use Rattle.lists.specs.Different.{rising-different, different-distinct, count-among, among-count}
use Rattle.lists.specs.Distinct.{among, among-at, member-among, distinct}
use Rattle.lists.specs.Every.{both_right, both-intro, true-T}
use Rattle.lists.specs.Listed.{listed, listed-length, listed_at}
use Rattle.lists.specs.Member.{at-member}
use Rattle.lists.specs.Words.{Word}
use Rattle.refusals.specs.Refusal.{accepted}
use Rattle.soft.specs.Column.{places, symbols}
use Rattle.soft.specs.Total.{differ_at, differing_in}
use Rattle.soft.specs.TotalLaws.{agree-true, agree-false}
use Rattle.family.specs.Member.{m16}
use Rattle.code.specs.Encoding.{encode_of}
use Rattle.near.specs.Near.{near_to}
use Rattle.near.specs.Governing.{governed-only, only-far}
use Rattle.near.specs.Here.{m_of, reach_of}
use Rattle.near.proofs.Here.{genus-4, reaches}
use Rattle.book64.specs.Rates.{known-rate, rate-workable, rate-reach}
use Rattle.book64.specs.engine.Engine.{unblanked_by}
use Rattle.book64.specs.engine.EngineLaws.{unblanked-count}
use Rattle.superframe.specs.Superframe.{words, head_length, symbol_count, frame_length, sent_word, built_of, symbol_in, word_in, taken, taken_of}
use Rattle.superframe.specs.Hard.{none-blank, fit_none}
use Rattle.superframe.specs.Laws.{word_long, word_at, Passed, word-none-near}
use Rattle.superframe.specs.Built.{Sent, framed, framed-long, framed-symbol, sent-long, built-head, built-place, built-below, alike-passed, message-word, all_back}

pub record Altered (k : ℕ) (messages frame : List ℕ) (start long : ℕ) : Type 0 where
  pub size : length frame ≡ frame_length
  pub head : (i : ℕ) → i < head_length → get_or frame i 0 ≡ get_or (built_of k messages) i 0
  pub below : (s : ℕ) → s < symbol_count → symbol_in frame s < symbols
  pub outside : (s : ℕ) → s < symbol_count → (s < start) ⊎ (start + long ≤ s) → symbol_in frame s ≡ symbol_in (built_of k messages) s

pub altered-passed : {k : ℕ} {messages frame : List ℕ} {start long : ℕ} → Sent k messages → Altered k messages frame start long
    → (out : List ℕ) → length out ≡ k * words → Passed frame out k
altered-passed {k} {messages} {frame} S A out room = alike-passed k messages S frame out A.size A.head A.below room

-- ---- numbers in a row

abbrev pub run : ℕ → ℕ → List ℕ
run a n = listed n (λ i. a + i)

module _ (a n : ℕ) where
  pub run_length : length (run a n) ≡ n
  run_length = listed-length n (λ i. a + i)

  run_at : (i : ℕ) → i < n → get_or (run a n) i 0 ≡ a + i
  run_at i h = listed_at n i (λ j. a + j) 0 h

  pub run-among : (p : ℕ) → a ≤ p → p < a + n → among p (run a n) ≡ true
  run-among p l h =
      let e : get_or (run a n) (p - a) 0 ≡ p = omega (arith, run_at (p - a) (omega arith)) in
      subst (λ q. among q (run a n) ≡ true) e (among-at (run a n) (p - a) (omega (arith, run_length)))

  pub among-run : (p : ℕ) → among p (run a n) ≡ true → (a ≤ p) × (p < a + n)
  among-run p e =
      let r = at-member 0 (member-among p (run a n) e) in
      let b : r.0 < n = omega (arith, r.1, run_length) in
      (omega (arith, r.2, run_at r.0 b), omega (arith, r.2, run_at r.0 b))

  pub run-distinct : distinct (run a n) ≡ true
  run-distinct =
      different-distinct
      (rising-different (run a n)
      (record { rises = λ i j l h. let b : j < n = omega (arith, run_length) in omega (arith, run_at i (omega arith), run_at j b) }))

-- ---- at most T places of each word

module _ {k : ℕ} {messages frame : List ℕ} {start long : ℕ} (A : Altered k messages frame start long) (v : ℕ) (h : v < words) where
  abbrev differs : ℕ → Bool
  differs p = unblanked_by [] p && differ_at (sent_word k messages v) (word_in frame v) p

  -- outside the window the word received is the word sent
  outside-same : (p : ℕ) → p < places → (words * p + v < start) ⊎ (start + long ≤ words * p + v) → Holds (differs p) → ⊥
  outside-same p b o t =
      subst (λ c. Holds (not c))
      (agree-true (sent_word k messages v) (word_in frame v) p (omega (arith, sent-long k messages v)) (omega (arith, word_long frame v))
      (sym (word_at frame v p b ∙ A.outside (words * p + v) (omega arith) o ∙ built-place k messages p v b h)))
      (both_right (unblanked_by [] p) (differ_at (sent_word k messages v) (word_in frame v) p) t)

  -- the first place that the window can meet
  abbrev first : ℕ
  first = (start + words - suc v) / words

  pub burst-few : (reach : ℕ) → long ≤ words * reach → differing_in (unblanked_by []) places (sent_word k messages v) (word_in frame v) ≤ reach
  unfolding differing_in
  burst-few reach few =
      omega (
        arith,
        run_length first reach,
        count-among (run first reach) places differs
            (λ p b t. go p b t (dec_lt (words * p + v) start) (dec_le (start + long) (words * p + v))),
      )
    where
      go : (p : ℕ) → p < places → Holds (differs p) → Dec (words * p + v < start) → Dec (start + long ≤ words * p + v) → among p (run first reach) ≡ true
      go p b t (yes l) d = absurd (outside-same p b (inl l) t)
      go p b t (no l) (yes m) = absurd (outside-same p b (inr m) t)
      go p b t (no l) (no m) = run-among first reach p (omega arith) (omega arith)

pub burst : (k : ℕ) (messages frame : List ℕ) (start long : ℕ) → Sent k messages → Altered k messages frame start long → long ≤ words * reach_of k 0
    → (out : List ℕ) → length out ≡ k * words → taken_of frame out ≡ taken accepted 0 messages
unfolding sent_word
burst k messages frame start long S A few out room =
    all_back k messages S frame out (altered-passed S A out room)
    (λ v h. record { message = message-word k messages S v h; close = burst-few A v h (reach_of k 0) few })

pub burst-39 : (messages frame : List ℕ) (start long : ℕ) → Sent 39 messages → Altered 39 messages frame start long → long ≤ 48
    → (out : List ℕ) → length out ≡ 39 * words → taken_of frame out ≡ taken accepted 0 messages
burst-39 messages frame start long S A few out room =
    burst 39 messages frame start long S A (omega (arith, reaches.1)) out room

-- ---- and no more

pub far-named : (k : ℕ) (frame out : List ℕ) → Passed frame out k → (v : ℕ) → v < words → (m : List ℕ) → Word symbols k m
    → reach_of k 0 < differing_in (unblanked_by []) places (encode_of k m) (word_in frame v)
    → differing_in (unblanked_by []) places (encode_of k m) (word_in frame v) + reach_of k 0 + m_of k < places
    → ((taken_of frame out).status / 2 ^ v % 2 ≡ 1) × (block k v (taken_of frame out).messages ≡ block k v out)
unfolding near_to
far-named k frame out P v h m w far alone =
    let rate = rate-workable (known-rate k P.known) in
    word-none-near frame out k P v h
    (only-far m16 (unblanked_by []) (reach_of k 0) rate w (word_in frame v)
    (λ n f. governed-only m16 (unblanked_by []) (reach_of k 0) rate w (word_in frame v) n (omega (arith, alone, unblanked-count [] fit_none)) f)
    (lt-leb (differing_in (unblanked_by []) places (encode_of k m) (word_in frame v)) (reach_of k 0) far))

module _ (k : ℕ) (messages : List ℕ) (start long : ℕ) where
  abbrev in_window : ℕ → Bool
  in_window s = leb start s && ltb s (start + long)

  unfoldable pub broken_at : ℕ → ℕ
  broken_at s = cond (in_window s) ((symbol_in (built_of k messages) s + 1) % symbols) (symbol_in (built_of k messages) s)

  unfoldable pub broken_of : List ℕ
  broken_of = framed k broken_at

  broken-symbol : (s : ℕ) → s < symbol_count → symbol_in broken_of s ≡ broken_at s
  unfolding broken_of
  broken-symbol s h = framed-symbol k broken_at s h

  broken-outside : (s : ℕ) → (s < start) ⊎ (start + long ≤ s) → broken_at s ≡ symbol_in (built_of k messages) s
  unfolding broken_at
  broken-outside s (inl l) = rw (lt-leb start s l)
  broken-outside s (inr l) = go (leb start s)
    where
      go : (b : Bool)
          → cond (b && ltb s (start + long)) ((symbol_in (built_of k messages) s + 1) % symbols) (symbol_in (built_of k messages) s) ≡ symbol_in (built_of k messages) s
      go true = rw (le-ltb s (start + long) l)
      go false = refl

  broken-inside : (s : ℕ) → start ≤ s → s < start + long → broken_at s ≡ (symbol_in (built_of k messages) s + 1) % symbols
  unfolding broken_at
  broken-inside s l h = rw (le-leb start s l, lt-ltb s (start + long) h)

  broken-below : (s : ℕ) → s < symbol_count → broken_at s < symbols
  broken-below s h = go (dec_lt s start) (dec_le (start + long) s)
    where
      go : Dec (s < start) → Dec (start + long ≤ s) → broken_at s < symbols
      go (yes l) d = omega (arith, broken-outside s (inl l), built-below k messages s h)
      go (no l) (yes m) = omega (arith, broken-outside s (inr m), built-below k messages s h)
      go (no l) (no m) = omega (arith, broken-inside s (omega arith) (omega arith))

  pub broken-altered : Altered k messages broken_of start long
  unfolding broken_of
  broken-altered =
      record {
        size = framed-long k broken_at;
        head = built-head k messages broken_at;
        below = λ s h. subst (λ x. x < symbols) (sym (broken-symbol s h)) (broken-below s h);
        outside = λ s h o. broken-symbol s h ∙ broken-outside s o;
      }

  pub broken-many : (reach : ℕ) → words * reach < long → start + words * reach < symbol_count
      → reach < differing_in (unblanked_by []) places (sent_word k messages (start % words)) (word_in broken_of (start % words))
  unfolding differing_in
  broken-many reach many room =
      omega (
        arith,
        run_length (start / words) (suc reach),
        among-count (run (start / words) (suc reach)) places (λ p. unblanked_by [] p && differ_at word received p)
            (run-distinct (start / words) (suc reach))
            (λ p a. let r = among-run (start / words) (suc reach) p a in at p r.0 r.1),
      )
    where
      word : List ℕ
      word = sent_word k messages (start % words)

      received : List ℕ
      received = word_in broken_of (start % words)

      other : (p : ℕ) → p < places → start ≤ words * p + start % words → words * p + start % words < start + long → get_or word p 0 ≡ get_or received p 0 → ⊥
      other p b l h e =
          let s : ℕ = words * p + start % words in
          let inside : s < symbol_count = omega arith in
          omega (
            arith,
            built-place k messages p (start % words) b (omega arith) ∙ e ∙ word_at broken_of (start % words) p b ∙ broken-symbol s inside ∙ broken-inside s l h,
            built-below k messages s inside,
          )

      at : (p : ℕ) → start / words ≤ p → p < start / words + suc reach → (p < places) × Holds (unblanked_by [] p && differ_at word received p)
      at p l h =
          let b : p < places = omega arith in (
            b,
            both-intro (unblanked_by [] p) (differ_at word received p) (true-T (unblanked_by [] p) (none-blank p b))
                (true-T (differ_at word received p)
                (ap not
                (agree-false word received p (omega (arith, sent-long k messages (start % words))) (omega (arith, word_long broken_of (start % words)))
                (other p b (omega arith) (omega arith))))),
          )

abbrev pub Sharp : ℕ → List ℕ → ℕ → Type 0
Sharp k messages long =
    (start : ℕ) → start + long ≤ symbol_count
    → (frame : List ℕ) × Altered k messages frame start long × ((out : List ℕ) → length out ≡ k * words → (taken_of frame out).status ≢ 0)

pub burst-sharp : (k : ℕ) (messages : List ℕ) → Sent k messages → Sharp k messages (suc (words * reach_of k 0))
unfolding sent_word
burst-sharp k messages S start room =
    let long : ℕ = suc (words * reach_of k 0) in
    let A = broken-altered k messages start long in
    let many = broken-many k messages start long (reach_of k 0) (omega arith) (omega arith) in
    let few = burst-few A (start % words) (omega arith) (suc (reach_of k 0)) (omega arith) in (
      broken_of k messages start long,
      A,
      λ out fits zero-status.
          let n = far-named k (broken_of k messages start long) out (altered-passed S A out fits) (start % words) (omega arith)
          (block k (start % words) messages) (message-word k messages S (start % words) (omega arith)) many
          (omega (arith, few, (rate-reach {b = 0} (known-rate k S.known) (omega arith)).fits, genus-4)) in
          omega (arith, n.0, ap (λ x. x / 2 ^ (start % words) % 2) zero-status, div-eq_of_lt (pow_pos (start % words))),
    )

pub burst-49 : (messages : List ℕ) → Sent 39 messages → Sharp 39 messages 49
burst-49 messages S = let e : suc (words * reach_of 39 0) ≡ 49 = omega (arith, reaches.1) in subst (Sharp 39 messages) e (burst-sharp 39 messages S)
