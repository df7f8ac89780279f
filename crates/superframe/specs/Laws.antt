-- What taking a superframe apart answers, word by word, and document 02's sentences about it.
--
--   word_long, word_at     a word of a frame has 64 places, and at place p symbol number 8p + v
--   symbol-below, in-word  where the symbols behind the head are below 16, each is, and so is each of a word; symbols-small: the other way round
--   answer-none, answer-some   decoding a word says 'none near' and leaves the part as it was, or gives the message; answer-long: and k symbols, whatever the
--                          frame holds
--   status-less, status-bit, status-none   the status byte: below 2^n for n words, bit v is that of word v, and 0 if no word is named
--   part-long              a part of the buffer has k symbols
--   messages-long, messages-part   the parts, one after the other: their length, and part v is what decoding word v leaves
--   Passed frame messages rate   what the checks ask; taken-passed: where they pass, the answer is the status and the parts
--   Refused, passed-or-refused   they pass at the rate that the frame names, or the call is refused: status 0, and the buffer as it was
--   refused-status         so where the number is not 0, the status is 0
--   word-none-near         'a word with none near leaves its part untouched and is named'
--   word-given             another one is not named, and its part is its message
--   word-within            so where a codeword is within T of the word
--   named-exactly          a word is named exactly if no codeword is within T of it
use Rattle.std.specs.Prelude.{Bool, ◌≡◌, ◌≢◌, ◌↔◌, ◌⊎◌, eqb, length, get_or, take, drop, replicate}
use Rattle.std.proofs.Math.Bool.{true, false, cond}
use Rattle.std.proofs.Math.Path.{refl, sym, ap, ap₂, subst}
use Rattle.std.proofs.Common.{◌∙◌, inl, inr, mul-suc, mod-lt, eq-or-lt_of_le, le_of_suc-le-suc, pow_pos, pow-add, get_or-drop, drop_at, take_all}
use mathlib.Core.List.{List, [], ◌++◌}
use Rattle.std.proofs.Math.Logic.{⊎_elim}
use Rattle.std.proofs.Math.Option.{Option, some, none}
use Prim.Native.Nat.{ℕ, zero, suc, ◌+◌, ◌-◌, ◌*◌, ◌/◌, ◌%◌, ◌^◌, ◌<◌, ◌≤◌}
use Rattle.std.proofs.Math.Nat.{pow-suc}
use Rattle.std.proofs.Math.Decide.{ℕ_discrete}
use native.Mathlib.Omega.{arith}
use Rattle.std.proofs.Math.ListN.{length-append, length-drop}
use Rattle.std.proofs.lemmas.List.{length-replicate, take-append-le, drop-append-le}
use Rattle.std.proofs.Math.Pow.{split, high}
use Rattle.lists.specs.Block.{block, block-length, row-end}
use Rattle.lists.specs.Count.{bit}
use Rattle.lists.specs.Every.{true-T, T_true}
use Rattle.lists.specs.Listed.{listed-length, listed_at}
use Rattle.lists.specs.Words.{all_below, all_below-at, all_below-from}
use Rattle.refusals.specs.Refusal.{accepted, none_near}
use Rattle.soft.specs.Column.{places, symbols}
use Rattle.code.specs.Encoding.{known_rate}
use Rattle.book.specs.closing.Closing.{Closed, refused_closing}
use Rattle.book64.specs.Here.{report_length}
use Rattle.book64.specs.engine.Engine.{near_by}
use Rattle.book64.specs.engine.EngineLaws.{IsWithin}
use Rattle.superframe.specs.Superframe.{words, head_length, symbol_count, frame_length, symbol_in, word_in, hard_columns, answer_at, none_near_in, status_of, messages_of, head_of, Taken, taken, taken_of}
use Rattle.superframe.specs.Checks.{Headed, headed, apart-head, apart-rate, apart-size, apart-symbol, apart_fits}
use Rattle.superframe.specs.Hard.{hard-none, hard-some, hard-long, within-near, near_within}

-- ---- the words of a frame

pub word_long : (frame : List ℕ) (v : ℕ) → length (word_in frame v) ≡ places
unfolding word_in
word_long frame v = listed-length places (λ p. symbol_in frame (words * p + v))

pub word_at : (frame : List ℕ) (v p : ℕ) → p < places → get_or (word_in frame v) p 0 ≡ symbol_in frame (words * p + v)
unfolding word_in
word_at frame v p h = listed_at places p (λ q. symbol_in frame (words * q + v)) 0 h

pub symbols-small : (frame : List ℕ) → length frame ≡ frame_length → ((s : ℕ) → s < symbol_count → symbol_in frame s < symbols)
    → all_below symbols (drop head_length frame) ≡ true
unfolding symbol_in
symbols-small frame long small =
    T_true (all_below symbols (drop head_length frame))
    (all_below-from symbols (drop head_length frame)
    (λ s h. subst (λ x. x < symbols) (sym (get_or-drop head_length frame s 0)) (small s (omega (arith, length-drop head_length frame)))))

module _ (frame : List ℕ) (long : length frame ≡ frame_length) (small : all_below symbols (drop head_length frame) ≡ true) where
  pub symbol-below : (s : ℕ) → s < symbol_count → symbol_in frame s < symbols
  unfolding symbol_in
  symbol-below s h =
      subst (λ x. x < symbols) (get_or-drop head_length frame s 0)
      (all_below-at symbols (drop head_length frame) (true-T (all_below symbols (drop head_length frame)) small) s (omega (arith, length-drop head_length frame)))

  pub in-word : (v : ℕ) → v < words → (length (word_in frame v) ≡ places) × (all_below symbols (word_in frame v) ≡ true)
  in-word v h = (
    word_long frame v,
    T_true (all_below symbols (word_in frame v))
        (all_below-from symbols (word_in frame v)
        (λ p l.
        let b : p < places = omega (arith, word_long frame v) in
        subst (λ x. x < symbols) (sym (word_at frame v p b)) (symbol-below (words * p + v) (omega arith)))),
  )

  module _ (k : ℕ) (known : known_rate k ≡ true) (part : List ℕ) (v : ℕ) (h : v < words) where
    pub answer-none : near_by k [] (word_in frame v) ≡ none → answer_at k frame part v ≡ refused_closing none_near part (replicate report_length 0)
    unfolding answer_at
    answer-none e = let w = in-word v h in hard-none (word_in frame v) w.0 w.1 k known part (replicate report_length 0) e

    pub answer-some : {m : List ℕ} → near_by k [] (word_in frame v) ≡ some m
        → ((answer_at k frame part v).number ≡ accepted) × ((answer_at k frame part v).message ≡ m)
    unfolding answer_at
    answer-some e = let w = in-word v h in hard-some (word_in frame v) w.0 w.1 k known part (replicate report_length 0) e

pub answer-long : (k : ℕ) (frame part : List ℕ) (v : ℕ) → length part ≡ k → length (answer_at k frame part v).message ≡ k
unfolding answer_at
answer-long k frame part v long =
    hard-long k (hard_columns (word_in frame v)) [] part (replicate report_length 0) long (length-replicate {A = ℕ} report_length 0)

-- ---- the status byte

-- what a higher bit adds
higher-bit : (s v n : ℕ) → v < n → (s + 2 ^ n) / 2 ^ v % 2 ≡ s / 2 ^ v % 2
higher-bit s v n h =
    let d : ℕ = n - suc v in
    let e : n ≡ v + suc d = omega arith in
    let f : 2 ^ n ≡ 2 ^ v * (2 ^ d * 2) = ap (λ x. 2 ^ x) e ∙ pow-add 2 v (suc d) ∙ ap (λ x. 2 ^ v * x) (pow-suc 2 d) in
    let g : s + 2 ^ n ≡ (s / 2 ^ v + 2 ^ d * 2) * 2 ^ v + s % 2 ^ v = omega (arith, f, split s v) in
    ap (λ x. x / 2 ^ v % 2) g ∙ ap (λ x. x % 2) (high (s / 2 ^ v + 2 ^ d * 2) v (mod-lt s (pow_pos v))) ∙ omega arith

module _ (named : ℕ → Bool) where
  pub status-less : (n : ℕ) → status_of n named < 2 ^ n
  unfolding status_of
  status-less zero = omega arith
  status-less (suc n) = go (named n) (status-less n)
    where
      go : (b : Bool) → status_of n named < 2 ^ n → status_of n named + cond b (2 ^ n) 0 < 2 ^ suc n
      go true l = omega (arith, pow-suc 2 n)
      go false l = omega (arith, pow-suc 2 n)

  pub status-bit : (n v : ℕ) → v < n → status_of n named / 2 ^ v % 2 ≡ bit (named v)
  unfolding status_of
  status-bit zero v h = absurd (omega arith)
  status-bit (suc n) v h = ⊎_elim (last (named n) refl) (λ l. earlier (named n) l ∙ status-bit n v l) (eq-or-lt_of_le (le_of_suc-le-suc h))
    where
      last : (b : Bool) → named n ≡ b → v ≡ n → (status_of n named + cond b (2 ^ n) 0) / 2 ^ v % 2 ≡ bit (named v)
      last true q e =
          let f : status_of n named + 2 ^ n ≡ 1 * 2 ^ n + status_of n named = omega arith in
          ap (λ x. (status_of n named + 2 ^ n) / 2 ^ x % 2) e ∙ ap (λ x. x / 2 ^ n % 2) f ∙ ap (λ x. x % 2) (high 1 n (status-less n))
          ∙ sym (ap (λ x. bit (named x)) e ∙ ap bit q)
      last false q e =
          let f : status_of n named + 0 ≡ 0 * 2 ^ n + status_of n named = omega arith in
          ap (λ x. (status_of n named + 0) / 2 ^ x % 2) e ∙ ap (λ x. x / 2 ^ n % 2) f ∙ ap (λ x. x % 2) (high 0 n (status-less n))
          ∙ sym (ap (λ x. bit (named x)) e ∙ ap bit q)

      earlier : (b : Bool) → v < n → (status_of n named + cond b (2 ^ n) 0) / 2 ^ v % 2 ≡ status_of n named / 2 ^ v % 2
      earlier true l = higher-bit (status_of n named) v n l
      earlier false l = let z : status_of n named + 0 ≡ status_of n named = omega arith in ap (λ x. x / 2 ^ v % 2) z

  pub status-none : (n : ℕ) → ((v : ℕ) → v < n → named v ≡ false) → status_of n named ≡ 0
  unfolding status_of
  status-none zero h = refl
  status-none (suc n) h =
      ap₂ (λ s b. s + cond b (2 ^ n) 0) (status-none n (λ v l. h v (omega arith))) (h n (omega arith))

-- ---- the parts of the buffer

-- part v of some parts and more behind them
block-before : (k v n : ℕ) (a b : List ℕ) → length a ≡ k * n → v < n → block k v (a ++ b) ≡ block k v a
unfolding block
block-before k v n a b e h =
    let r : k * v + k ≤ k * n = row-end k v n h in
    ap (take k) (drop-append-le (k * v) a b (omega arith))
    ∙ take-append-le k (drop (k * v) a) b (omega (arith, length-drop (k * v) a))

block_last : (k n : ℕ) (a b : List ℕ) → length a ≡ k * n → length b ≡ k → block k n (a ++ b) ≡ b
unfolding block
block_last k n a b e f = ap (take k) (drop_at a b (k * n) e) ∙ take_all k b (omega arith)

pub part-long : (k : ℕ) (messages : List ℕ) → length messages ≡ k * words → (v : ℕ) → v < words → length (block k v messages) ≡ k
part-long k messages long v h = block-length k v messages (omega (arith, row-end k v words h))

module _ (k : ℕ) (frame messages : List ℕ) (long : length messages ≡ k * words) where
  pub messages-long : (n : ℕ) → n ≤ words → length (messages_of n k frame messages) ≡ k * n
  unfolding messages_of
  messages-long zero h = omega arith
  messages-long (suc n) h =
      length-append (messages_of n k frame messages) (answer_at k frame (block k n messages) n).message
      ∙ ap₂ (λ x y. x + y) (messages-long n (omega arith)) (answer-long k frame (block k n messages) n (part-long k messages long n h)) ∙ sym (mul-suc k n)

  pub messages-part : (n v : ℕ) → n ≤ words → v < n → block k v (messages_of n k frame messages) ≡ (answer_at k frame (block k v messages) v).message
  unfolding messages_of
  messages-part zero v h l = absurd (omega arith)
  messages-part (suc n) v h l = ⊎_elim last (λ b. earlier b (messages-part n v (omega arith) b)) (eq-or-lt_of_le (le_of_suc-le-suc l))
    where
      part : List ℕ
      part = (answer_at k frame (block k n messages) n).message

      last : v ≡ n → block k v (messages_of n k frame messages ++ part) ≡ (answer_at k frame (block k v messages) v).message
      last e =
          ap (λ x. block k x (messages_of n k frame messages ++ part)) e
          ∙ block_last k n (messages_of n k frame messages) part (messages-long n (omega arith))
          (answer-long k frame (block k n messages) n (part-long k messages long n h))
          ∙ sym (ap (λ x. (answer_at k frame (block k x messages) x).message) e)

      earlier : v < n → block k v (messages_of n k frame messages) ≡ (answer_at k frame (block k v messages) v).message
          → block k v (messages_of n k frame messages ++ part) ≡ (answer_at k frame (block k v messages) v).message
      earlier b ih = block-before k v n (messages_of n k frame messages) part (messages-long n (omega arith)) b ∙ ih

-- ---- where the checks pass

pub record Passed (frame messages : List ℕ) (rate : ℕ) : Type 0 where
  pub right : Headed frame
  pub rate_byte : get_or frame 3 0 ≡ rate
  pub known : known_rate rate ≡ true
  pub room : length messages ≡ rate * 8
  pub small : all_below 16 (drop 4 frame) ≡ true

module _ (frame messages : List ℕ) (rate : ℕ) (P : Passed frame messages rate) where
  pub taken-passed : taken_of frame messages ≡ taken accepted (status_of words (none_near_in rate frame messages)) (messages_of words rate frame messages)
  taken-passed =
      apart_fits frame messages P.right (ap known_rate P.rate_byte ∙ P.known) (P.room ∙ ap (λ r. r * 8) (sym P.rate_byte)) P.small
      ∙ ap (λ r. taken accepted (status_of words (none_near_in r frame messages)) (messages_of words r frame messages)) P.rate_byte

  -- bit v of the status, and part v of the buffer
  module _ (v : ℕ) (h : v < words) where
    abbrev is_named : ℕ
    is_named = (taken_of frame messages).status / 2 ^ v % 2

    abbrev part_after : List ℕ
    part_after = block rate v (taken_of frame messages).messages

    bit_is : is_named ≡ bit (none_near_in rate frame messages v)
    bit_is = ap (λ (t : Taken). t.status / 2 ^ v % 2) taken-passed ∙ status-bit (none_near_in rate frame messages) words v h

    part-is : part_after ≡ (answer_at rate frame (block rate v messages) v).message
    part-is =
        ap (λ (t : Taken). block rate v t.messages) taken-passed ∙ messages-part rate frame messages P.room words v (omega arith) h

    pub word-none-near : near_by rate [] (word_in frame v) ≡ none → (is_named ≡ 1) × (part_after ≡ block rate v messages)
    unfolding none_near_in refused_closing
    word-none-near e =
        let c = answer-none frame P.right.long P.small rate P.known (block rate v messages) v h e in
        (bit_is ∙ ap (λ (d : Closed). bit (eqb d.number none_near)) c, part-is ∙ ap (λ (d : Closed). d.message) c)

    pub word-given : {m : List ℕ} → near_by rate [] (word_in frame v) ≡ some m → (is_named ≡ 0) × (part_after ≡ m)
    unfolding none_near_in
    word-given e =
        let c = answer-some frame P.right.long P.small rate P.known (block rate v messages) v h e in
        (bit_is ∙ ap (λ n. bit (eqb n none_near)) c.0, part-is ∙ c.1)

    pub word-within : {m : List ℕ} → IsWithin rate [] (word_in frame v) m → (is_named ≡ 0) × (part_after ≡ m)
    word-within w = word-given (within-near rate (word_in frame v) P.known w)

    pub named-exactly : (is_named ≡ 1) ↔ ((m : List ℕ) → IsWithin rate [] (word_in frame v) m → ⊥)
    named-exactly = ((λ e m w. omega (arith, (word-within w).0)), (λ f. go (near_by rate [] (word_in frame v)) refl f))
      where
        go : (o : Option (List ℕ)) → near_by rate [] (word_in frame v) ≡ o → ((m : List ℕ) → IsWithin rate [] (word_in frame v) m → ⊥) → is_named ≡ 1
        go none e f = (word-none-near e).0
        go (some m) e f = absurd (f m (near_within rate (word_in frame v) e))

-- ---- where they do not

pub record Refused (messages : List ℕ) (t : Taken) : Type 0 where
  pub number : ℕ
  pub some_number : number ≢ accepted
  pub answers : t ≡ taken number 0 messages

pub passed-or-refused : (frame messages : List ℕ) → Passed frame messages (get_or frame 3 0) ⊎ Refused messages (taken_of frame messages)
passed-or-refused frame messages = go (ℕ_discrete (head_of frame) 0)
  where
    rate : ℕ
    rate = get_or frame 3 0

    refused : (n : ℕ) → n ≢ 0 → taken_of frame messages ≡ taken n 0 messages → Refused messages (taken_of frame messages)
    refused n other e = record { number = n; some_number = other; answers = e }

    past : (H : Headed frame) (a : Bool) → known_rate rate ≡ a → Dec (length messages ≡ rate * 8) → (b : Bool) → all_below 16 (drop 4 frame) ≡ b
        → Passed frame messages rate ⊎ Refused messages (taken_of frame messages)
    past H false k d b u = inr (refused 1 (omega arith) (apart-rate frame messages H k))
    past H true k (no n) b u = inr (refused 2 (omega arith) (apart-size frame messages H k n))
    past H true k (yes l) false u = inr (refused 3 (omega arith) (apart-symbol frame messages H k l u))
    past H true k (yes l) true u = inl (record { right = H; rate_byte = refl; known = k; room = l; small = u })

    go : Dec (head_of frame ≡ 0) → Passed frame messages rate ⊎ Refused messages (taken_of frame messages)
    go (no n) = inr (refused (head_of frame) n (apart-head frame messages refl n))
    go (yes z) = past (headed frame z) (known_rate rate) refl (ℕ_discrete (length messages) (rate * 8)) (all_below 16 (drop 4 frame)) refl

pub refused-status : (frame messages : List ℕ) {n s : ℕ} {after : List ℕ} → n ≢ accepted → taken n s after ≡ taken_of frame messages → s ≡ 0
refused-status frame messages {n} {s} {after} other e = ⊎_elim passed refused (passed-or-refused frame messages)
  where
    passed : Passed frame messages (get_or frame 3 0) → s ≡ 0
    passed P = absurd (other (ap (λ (t : Taken). t.number) (e ∙ taken-passed frame messages (get_or frame 3 0) P)))

    refused : Refused messages (taken_of frame messages) → s ≡ 0
    refused R = ap (λ (t : Taken). t.status) (e ∙ R.answers)
