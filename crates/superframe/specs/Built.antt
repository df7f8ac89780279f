-- A superframe that was built: what it holds, and that taking it apart gives the messages back.
--
--   Sent k messages        what building asks: a known rate and eight messages of k symbols; zeros-sent: eight messages of zeros are such
--   build-sent             so building answers 0 and the superframe
--   framed rate symbol     the head of a superframe with this rate, and the symbols that a rule gives
--   framed-long, framed-head, framed-symbol   its 516 bytes: the head does not depend on the symbols, and behind it stand the symbols
--   sent-long, sent-below  a word that is sent has 64 places with a symbol at each
--   built-framed, built-long, built-bytes, built-head   a built superframe is such a frame: its length, and the bytes of its head
--   Layout, built-layout   document 02's bytes, with its numbers: 516, 1, 513, the rate, and place p of word v as symbol number 8p + v
--   built-symbol, built-place, built-below, built-word   its symbols, each below 16, are those of the words that are sent, and its words are these
--   alike-passed           a frame with its head, and symbols behind it, passes the checks; built-passed: so it does itself
--   message-word           each message is one
--   all_back               where the codeword of each message is within T of its word, all messages come back and no word is named
--   built-taken            so where nothing is altered
use Rattle.std.specs.Prelude.{true, ◌≡◌, length, replicate}
use Rattle.std.proofs.Math.Path.{refl, sym, ap, ap₂, subst}
use Rattle.std.proofs.Common.{◌∙◌, get_or-drop}
use mathlib.Core.List.{List, [], ◌∷◌}
use Prim.Native.Nat.{ℕ, zero, suc, ◌+◌, ◌*◌, ◌/◌, ◌%◌, ◌<◌, ◌≤◌}
use native.Mathlib.Omega.{arith}
use Rattle.std.proofs.Math.Dec.{eqb}
use Rattle.std.proofs.Math.ListN.{get_or}
use Rattle.std.proofs.lemmas.List.{length-replicate, get_or-replicate}
use Rattle.lists.specs.Block.{block, block_at, block-ext, row-end}
use Rattle.lists.specs.Every.{true-T, T_true}
use Rattle.lists.specs.Listed.{listed, listed-length, listed_at, listed_by}
use Rattle.lists.specs.Words.{all_below, all_below-at, all_below-from, Word}
use Rattle.refusals.specs.Refusal.{accepted, none_near}
use Rattle.soft.specs.Column.{places, symbols}
use Rattle.soft.specs.Total.{differing_in}
use Rattle.soft.specs.TotalLaws.{differing-self, differing-fewer}
use Rattle.family.specs.Member.{m16}
use Rattle.family.specs.Evaluation.{encode-length, encode-at}
use Rattle.family.specs.Calls.{outcome}
use Rattle.code.specs.Encoding.{encode_of, known_rate}
use Rattle.code.specs.Rates.{known-bounds}
use Rattle.near.specs.Here.{reach_of}
use Rattle.book64.specs.engine.Engine.{unblanked_by}
use Rattle.book64.specs.engine.EngineLaws.{IsWithin}
use Rattle.superframe.specs.Superframe.{words, head_length, symbol_count, frame_length, version, length_high, length_low, sent_word, symbol_of, frame_of, built_of, build_of, symbol_in, word_in, answer_at, none_near_in, messages_of, taken, taken_of}
use Rattle.superframe.specs.Checks.{build-fits}
use Rattle.superframe.specs.Hard.{within-near}
use Rattle.superframe.specs.Laws.{symbols-small, answer-some, status-none, part-long, messages-long, messages-part, Passed, taken-passed}

-- ---- building

pub record Sent (k : ℕ) (messages : List ℕ) : Type 0 where
  pub known : known_rate k ≡ true
  pub long : length messages ≡ k * words
  pub small : all_below symbols messages ≡ true

pub zeros-sent : (k : ℕ) → known_rate k ≡ true → Sent k (replicate (k * words) 0)
zeros-sent k known =
    record {
      known = known;
      long = length-replicate (k * words) 0;
      small =
          T_true (all_below symbols (replicate (k * words) 0))
          (all_below-from symbols (replicate (k * words) 0)
          (λ i h. omega (arith, get_or-replicate {A = ℕ} (k * words) i 0 0 (omega (arith, length-replicate {A = ℕ} (k * words) 0)))));
    }

pub build-sent : (k : ℕ) (messages frame : List ℕ) → Sent k messages → length frame ≡ frame_length
    → build_of k messages frame ≡ outcome accepted (built_of k messages)
build-sent k messages frame S whole = build-fits k messages frame S.known S.long whole S.small

-- ---- a head, and symbols behind it

unfoldable pub framed : ℕ → (ℕ → ℕ) → List ℕ
framed rate symbol = version ∷ length_high ∷ length_low ∷ rate ∷ listed symbol_count symbol

module _ (rate : ℕ) (symbol : ℕ → ℕ) where
  pub framed-long : length (framed rate symbol) ≡ frame_length
  unfolding framed
  framed-long = omega (arith, listed-length symbol_count symbol)

  pub framed-head : (other : ℕ → ℕ) (i : ℕ) → i < head_length → get_or (framed rate symbol) i 0 ≡ get_or (framed rate other) i 0
  unfolding framed
  framed-head other zero h = refl
  framed-head other (suc zero) h = refl
  framed-head other (suc (suc zero)) h = refl
  framed-head other (suc (suc (suc zero))) h = refl
  framed-head other (suc (suc (suc (suc i)))) h = absurd (omega arith)

  pub framed-symbol : (s : ℕ) → s < symbol_count → symbol_in (framed rate symbol) s ≡ symbol s
  unfolding framed symbol_in
  framed-symbol s h = sym (get_or-drop head_length (framed rate symbol) s 0) ∙ listed_at symbol_count s symbol 0 h

-- ---- the words that are sent

-- version 1, a length of 513, the rate, and place p of word v as symbol number 8p + v
pub record Layout (k : ℕ) (messages frame : List ℕ) : Type 0 where
  pub size : length frame ≡ 516
  pub version_byte : get_or frame 0 0 ≡ 1
  pub length_bytes : get_or frame 1 0 * 256 + get_or frame 2 0 ≡ 513
  pub rate_byte : get_or frame 3 0 ≡ k
  pub symbol : (p v : ℕ) → p < 64 → v < 8 → get_or frame (4 + (8 * p + v)) 0 ≡ get_or (encode_of k (block k v messages)) p 0

module _ (k : ℕ) (messages : List ℕ) where
  pub sent-long : (v : ℕ) → length (sent_word k messages v) ≡ places
  unfolding sent_word
  sent-long v = encode-length m16 k (block k v messages)

  pub sent-below : (v p : ℕ) → p < places → get_or (sent_word k messages v) p 0 < symbols
  unfolding sent_word
  sent-below v p h = encode-at m16 k (block k v messages) p h

  abbrev sent : List (List ℕ)
  sent = listed words (sent_word k messages)

  pub built-framed : built_of k messages ≡ framed k (symbol_of sent)
  unfolding built_of frame_of framed
  built-framed = refl

  pub built-long : length (built_of k messages) ≡ frame_length
  built-long = ap length built-framed ∙ framed-long k (symbol_of sent)

  pub built-bytes : (get_or (built_of k messages) 0 0 ≡ 1) × (get_or (built_of k messages) 1 0 ≡ 2) × (get_or (built_of k messages) 2 0 ≡ 1)
      × (get_or (built_of k messages) 3 0 ≡ k)
  unfolding built_of frame_of
  built-bytes = (refl, refl, refl, refl)

  pub built-head : (other : ℕ → ℕ) (i : ℕ) → i < head_length → get_or (framed k other) i 0 ≡ get_or (built_of k messages) i 0
  built-head other i h = framed-head k other (symbol_of sent) i h ∙ ap (λ (l : List ℕ). get_or l i 0) (sym built-framed)

  pub built-symbol : (s : ℕ) → s < symbol_count → symbol_in (built_of k messages) s ≡ get_or (sent_word k messages (s % words)) (s / words) 0
  unfolding symbol_of
  built-symbol s h =
      ap (λ (l : List ℕ). symbol_in l s) built-framed ∙ framed-symbol k (symbol_of sent) s h
      ∙ ap (λ (w : List ℕ). get_or w (s / words) 0) (listed_at words (s % words) (sent_word k messages) [] (omega arith))

  pub built-place : (p v : ℕ) → p < places → v < words → symbol_in (built_of k messages) (words * p + v) ≡ get_or (sent_word k messages v) p 0
  built-place p v b h =
      let r : (words * p + v) % words ≡ v = omega arith in
      let q : (words * p + v) / words ≡ p = omega arith in
      built-symbol (words * p + v) (omega arith) ∙ ap₂ (λ u i. get_or (sent_word k messages u) i 0) r q

  pub built-layout : Layout k messages (built_of k messages)
  unfolding symbol_in sent_word
  built-layout =
      record {
        size = built-long;
        version_byte = built-bytes.0;
        length_bytes = omega (arith, built-bytes.1, built-bytes.2);
        rate_byte = built-bytes.3;
        symbol = built-place;
      }

  pub built-word : (v : ℕ) → v < words → word_in (built_of k messages) v ≡ sent_word k messages v
  unfolding word_in
  built-word v h =
      sym
      (listed_by 0 places (sent_word k messages v) (λ p. symbol_in (built_of k messages) (words * p + v)) (sent-long v) (λ p b. sym (built-place p v b h)))

  pub built-below : (s : ℕ) → s < symbol_count → symbol_in (built_of k messages) s < symbols
  built-below s h = subst (λ x. x < symbols) (sym (built-symbol s h)) (sent-below (s % words) (s / words) (omega arith))

  -- a frame of the same head with symbols behind it
  pub alike-passed : Sent k messages → (frame out : List ℕ) → length frame ≡ frame_length
      → ((i : ℕ) → i < head_length → get_or frame i 0 ≡ get_or (built_of k messages) i 0) → ((s : ℕ) → s < symbol_count → symbol_in frame s < symbols)
      → length out ≡ k * words → Passed frame out k
  alike-passed S frame out long head small room =
      record {
        right = record {
          long = long;
          version_byte = head 0 (omega arith) ∙ built-bytes.0;
          high_byte = head 1 (omega arith) ∙ built-bytes.1;
          low_byte = head 2 (omega arith) ∙ built-bytes.2;
        };
        rate_byte = head 3 (omega arith) ∙ built-bytes.3;
        known = S.known;
        room = room;
        small = symbols-small frame long small;
      }

  pub built-passed : Sent k messages → (out : List ℕ) → length out ≡ k * words → Passed (built_of k messages) out k
  built-passed S out room = alike-passed S (built_of k messages) out built-long (λ i h. refl) built-below room

  -- ---- taken apart again

  pub message-word : Sent k messages → (v : ℕ) → v < words → Word symbols k (block k v messages)
  message-word S v h =
      record {
        size = part-long k messages S.long v h;
        symbols =
            all_below-from symbols (block k v messages)
            (λ i b.
            let l : i < k = omega (arith, part-long k messages S.long v h) in
            subst (λ x. x < symbols) (sym (block_at k v messages i 0 l))
            (all_below-at symbols messages (true-T (all_below symbols messages) S.small) (k * v + i) (omega (arith, row-end k v words h, S.long))));
      }

  pub all_back : Sent k messages → (frame out : List ℕ) → Passed frame out k
      → ((v : ℕ) → v < words → IsWithin k [] (word_in frame v) (block k v messages)) → taken_of frame out ≡ taken accepted 0 messages
  unfolding none_near_in
  all_back S frame out P near =
      taken-passed frame out k P
      ∙ ap₂ (taken accepted) (status-none (none_near_in k frame out) words (λ v h. ap (λ n. eqb n none_near) (answer v h).0))
      (block-ext 0 k words (messages_of words k frame out) messages (omega (arith, known-bounds k S.known))
      (messages-long k frame out P.room words (omega arith)) S.long
      (λ v h. messages-part k frame out P.room words v (omega arith) h ∙ (answer v h).1))
    where
      answer : (v : ℕ) → v < words
          → ((answer_at k frame (block k v out) v).number ≡ accepted) × ((answer_at k frame (block k v out) v).message ≡ block k v messages)
      answer v h =
          answer-some frame P.right.long P.small k P.known (block k v out) v h (within-near k (word_in frame v) P.known (near v h))

  pub built-taken : Sent k messages → (out : List ℕ) → length out ≡ k * words → taken_of (built_of k messages) out ≡ taken accepted 0 messages
  unfolding sent_word
  built-taken S out room =
      all_back S (built_of k messages) out (built-passed S out room)
      (λ v h.
      record {
        message = message-word S v h;
        close =
            subst (λ w. differing_in (unblanked_by []) places (sent_word k messages v) w ≤ reach_of k 0) (sym (built-word v h))
            (omega (
              arith,
              differing-fewer (unblanked_by []) places (sent_word k messages v) (sent_word k messages v),
              differing-self places (sent_word k messages v) (omega (arith, sent-long v)),
            ));
      })
