-- The numbers and the checks of document 02, #113, with the numbers that it states.
--
--   numbers                8 words, 4 bytes of head, 512 symbols, 516 bytes; version 1, and 513 as its high and its low byte
--   build-rate, build-size, build-symbol   building 'checks rate, buffers and symbols in that order': 1 if the rate is none from 6 to 52, 2 if the messages
--                          are not 8k bytes or the frame is not 516, 3 if a symbol is above 15, the frame as it was
--   build-fits             0 and the superframe where all of them pass
--   apart-total, apart-version, apart-length   14 'first of all': the total is not 516 bytes, the version is not 1, the length is not 513, in that order
--   Headed frame           these three pass; headed, head-right: exactly where the head answers 0; head-total, head-version, head-length: else it answers 14
--   apart-rate, apart-size, apart-symbol   then 1, 2 and 3 for an unknown rate, a buffer that is not of 8k bytes, and a symbol above 15; at each refusal the
--                          status is 0 and the buffer as it was
--   apart_fits             0, the status and the parts where all of them pass
use Rattle.std.specs.Prelude.{Bool, ◌&&◌, ◌≡◌, List, ◌≢◌, ◌⊎◌, ℕ, ◌+◌, ◌*◌, eqb, length, get_or, drop}
use Rattle.std.proofs.Math.Bool.{true, false, cond}
use Rattle.std.proofs.Math.Path.{refl}
use Rattle.std.proofs.Common.{sym, ap, ◌∙◌, inl, inr, arith}
use Rattle.std.proofs.Math.Decide.{ℕ_discrete}
use borrow.Author.Tests.{eq-eqb, ne_eqb}
use Rattle.lists.specs.Words.{all_below}
use Rattle.refusals.specs.Refusal.{accepted, wrong_superframe}
use Rattle.family.specs.Calls.{outcome}
use Rattle.code.specs.Encoding.{known_rate}
use Rattle.superframe.specs.Superframe.{words, head_length, symbol_count, frame_length, version, length_high, length_low, built_of, build_of, none_near_in, status_of, messages_of, head_of, taken, apart_of, taken_of}

pub numbers : (words ≡ 8) × (head_length ≡ 4) × (symbol_count ≡ 512) × (frame_length ≡ 516) × (version ≡ 1) × (length_high ≡ 2) × (length_low ≡ 1) × (length_high * 256 + length_low ≡ 513)
numbers = (refl, refl, refl, refl, refl, refl, refl, refl)

-- ---- building

module _ (rate : ℕ) (messages frame : List ℕ) where
  pub build-rate : known_rate rate ≡ false → build_of rate messages frame ≡ outcome 1 frame
  unfolding build_of
  build-rate e = rw e

  module _ (known : known_rate rate ≡ true) where
    pub build-size : (length messages ≢ rate * 8) ⊎ (length frame ≢ 516) → build_of rate messages frame ≡ outcome 2 frame
    unfolding build_of
    build-size (inl n) = rw (known, ne_eqb (length messages) (rate * 8) n)
    build-size (inr n) = rw (known, ne_eqb (length frame) 516 n) (go (eqb (length messages) (rate * 8)))
      where
        go : (b : Bool)
            → cond (b && false) (cond (all_below 16 messages) (outcome 0 (built_of rate messages)) (outcome 3 frame)) (outcome 2 frame) ≡ outcome 2 frame
        go true = refl
        go false = refl

    module _ (sized : length messages ≡ rate * 8) (whole : length frame ≡ 516) where
      pub build-symbol : all_below 16 messages ≡ false → build_of rate messages frame ≡ outcome 3 frame
      unfolding build_of
      build-symbol e = rw (known, eq-eqb (length messages) (rate * 8) sized, eq-eqb (length frame) 516 whole, e)

      pub build-fits : all_below 16 messages ≡ true → build_of rate messages frame ≡ outcome 0 (built_of rate messages)
      unfolding build_of
      build-fits e = rw (known, eq-eqb (length messages) (rate * 8) sized, eq-eqb (length frame) 516 whole, e)

-- ---- the head

pub record Headed (frame : List ℕ) : Type 0 where
  pub long : length frame ≡ 516
  pub version_byte : get_or frame 0 0 ≡ 1
  pub high_byte : get_or frame 1 0 ≡ 2
  pub low_byte : get_or frame 2 0 ≡ 1

module _ (frame : List ℕ) where
  pub head-total : length frame ≢ 516 → head_of frame ≡ 14
  unfolding head_of
  head-total n = rw (ne_eqb (length frame) 516 n)

  module _ (whole : length frame ≡ 516) where
    pub head-version : get_or frame 0 0 ≢ 1 → head_of frame ≡ 14
    unfolding head_of
    head-version n = rw (eq-eqb (length frame) 516 whole, ne_eqb (get_or frame 0 0) 1 n)

    pub head-length : get_or frame 0 0 ≡ 1 → (get_or frame 1 0 ≢ 2) ⊎ (get_or frame 2 0 ≢ 1) → head_of frame ≡ 14
    unfolding head_of
    head-length first (inl n) = rw (eq-eqb (length frame) 516 whole, eq-eqb (get_or frame 0 0) 1 first, ne_eqb (get_or frame 1 0) 2 n)
    head-length first (inr n) =
        rw (eq-eqb (length frame) 516 whole, eq-eqb (get_or frame 0 0) 1 first, ne_eqb (get_or frame 2 0) 1 n) (go (eqb (get_or frame 1 0) 2))
      where
        go : (b : Bool) → cond (b && false) accepted wrong_superframe ≡ 14
        go true = refl
        go false = refl

  pub head-right : Headed frame → head_of frame ≡ 0
  unfolding head_of
  head-right H =
      rw (
        eq-eqb (length frame) 516 H.long,
        eq-eqb (get_or frame 0 0) 1 H.version_byte,
        eq-eqb (get_or frame 1 0) 2 H.high_byte,
        eq-eqb (get_or frame 2 0) 1 H.low_byte,
      )

  pub headed : head_of frame ≡ 0 → Headed frame
  headed e = go (ℕ_discrete (length frame) 516) (ℕ_discrete (get_or frame 0 0) 1) (ℕ_discrete (get_or frame 1 0) 2) (ℕ_discrete (get_or frame 2 0) 1)
    where
      wrong : head_of frame ≡ 14 → Headed frame
      wrong w = absurd (omega (arith, e, w))

      go : Dec (length frame ≡ 516) → Dec (get_or frame 0 0 ≡ 1) → Dec (get_or frame 1 0 ≡ 2) → Dec (get_or frame 2 0 ≡ 1) → Headed frame
      go (no n) b c d = wrong (head-total n)
      go (yes l) (no n) c d = wrong (head-version l n)
      go (yes l) (yes v) (no n) d = wrong (head-length l v (inl n))
      go (yes l) (yes v) (yes h) (no n) = wrong (head-length l v (inr n))
      go (yes l) (yes v) (yes h) (yes w) = record { long = l; version_byte = v; high_byte = h; low_byte = w }

-- ---- taking apart

module _ (frame messages : List ℕ) where
  pub apart-head : {n : ℕ} → head_of frame ≡ n → n ≢ 0 → taken_of frame messages ≡ taken n 0 messages
  unfolding taken_of
  apart-head e n = rw (ne_eqb (head_of frame) 0 (λ z. n (sym e ∙ z))) (ap (λ m. taken m 0 messages) e)

  pub apart-total : length frame ≢ 516 → taken_of frame messages ≡ taken 14 0 messages
  apart-total n = apart-head (head-total frame n) (omega arith)

  pub apart-version : length frame ≡ 516 → get_or frame 0 0 ≢ 1 → taken_of frame messages ≡ taken 14 0 messages
  apart-version whole n = apart-head (head-version frame whole n) (omega arith)

  pub apart-length : length frame ≡ 516 → get_or frame 0 0 ≡ 1 → get_or frame 1 0 * 256 + get_or frame 2 0 ≢ 513 → taken_of frame messages ≡ taken 14 0 messages
  apart-length whole first n = go (ℕ_discrete (get_or frame 1 0) 2)
    where
      go : Dec (get_or frame 1 0 ≡ 2) → taken_of frame messages ≡ taken 14 0 messages
      go (no m) = apart-head (head-length frame whole first (inl m)) (omega arith)
      go (yes e) = apart-head (head-length frame whole first (inr (λ l. n (omega (arith, e, l))))) (omega arith)

  -- past the head, by the rate in byte 3
  module _ (right : Headed frame) where
    abbrev rate : ℕ
    rate = get_or frame 3 0

    by-rate : taken_of frame messages ≡ apart_of rate frame messages
    unfolding taken_of
    by-rate = rw (eq-eqb (head_of frame) 0 (head-right frame right))

    pub apart-rate : known_rate rate ≡ false → taken_of frame messages ≡ taken 1 0 messages
    unfolding apart_of
    apart-rate e = by-rate ∙ rw e

    module _ (known : known_rate rate ≡ true) where
      pub apart-size : length messages ≢ rate * 8 → taken_of frame messages ≡ taken 2 0 messages
      unfolding apart_of
      apart-size n = by-rate ∙ rw (known, ne_eqb (length messages) (rate * 8) n)

      module _ (sized : length messages ≡ rate * 8) where
        pub apart-symbol : all_below 16 (drop 4 frame) ≡ false → taken_of frame messages ≡ taken 3 0 messages
        unfolding apart_of
        apart-symbol e = by-rate ∙ rw (known, eq-eqb (length messages) (rate * 8) sized, e)

        pub apart_fits : all_below 16 (drop 4 frame) ≡ true
            → taken_of frame messages ≡ taken 0 (status_of 8 (none_near_in rate frame messages)) (messages_of 8 rate frame messages)
        unfolding apart_of
        apart_fits e = by-rate ∙ rw (known, eq-eqb (length messages) (rate * 8) sized, e)
