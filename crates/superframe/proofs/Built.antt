-- The bytes of a superframe, one by one, and what building answers by the checks that led to it.
use mathlib.Core.Bool.{true}
use mathlib.Core.Path.{◌≡◌, sym, ap, ◌∙◌}
use mathlib.Core.List.{List, []}
use Prim.Native.Nat.{ℕ, suc, ◌+◌, ◌-◌, ◌*◌, ◌/◌, ◌%◌, ◌<◌, ◌≤◌}
use native.Mathlib.Omega.{arith}
use lib.ListN.{length, get_or, take, drop, length-take}
use Rattle.lists.specs.Block.{block}
use Rattle.lists.specs.Listed.{listed, listed_at, listed-length, listed-get_d}
use Rattle.lists.specs.Over.{over, over-same}
use Rattle.lists.specs.Words.{all_below}
use Rattle.refusals.specs.Refusal.{accepted}
use Rattle.soft.specs.Column.{symbols}
use Rattle.family.specs.Member.{m16}
use Rattle.family.specs.Calls.{outcome}
use Rattle.family.specs.Evaluation.{encode-beyond}
use Rattle.code.specs.Encoding.{encode_of, known_rate}
use Rattle.code.specs.Rates.{longest, known-bounds}
use Rattle.superframe.specs.Superframe.{words, head_length, symbol_count, frame_length, version, length_high, length_low, sent_word, symbol_of, frame_of, built_of, build_of}
use Rattle.superframe.specs.Checks.{build-fits}

-- ---- the codeword of one message, read in its place
pub part-encoded : (rate : ℕ) (messages : List ℕ) (v : ℕ) → known_rate rate ≡ true
    → encode_of longest (take (rate * v + rate - rate * v) (drop (rate * v) messages)) ≡ sent_word rate messages v
unfolding sent_word block
part-encoded rate messages v known =
    let e : rate * v + rate - rate * v ≡ rate = omega arith in
    let part : List ℕ = take rate (drop (rate * v) messages) in
    let short : length part ≤ rate = omega (arith, length-take rate (drop (rate * v) messages)) in
    ap (λ k. encode_of longest (take k (drop (rate * v) messages))) e
    ∙ encode-beyond m16 longest rate part (omega (arith, known-bounds rate known)) short

-- ---- bytes
module _ (rate : ℕ) (sent : List (List ℕ)) where
  abbrev pub byte_in : ℕ → ℕ
  byte_in i = get_or (frame_of rate sent) i 0

  pub frame-long : length (frame_of rate sent) ≡ frame_length
  unfolding frame_of
  frame-long = omega (arith, listed-length symbol_count (symbol_of sent))

  pub byte-version : {i : ℕ} → i ≡ 0 → version ≡ byte_in i
  unfolding frame_of
  byte-version e = sym (ap (byte_in) e)

  pub byte_high : {i : ℕ} → i ≡ 1 → length_high ≡ byte_in i
  unfolding frame_of
  byte_high e = sym (ap (byte_in) e)

  pub byte_low : {i : ℕ} → i ≡ 2 → length_low ≡ byte_in i
  unfolding frame_of
  byte_low e = sym (ap (byte_in) e)

  pub byte-rate : {i : ℕ} → i ≡ 3 → rate ≡ byte_in i
  unfolding frame_of
  byte-rate e = sym (ap (byte_in) e)

  -- place s / 8 of word s % 8
  pub byte-symbol : (i : ℕ) → head_length ≤ i → i < frame_length
      → get_or (get_or sent ((i - head_length) % words) []) ((i - head_length) / words) 0 ≡ byte_in i
  unfolding frame_of symbol_of
  byte-symbol i l h =
      let e : i ≡ suc (suc (suc (suc (i - head_length)))) = omega arith in
      sym (ap (byte_in) e ∙ listed_at symbol_count (i - head_length) (symbol_of sent) 0 (omega arith))

  pub frame_made : {out : List ℕ} → out ≡ listed frame_length (byte_in) → out ≡ frame_of rate sent
  frame_made e = e ∙ ap (λ n. listed n (byte_in)) (sym frame-long) ∙ listed-get_d (frame_of rate sent) 0

-- ---- the call
pub build-done : (rate : ℕ) (messages frame : List ℕ) → known_rate rate ≡ true → length messages ≡ rate * words → length frame ≡ frame_length
    → all_below symbols messages ≡ true → {sent : List (List ℕ)} {bytes after : List ℕ} → sent ≡ listed words (sent_word rate messages)
    → bytes ≡ frame_of rate sent → after ≡ over bytes frame → outcome accepted after ≡ build_of rate messages frame
unfolding built_of
build-done rate messages frame known sized whole small {sent} {bytes} {after} es eb ea =
    let is : after ≡ frame_of rate (listed words (sent_word rate messages)) =
    ea ∙ over-same bytes frame (whole ∙ sym (ap length eb ∙ frame-long rate sent)) ∙ eb ∙ ap (frame_of rate) es in
    ap (outcome accepted) is ∙ sym (build-fits rate messages frame known sized whole small)
