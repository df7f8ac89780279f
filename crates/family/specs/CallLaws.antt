-- 'Reading back gives the message of every codeword and refuses every other word', of the call (demand 2), for every member.
--
--   codeword-read     at a known rate up to n − g, and into a buffer of k bytes, the codeword of a message is accepted, and the buffer then holds the message
--   other-refused     a word of symbols that is no codeword is refused with 8, and the buffer stays
--   accepted-codeword whatever the arguments, what is accepted is the codeword of the message in the buffer afterwards
use Rattle.std.specs.Prelude.{Bool, ◌≡◌, List, ℕ, ◌-◌, ◌≤◌, length}
use Rattle.std.proofs.Math.Bool.{true, false}
use Rattle.std.proofs.Math.Path.{refl}
use Rattle.std.proofs.Common.{ap, ◌∙◌, arith}
use Rattle.std.proofs.Math.Option.{Option, some, none}
use Rattle.refusals.specs.Refusal.{accepted, unknown_rate, wrong_size, no_symbol, no_codeword}
use Rattle.lists.specs.Every.{T_true}
use Rattle.lists.specs.Words.{Word, all_below}
use Rattle.hermitian.specs.Present.{genus}
use Rattle.family.specs.Member.{Member, symbols, places}
use Rattle.family.specs.Encoding.{encode_of, read_back_of}
use Rattle.family.specs.Calls.{Answered, outcome, checked, found, read_back_sizes, read_back_call}
use Rattle.family.specs.Evaluation.{encode-length, encode-symbols}
use Rattle.family.specs.Laws.{read-encoded, read-accepted, read_none}
use Rattle.family.specs.Answers.{last-check}

module _ (𝓜 : Member) (known : ℕ → Bool) where
  module _ (k : ℕ) (rate : known k ≡ true) (buffer : List ℕ) (size : length buffer ≡ k) where
    pub codeword-read : k ≤ places 𝓜 - genus 𝓜.w → (m : List ℕ) → Word (symbols 𝓜) k m
        → read_back_call 𝓜 known k (encode_of 𝓜 k m) buffer ≡ outcome accepted m
    codeword-read most m w =
        last-check 𝓜 known k (encode_of 𝓜 k m) buffer rate (encode-length 𝓜 k m) size (encode-symbols 𝓜 k m) ∙ ap (λ r. found r buffer) (read-encoded 𝓜 k most m w)

    pub other-refused : (word : List ℕ) → Word (symbols 𝓜) (places 𝓜) word
        → ((m : List ℕ) → Word (symbols 𝓜) k m → encode_of 𝓜 k m ≡ word → ⊥)
        → read_back_call 𝓜 known k word buffer ≡ outcome no_codeword buffer
    other-refused word w other =
        last-check 𝓜 known k word buffer rate w.size size (T_true (all_below (symbols 𝓜) word) w.symbols) ∙ ap (λ r. found r buffer) (read_none 𝓜 k word other)

  -- the call by what its four checks say
  abbrev checks : Bool → Bool → Bool → Option (List ℕ) → List ℕ → Answered
  checks rate sizes small read buffer =
      checked rate unknown_rate buffer (checked sizes wrong_size buffer (checked small no_symbol buffer (found read buffer)))

  pub accepted-codeword : (rate : ℕ) (word buffer : List ℕ) → (read_back_call 𝓜 known rate word buffer).number ≡ accepted
      → (encode_of 𝓜 rate (read_back_call 𝓜 known rate word buffer).buffer ≡ word)
      × Word (symbols 𝓜) rate (read_back_call 𝓜 known rate word buffer).buffer
  unfolding read_back_call
  accepted-codeword rate word buffer =
      go (known rate) (read_back_sizes 𝓜 rate word buffer) (all_below (symbols 𝓜) word) (read_back_of 𝓜 rate word) refl
    where
      go : (a b c : Bool) (read : Option (List ℕ)) → read_back_of 𝓜 rate word ≡ read → (checks a b c read buffer).number ≡ accepted
          → (encode_of 𝓜 rate (checks a b c read buffer).buffer ≡ word) × Word (symbols 𝓜) rate (checks a b c read buffer).buffer
      go false b c read r e = absurd (omega arith)
      go true false c read r e = absurd (omega arith)
      go true true false read r e = absurd (omega arith)
      go true true true none r e = absurd (omega arith)
      go true true true (some m) r e = read-accepted 𝓜 rate word m r
