-- 'Reading back gives the message of every codeword and refuses every other word', of the call (demand 2): the family's, at this member.
--
--   codeword-read     at a known rate, and into a buffer of k bytes, the codeword of a message is accepted, and the buffer then holds the message
--   other-refused     a word of 64 symbols that is no codeword is refused with 8, and the buffer stays
--   accepted-codeword whatever the arguments, what is accepted is the codeword of the message in the buffer afterwards
use Rattle.std.specs.Prelude.{true, ◌≡◌, List, ℕ, length}
use Rattle.refusals.specs.Refusal.{accepted, no_codeword}
use Rattle.lists.specs.Words.{Word}
use Rattle.family.specs.Member.{m16}
use Rattle.family.specs.Calls.{outcome}
use Rattle.family.specs.CallLaws as Family
use Rattle.code.specs.Encoding.{encode_of, known_rate}
use Rattle.code.specs.Rates.{known-few}
use Rattle.code.specs.Calls.{read_back_call}

module _ (k : ℕ) (known : known_rate k ≡ true) (buffer : List ℕ) (size : length buffer ≡ k) where
  pub codeword-read : (m : List ℕ) → Word 16 k m → read_back_call k (encode_of k m) buffer ≡ outcome accepted m
  codeword-read = Family.codeword-read m16 known_rate k known buffer size (known-few k known)

  pub other-refused : (word : List ℕ) → Word 16 64 word → ((m : List ℕ) → Word 16 k m → encode_of k m ≡ word → ⊥)
      → read_back_call k word buffer ≡ outcome no_codeword buffer
  other-refused = Family.other-refused m16 known_rate k known buffer size

pub accepted-codeword : (rate : ℕ) (word buffer : List ℕ) → (read_back_call rate word buffer).number ≡ accepted
    → (encode_of rate (read_back_call rate word buffer).buffer ≡ word) × Word 16 rate (read_back_call rate word buffer).buffer
accepted-codeword = Family.accepted-codeword m16 known_rate
