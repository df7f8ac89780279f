-- What encoding and reading back return and leave in the caller's buffer, for all arguments, in the order of document 01's checks: for
-- every member, and any rates that are known.
--
--   Answered            a number returned and the lent buffer afterwards
--   checked b n l o     refused with n, the buffer l unchanged, unless the test b passes; else the outcome o
--   fits_frame           there are so many bytes of the frame from the start as there are places
--   placed frame start word   the frame with the word in it from the start; the other bytes stay
--   encode_sizes, read_back_sizes   the buffers have the right sizes
--   encode_call          encode: rate; message of k bytes and room in the frame; symbols
--   read_back_call        read back: rate; word of all places and message buffer of k bytes; symbols; codeword
use Rattle.std.specs.Prelude.{Bool, true, false, List, ◌++◌, ℕ, ◌+◌, eqb, leb, length, take, drop}
use Rattle.std.proofs.Math.Option.{Option, some, none}
use Rattle.lists.specs.Every.{both}
use Rattle.lists.specs.Words.{all_below}
use Rattle.refusals.specs.Refusal.{accepted, unknown_rate, wrong_size, no_symbol, no_codeword}
use Rattle.family.specs.Member.{Member, symbols, places}
use Rattle.family.specs.Encoding.{encode_of, read_back_of}

pub record Answered : Type 0 where
  pub number : ℕ
  pub buffer : List ℕ

abbrev pub outcome : ℕ → List ℕ → Answered
outcome n l = record { number = n; buffer = l }

abbrev pub checked : Bool → ℕ → List ℕ → Answered → Answered
checked true n l o = o
checked false n l o = outcome n l

unfoldable pub placed : List ℕ → ℕ → List ℕ → List ℕ
placed frame start word = take start frame ++ (word ++ drop (start + length word) frame)

-- a message found is written; where there is none the buffer stays
abbrev pub found : Option (List ℕ) → List ℕ → Answered
found none l = outcome no_codeword l
found (some m) l = outcome accepted m

module _ (𝓜 : Member) where
  unfoldable pub fits_frame : List ℕ → ℕ → Bool
  fits_frame frame start = leb (start + places 𝓜) (length frame)

  -- the message has k bytes, and the frame as many from the start as there are places
  abbrev pub encode_sizes : ℕ → List ℕ → List ℕ → ℕ → Bool
  encode_sizes rate message frame start = both (eqb (length message) rate) (fits_frame frame start)

  -- the word has a byte for each place, and the buffer k
  abbrev pub read_back_sizes : ℕ → List ℕ → List ℕ → Bool
  read_back_sizes rate word message = both (eqb (length word) (places 𝓜)) (eqb (length message) rate)

  module _ (known : ℕ → Bool) where
    unfoldable pub encode_call : ℕ → List ℕ → List ℕ → ℕ → Answered
    encode_call rate message frame start =
        checked (known rate) unknown_rate frame
        (checked (encode_sizes rate message frame start) wrong_size frame (checked (all_below (symbols 𝓜) message) no_symbol frame
        (outcome accepted (placed frame start (encode_of 𝓜 rate message)))))

    unfoldable pub read_back_call : ℕ → List ℕ → List ℕ → Answered
    read_back_call rate word message =
        checked (known rate) unknown_rate message
        (checked (read_back_sizes rate word message) wrong_size message (checked (all_below (symbols 𝓜) word) no_symbol message
        (found (read_back_of 𝓜 rate word) message)))
