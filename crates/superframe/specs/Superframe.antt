-- Superframes (document 02, #113): eight codewords of one rate in one frame, and what building and taking apart answer.
--
--   words, head_length, symbol_count, frame_length   8 words; 4 bytes of version, length and rate; 512 symbols; 516 bytes in all
--   version, length_high, length_low   1, and the length of 513 in two bytes, high first
--   sent_word k messages v     the codeword of message v, where the messages of k symbols stand one after the other
--   symbol_of sent s           symbol number s of words: place p of word v is number 8p + v
--   frame_of rate sent         the bytes of a superframe: version, length, rate, and the symbols
--   built_of k messages        the superframe of eight messages
--   build_of rate messages frame   what building answers: 1 if the rate is unknown, 2 if a buffer has another length, 3 if a symbol is above 15, the frame as
--                             it was; else 0 and the superframe
--   symbol_in frame s          symbol number s of a frame
--   word_in frame v            the 64 symbols of word v
--   hard_column                cost 0 for the symbol received and 1 for the others (`soft` Hard)
--   hard_columns word p        the column of each symbol of a word; beyond its last one zeros, as in a session's table (no answer reads them)
--   answer_at k frame part v   what decoding word v by these columns answers, without doubt, and what it leaves of its part of the buffer
--   none_near_in k frame messages v   word v has none near
--   status_of n none           the status byte of the first n words: word v counts 2^v if it is named
--   messages_of n k frame messages   the parts of the first n words, one after the other
--   head_of frame              14 if a frame has not 516 bytes, another version or another length, in that order; else 0
--   Taken, taken_of frame messages   what taking apart answers: that number, 1, 2 or 3, status 0 and the buffer as it was; else 0, the status and the parts
use Rattle.std.specs.Prelude.{Bool, cond, ◌&&◌, List, [], ◌∷◌, ◌++◌, map, ℕ, zero, suc, ◌+◌, ◌*◌, ◌/◌, ◌%◌, ◌^◌, eqb, length, get_or, drop, replicate}
use Rattle.lists.specs.Block.{block}
use Rattle.lists.specs.Listed.{listed}
use Rattle.lists.specs.Words.{all_below}
use Rattle.refusals.specs.Refusal.{accepted, unknown_rate, wrong_size, no_symbol, none_near, wrong_superframe}
use Rattle.soft.specs.Column.{places, symbols}
use Rattle.soft.specs.Hard as Hard
use Rattle.family.specs.Calls.{Answered, outcome}
use Rattle.code.specs.Encoding.{encode_of, known_rate}
use Rattle.book.specs.closing.Closing.{Closed}
use Rattle.book64.specs.Here.{report_length, decode_of}

abbrev pub words : ℕ
words = 8

abbrev pub head_length : ℕ
head_length = 4

abbrev pub symbol_count : ℕ
symbol_count = words * places

abbrev pub frame_length : ℕ
frame_length = head_length + symbol_count

abbrev pub version : ℕ
version = 1

-- 513, the bytes behind it
abbrev pub length_high : ℕ
length_high = suc symbol_count / 256

abbrev pub length_low : ℕ
length_low = suc symbol_count % 256

-- ---- building

unfoldable pub sent_word : ℕ → List ℕ → ℕ → List ℕ
sent_word k messages v = encode_of k (block k v messages)

unfoldable pub symbol_of : List (List ℕ) → ℕ → ℕ
symbol_of sent s = get_or (get_or sent (s % words) []) (s / words) 0

unfoldable pub frame_of : ℕ → List (List ℕ) → List ℕ
frame_of rate sent = version ∷ length_high ∷ length_low ∷ rate ∷ listed symbol_count (symbol_of sent)

unfoldable pub built_of : ℕ → List ℕ → List ℕ
built_of k messages = frame_of k (listed words (sent_word k messages))

unfoldable pub build_of : ℕ → List ℕ → List ℕ → Answered
build_of rate messages frame =
    cond (known_rate rate)
    (cond (eqb (length messages) (rate * words) && eqb (length frame) frame_length)
    (cond (all_below symbols messages) (outcome accepted (built_of rate messages)) (outcome no_symbol frame)) (outcome wrong_size frame))
    (outcome unknown_rate frame)

-- ---- taking apart

unfoldable pub symbol_in : List ℕ → ℕ → ℕ
symbol_in frame s = get_or frame (head_length + s) 0

unfoldable pub word_in : List ℕ → ℕ → List ℕ
word_in frame v = listed places (λ p. symbol_in frame (words * p + v))

abbrev pub hard_column : ℕ → List ℕ
hard_column received = Hard.hard_column symbols received

unfoldable pub hard_columns : List ℕ → ℕ → List ℕ
hard_columns word p = get_or (map hard_column word) p (replicate symbols 0)

unfoldable pub answer_at : ℕ → List ℕ → List ℕ → ℕ → Closed
answer_at k frame part v = decode_of k (hard_columns (word_in frame v)) [] part (replicate report_length 0)

unfoldable pub none_near_in : ℕ → List ℕ → List ℕ → ℕ → Bool
none_near_in k frame messages v = eqb (answer_at k frame (block k v messages) v).number none_near

unfoldable pub status_of : ℕ → (ℕ → Bool) → ℕ
status_of zero none = 0
status_of (suc v) none = status_of v none + cond (none v) (2 ^ v) 0

unfoldable pub messages_of : ℕ → ℕ → List ℕ → List ℕ → List ℕ
messages_of zero k frame messages = []
messages_of (suc v) k frame messages = messages_of v k frame messages ++ (answer_at k frame (block k v messages) v).message

unfoldable pub head_of : List ℕ → ℕ
head_of frame =
    cond (eqb (length frame) frame_length)
    (cond (eqb (get_or frame 0 0) version)
    (cond (eqb (get_or frame 1 0) length_high && eqb (get_or frame 2 0) length_low) accepted wrong_superframe) wrong_superframe)
    wrong_superframe

pub record Taken : Type 0 where
  pub number : ℕ
  pub status : ℕ
  pub messages : List ℕ

abbrev pub taken : ℕ → ℕ → List ℕ → Taken
taken n status messages = record { number = n; status = status; messages = messages }

-- past the head, by the rate that it names
unfoldable pub apart_of : ℕ → List ℕ → List ℕ → Taken
apart_of rate frame messages =
    cond (known_rate rate)
    (cond (eqb (length messages) (rate * words))
    (cond (all_below symbols (drop head_length frame))
    (taken accepted (status_of words (none_near_in rate frame messages)) (messages_of words rate frame messages))
    (taken no_symbol 0 messages))
    (taken wrong_size 0 messages))
    (taken unknown_rate 0 messages)

unfoldable pub taken_of : List ℕ → List ℕ → Taken
taken_of frame messages =
    cond (eqb (head_of frame) accepted) (apart_of (get_or frame 3 0) frame messages) (taken (head_of frame) 0 messages)
