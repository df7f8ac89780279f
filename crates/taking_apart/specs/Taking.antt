-- What the functions that take a superframe apart leave, word by word.
--
--   TakesNear k word before number after      decoding a word by its columns, without doubt, answers with the number, and leaves so much of its part
--   TakesWord k frame v before number after   decoding word v answers with the number, and leaves so much of its part
--   TakesWords k frame before status after    the status byte and the parts of all words
--   status_in r             the status of an answer: 0 where the call is refused
--   taken_with r messages   a status or a refusal, and what is left, as one record; taken_by: of what the call returns
use Rattle.std.specs.Prelude.{◌≡◌, List, [], ℕ, replicate, Result, Ok, Err}
use Rattle.refusals.specs.Numbers.{number_of}
use Rattle.refusals.specs.declared.Refusal.{Refusal}
use Rattle.book64.specs.Here.{report_length, decode_of}
use Rattle.superframe.specs.Superframe as Superframe
use Rattle.superframe.specs.Superframe.{words, hard_columns, answer_at, none_near_in, status_of, messages_of}
use Rattle.taking_apart.specs.declared.Taken.{Taken}

pub record TakesNear (k : ℕ) (word before : List ℕ) (number : ℕ) (after : List ℕ) : Type 0 where
  pub answers : number ≡ (decode_of k (hard_columns word) [] before (replicate report_length 0)).number
  pub leaves : after ≡ (decode_of k (hard_columns word) [] before (replicate report_length 0)).message

pub record TakesWord (k : ℕ) (frame : List ℕ) (v : ℕ) (before : List ℕ) (number : ℕ) (after : List ℕ) : Type 0 where
  pub answers : number ≡ (answer_at k frame before v).number
  pub leaves : after ≡ (answer_at k frame before v).message

pub record TakesWords (k : ℕ) (frame before : List ℕ) (status : ℕ) (after : List ℕ) : Type 0 where
  pub names : status ≡ status_of words (none_near_in k frame before)
  pub leaves : after ≡ messages_of words k frame before

abbrev pub status_in : Result ℕ Refusal → ℕ
status_in (Ok status) = status
status_in (Err refusal) = 0

abbrev pub taken_with : Result ℕ Refusal → List ℕ → Superframe.Taken
taken_with r messages = Superframe.taken (number_of r) (status_in r) messages

abbrev pub taken_by : Taken → List ℕ → Superframe.Taken
taken_by r messages = Superframe.taken (number_of r.answer) r.status messages
