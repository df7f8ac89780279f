-- What decoding is given, and what it says where there is no answer, in every modem.
--
--   Decodable rate costs doubtful doubt message report   what a search may be asked, but for blank places, a message buffer of k bytes, where k is the
--                            rate, and a report of its length
--   unanswered_of k columns   12 if more places are blank than the limit, else 9
use Rattle.std.specs.Prelude.{cond, ◌≡◌, List, ℕ, leb, length}
use Rattle.refusals.specs.Refusal.{none_near, too_blank}
use Rattle.soft.specs.Blank.{blanks_of}
use Rattle.near.specs.Near.{blank_limit}
use Rattle.book.specs.Model.{Model, places}
use Rattle.book.specs.closing.Closing.{report_length}
use Rattle.answering.specs.Asked.{Askable}

module _ (𝓓 : Model) where
  open 𝓓 use {member}

  pub record Decodable (rate : ℕ) (costs doubtful : List ℕ) (doubt : ℕ) (message report : List ℕ) : Type 0 where
    pub askable : Askable 𝓓 rate costs doubtful doubt
    pub message_long : length message ≡ rate
    pub report_long : length report ≡ report_length 𝓓

  unfoldable pub unanswered_of : ℕ → (ℕ → List ℕ) → ℕ
  unanswered_of k columns = cond (leb (blanks_of (places 𝓓) columns) (blank_limit member k)) none_near too_blank
