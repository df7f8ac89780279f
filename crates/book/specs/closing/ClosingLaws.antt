-- Closing, case by case. That these hold of decoding and of closing stands in proofs/.
--
--   Kept message report c    a refused call leaves its buffers as they were
--   Sized message report c   no call changes a buffer's length
--   Decoded k columns doubtful message report c   how decoding ends: too many blank places, no codeword near, or a message that was found
use Rattle.std.specs.Prelude.{◌≡◌, List, ℕ, ◌<◌, ◌≤◌, length}
use Rattle.std.proofs.Math.Option.{none, some}
use Rattle.refusals.specs.Refusal.{accepted, none_near, too_blank}
use Rattle.lists.specs.Words.{Word}
use Rattle.soft.specs.Blank.{blanks_of}
use Rattle.near.specs.Near.{blank_limit}
use Rattle.book.specs.Model.{Model, places, width}
use Rattle.book.specs.closing.Closing.{Closed, refused_closing, answer_for, report_for}

-- the buffers of a closing that is refused
pub record Kept (message report : List ℕ) (c : Closed) : Type 0 where
  pub message_kept : c.message ≡ message
  pub report_kept : c.report ≡ report

-- a closing whose buffers have the lengths of those that were lent
pub record Sized (message report : List ℕ) (c : Closed) : Type 0 where
  pub message_sized : length c.message ≡ length message
  pub report_sized : length c.report ≡ length report

module _ (𝓓 : Model) where
  open 𝓓 use {member}

  -- how decoding ends
  pub data Decoded (k : ℕ) (columns : ℕ → List ℕ) (doubtful message report : List ℕ) (c : Closed) : Type 0 where
    blank : blank_limit member k < blanks_of (places 𝓓) columns → c ≡ refused_closing too_blank message report
        → Decoded k columns doubtful message report c
    far : blanks_of (places 𝓓) columns ≤ blank_limit member k → answer_for 𝓓 k columns doubtful ≡ none
        → c ≡ refused_closing none_near message report → Decoded k columns doubtful message report c
    found : {m : List ℕ} → blanks_of (places 𝓓) columns ≤ blank_limit member k → answer_for 𝓓 k columns doubtful ≡ some m → Word (width 𝓓) k m
        → c ≡ record { number = accepted; message = m; report = report_for 𝓓 k columns doubtful m } → Decoded k columns doubtful message report c
