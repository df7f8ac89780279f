-- What document 01 says of every call and every list of calls, of the book of the modem of 64 places (`book` CallLaws).
--
--   answer-alike         books that agree answer every call alike
--   only-closing-blank   no call but a closing gives 12; of openings Sentences (opening-never-blank) and CaptureCases (capture-never-blank) say the same
--   rate-held            a list of calls leaves the rate as it was given at opening
use Rattle.std.specs.Prelude.{◌≡◌, List, ℕ}
use Rattle.refusals.specs.Refusal.{too_blank}
use Rattle.book.specs.Book.{Book}
use Rattle.book.specs.Columns.{Agree}
use Rattle.book64.specs.calls.Calls.{Call, closing}
use Rattle.book64.proofs.calls.Calls.{others64, answer, after_all}
use Rattle.book.proofs.calls.CallLaws as call-laws

pub answer-alike : {a b : Book} → Agree a b → (call : Call) → answer a call ≡ answer b call
answer-alike same = call-laws.answer-alike others64 same

pub only-closing-blank : (book : Book) (call : Call) → (answer book call).number ≡ too_blank
    → (message : List ℕ) × (report : List ℕ) × (call ≡ closing message report)
only-closing-blank = call-laws.only-closing-blank others64

pub rate-held : (book : Book) (calls : List Call) → (after_all book calls).rate ≡ book.rate
rate-held = call-laws.rate-held others64
