-- A step of the modem of 64 places: one call, made on a session (`calls` Step).
--
--   changes call         it is a delivery or a withdrawal, the calls that may change a session
--   Step s call a t      the call, made on the session s, is given the answer a and leaves the session t: of a good session the answer is the book's,
--                        and the session left is good and its book agrees with the book after the call. Whatever the session, a refused call leaves the
--                        session and the lent buffers as they were, every call but a delivery and a withdrawal leaves the session as it was, no buffer
--                        changes its length, and the call's arguments are what their types say
--   answer_with n first second   a number and what the lent buffers hold afterwards
--   typed-column         a column by its type: sixteen costs of 16 bits
--   delivery-step, withdrawal-step, reading_step, writing_step, closing-step   what the contract of each call says is such a step
use Rattle.std.specs.Prelude.{true, ◌≡◌, List, [], ℕ, length}
use Rattle.lists.specs.Distinct.{below}
use Rattle.book64.specs.Modem64.{modem64}
use Rattle.book.specs.calls.Calls.{Answer}
use Rattle.book64.specs.calls.Calls.{Call, deliver, reading, writing, closing, withdraw}
use Rattle.book64.proofs.calls.Calls.{others64}
use Rattle.book64.specs.Here.{width, IsColumn}
use Rattle.calls.specs.Step as any
use Rattle.session.specs.declared.Session.{Session}
use Rattle.session.specs.View.{keeping}
use Rattle.session.specs.Calls.{Ending, Delivery, Withdrawal}
use Rattle.session.specs.Answering.{Reading, Closing}
use Rattle.capture.specs.Calls.{Writing}
unfoldable pub use Rattle.calls.specs.Step.{changes}
pub use Rattle.calls.specs.Step.{answer_with}

abbrev pub Step : Session → Call → Answer → Session → Type 0
Step s call a t = any.Step others64 keeping s call a t

-- a column of sixteen numbers of 16 bits
pub typed-column : (column : List ℕ) → length column ≡ width → below 65536 column ≡ true → IsColumn column
typed-column = any.typed-column modem64

pub delivery-step : {s : Session} {p : ℕ} {column : List ℕ} {r : Ending} → Delivery s p column r → IsColumn column
    → Step s (deliver p column) (answer_with r.refusal [] []) r.session
delivery-step d column = any.delivery-step others64 keeping d column

pub withdrawal-step : {s : Session} {p : ℕ} {r : Ending} → Withdrawal s p r → Step s (withdraw p) (answer_with r.refusal [] []) r.session
withdrawal-step w = any.withdrawal-step others64 keeping w

pub reading_step : {s : Session} {out out' : List ℕ} {n : ℕ} → Reading s out n out' → Step s (reading out) (answer_with n out' []) s
reading_step r = any.asking-step others64 keeping r

pub writing_step : {s : Session} {out out' : List ℕ} {n : ℕ} → Writing s out n out' → Step s (writing out) (answer_with n out' []) s
writing_step w = any.asking-step others64 keeping w

pub closing-step : {s : Session} {message report message' report' : List ℕ} {n : ℕ} → Closing s message report n message' report'
    → Step s (closing message report) (answer_with n message' report') s
closing-step c = any.closing-step others64 keeping c
