-- What `step` makes of its arguments, by the kind of the call: the contract of `step` is `Stepping`.
--
--   call_of kind place column first second   the call of the book that is made: a delivery is given the place and the column, and a withdrawal the place;
--                        the other calls are lent the first buffer, and closing the second too
--   step_answer kind n first second   its answer: the number, and what the buffers that it was lent hold afterwards
--   Spared kind first second first' second'   a buffer that the call is not lent is as it was
--   Stepping kind s place column first second r first' second'   that call is a step from the session s to the one that is handed back
use Rattle.std.specs.Prelude.{◌≡◌, List, [], ℕ}
use Rattle.book.specs.calls.Calls.{Answer}
use Rattle.book64.specs.calls.Calls.{Call, deliver, reading, writing, closing, withdraw}
use Rattle.session.specs.declared.Session.{Session}
use Rattle.runs.specs.declared.Kind.{Kind}
use Rattle.runs.specs.declared.Kind.TheVariants.{Deliver, Read, Write, Close, Withdraw}
use Rattle.session.specs.Calls.{Ending}
use Rattle.runs.specs.Step.{Step, answer_with}

unfoldable pub call_of : Kind → ℕ → List ℕ → List ℕ → List ℕ → Call
call_of Deliver place column first second = deliver place column
call_of Read place column first second = reading first
call_of Write place column first second = writing first
call_of Close place column first second = closing first second
call_of Withdraw place column first second = withdraw place

unfoldable pub step_answer : Kind → ℕ → List ℕ → List ℕ → Answer
step_answer Deliver n first second = answer_with n [] []
step_answer Read n first second = answer_with n first []
step_answer Write n first second = answer_with n first []
step_answer Close n first second = answer_with n first second
step_answer Withdraw n first second = answer_with n [] []

unfoldable pub Spared : Kind → List ℕ → List ℕ → List ℕ → List ℕ → Type 0
Spared Deliver first second first' second' = (first' ≡ first) × (second' ≡ second)
Spared Read first second first' second' = second' ≡ second
Spared Write first second first' second' = second' ≡ second
Spared Close first second first' second' = Unit
Spared Withdraw first second first' second' = (first' ≡ first) × (second' ≡ second)

pub record Stepping (kind : Kind) (s : Session) (place : ℕ) (column first second : List ℕ) (r : Ending) (first' second' : List ℕ) : Type 0 where
  pub made : Step s (call_of kind place column first second) (step_answer kind r.refusal first' second') r.session
  pub spared : Spared kind first second first' second'
