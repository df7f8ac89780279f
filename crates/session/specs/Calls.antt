-- What opening, delivery and withdrawal answer, and what they promise: every modem's promises (`calls` Promises), of the declared session.
--
--   Ending                    how a call ends: 0 or the refusal's number, and the session that it leaves
--   ended r s                 a call that answers r and leaves the session s
--   session_in r              the session that an opening leaves: a new one of rate 39 with an empty list where it is refused; started r: with its number
--   refused_with n            a refused opening: its number, and a new session of rate 39 with an empty list
--   opened_of rate list       opening: 1 or 4 if refused, else 0 and a new session of that rate and list
--   declined_with n s         a refused delivery or withdrawal: its number, and the session that was given
--   Opening o r              an opening that answers as the book does: the number is that of o, the session's book agrees with that of o, and it is good
--   Delivery s p column r    delivery of a place and its column to the session s: of a good session the number is the book's, its book afterwards agrees
--                            with the book's, and it stays good; a refused one is the session that was given, whatever that was
--   Withdrawal s p r         withdrawal of a place from the session s: of a good session the number is the book's, its book afterwards agrees with the book's,
--                            and it stays good; a refused one is the session that was given, whatever that was
use Rattle.std.specs.Prelude.{cond, List, [], ℕ, Result, Ok, Err}
use Rattle.refusals.specs.Refusal.{accepted, unknown_rate, wrong_doubt}
use Rattle.refusals.specs.Numbers.{number_of}
use Rattle.code.specs.Encoding.{known_rate}
use Rattle.book.specs.Book.{Outcome}
use Rattle.book64.specs.Modem64.{modem64}
use Rattle.book64.specs.Here.{fit_doubt}
use Rattle.calls.specs.Promises as promises
use Rattle.session.specs.declared.Session.{Session}
use Rattle.refusals.specs.declared.Refusal.{Refusal}
use Rattle.session.specs.View.{new_session, keeping}

pub record Ending : Type 0 where
  pub refusal : ℕ
  pub session : Session

abbrev pub ended : {A : Type 0} → Result A Refusal → Session → Ending
ended r s = record { refusal = number_of r; session = s }

abbrev pub session_in : Result Session Refusal → Session
session_in (Ok s) = s
session_in (Err by) = new_session 39 []

abbrev pub started : Result Session Refusal → Ending
started r = ended r (session_in r)

unfoldable pub refused_with : ℕ → Ending
refused_with n = record { refusal = n; session = new_session 39 [] }

unfoldable pub opened_of : ℕ → List ℕ → Ending
opened_of rate list =
    cond (known_rate rate)
    (cond (fit_doubt list) (record { refusal = accepted; session = new_session rate list }) (refused_with wrong_doubt))
    (refused_with unknown_rate)

unfoldable pub declined_with : ℕ → Session → Ending
declined_with n s = record { refusal = n; session = s }

abbrev pub Opening : Outcome → Ending → Type 0
Opening o r = promises.Opening modem64 keeping o r.refusal r.session

abbrev pub Delivery : Session → ℕ → List ℕ → Ending → Type 0
Delivery s p column r = promises.Delivery modem64 keeping s p column r.refusal r.session

abbrev pub Withdrawal : Session → ℕ → Ending → Type 0
Withdrawal s p r = promises.Withdrawal modem64 keeping s p r.refusal r.session
