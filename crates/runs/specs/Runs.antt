-- Runs: lists of calls, each made on the session that the one before it left (`calls` Runs, of the modem of 64 places).
--
--   Run s calls given t     the calls are given these answers from the session s, and the session t is left
--   every-run            from a good session the answers of every run are the book's
--   run_fits             the arguments of the calls of a run are what their types say: each column that was delivered is a column of costs
--   some_run             every list of calls whose columns are such can be made on every good session: the theorems are not empty
--
-- A run is made of steps, and `step` is the function that makes them: its contract says that every call it makes is one (Stepping). It is proved from
-- the contracts of `session::deliver`, `session::withdraw`, `reading::read_interpolant`, `writing::write_capture` and `closing::close`.
use Rattle.std.specs.Prelude.{◌≡◌, List}
use Rattle.book.specs.calls.Calls.{Answer}
use Rattle.book64.specs.calls.Calls.{Call}
use Rattle.book64.proofs.calls.Calls.{others64, answers}
use Rattle.book64.specs.calls.CallLaws.{AllFit}
use Rattle.calls.specs.Runs as any
use Rattle.session.specs.declared.Session.{Session}
use Rattle.session.specs.View.{keeping, book_of, Good}

abbrev pub Run : Session → List Call → List Answer → Session → Type 0
Run s calls given t = any.Run others64 keeping s calls given t

pub every-run : {s t : Session} {calls : List Call} {given : List Answer} → Run s calls given t → Good s → given ≡ answers (book_of s) calls
every-run run good = any.every-run others64 keeping run good

pub run_fits : {s t : Session} {calls : List Call} {given : List Answer} → Run s calls given t → AllFit calls
run_fits run = any.run_fits others64 keeping run

pub some_run : {calls : List Call} → AllFit calls → (s : Session) → Good s → (given : List Answer) × (t : Session) × Run s calls given t
some_run fit = any.some_run others64 keeping fit
