-- What interpolant reading and closing answer: the predicates that the contracts of these calls cite. (Writing's stands in `capture`.)
--
--   Reading s before r after    reading the session s into a buffer: of a good session the number and the buffer afterwards are the book's
--   Closing s message report r message' report'   closing the session s into two buffers: of a good session the number and both buffers
--                               afterwards are the book's
--
-- Whatever the session, a refused call leaves the buffers as they were, and no buffer changes its length. Both calls take the session by value
-- and hand none back, so the caller's session is as it was: closing may be repeated.
use Rattle.std.specs.Prelude.{List, ℕ}
use Rattle.book64.specs.Modem64.{modem64}
use Rattle.book64.specs.calls.Calls.{read}
use Rattle.book64.proofs.calls.Calls.{others64}
use Rattle.calls.specs.Promises as promises
use Rattle.session.specs.declared.Session.{Session}
use Rattle.session.specs.View.{keeping}

abbrev pub Reading : Session → List ℕ → ℕ → List ℕ → Type 0
Reading s before r after = promises.Asking modem64 keeping others64 s (read before) r after

abbrev pub Closing : Session → List ℕ → List ℕ → ℕ → List ℕ → List ℕ → Type 0
Closing s message report r message' report' = promises.Closing modem64 keeping s message report r message' report'
