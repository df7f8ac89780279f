-- 'A delivery shall be undone: … the session answers and reads as if that delivery, and every call refused since, had never been made. It need not be the
-- latest one.' Each sentence a theorem of the book of the modem of 64 places (`book` Undone).
--
--   Spares p calls       no call of the list withdraws the place p
use Rattle.std.specs.Prelude.{List, ℕ}
use Rattle.book64.specs.calls.Calls.{Call}
use Rattle.book.specs.calls.Undone as any

abbrev pub Spares : ℕ → List Call → Type 0
Spares p calls = any.Spares p calls
