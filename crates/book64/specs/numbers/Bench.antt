-- Bench sheet, R6 and R7, of the book of the modem of 64 places, as document 02 has them.
--
--   read bytes    an accepted reading
use Rattle.std.specs.Prelude.{ℕ}
use mathlib.Core.List.{List}
use Rattle.refusals.specs.Refusal.{accepted}
use Rattle.book.specs.Book.{Filled}

-- ---- R7: 'reading of a new session … after place 0, settled, with best symbol 0'; document 02: 'R7's column is one that is not blank'

-- a reading into a buffer of the right size
abbrev pub read : List ℕ → Filled
read bytes = record { number = accepted; bytes = bytes }
