-- Document 01's sentences about opening captures, each a theorem of the book of the modem of 64 places.
--
--   deliveries entries   the entries as deliveries
use mathlib.Core.List.{List}
use Rattle.book.specs.Book.{Entry}
use Rattle.book64.specs.calls.Calls.{Call}
use Rattle.book.specs.calls.CallLaws as laws

-- ---- 'opening an accepted capture counts as opening with its rate and list and then delivering its records in their order'

abbrev pub deliveries : List Entry → List Call
deliveries entries = laws.deliveries entries
