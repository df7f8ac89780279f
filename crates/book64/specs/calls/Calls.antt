-- The calls of the modem of 64 places (`book` Calls): beside deliveries, withdrawals and closings it has interpolant readings and capture writings. What the
-- book answers to them stands in proofs/, since it comes with the proof that books that agree answer alike.
--
--   Other                its other calls: interpolant reading and capture writing, each with the buffer as it is lent
--   Call                 its calls: deliver, withdraw, closing, reading, writing
use Rattle.std.specs.Prelude.{List, ℕ}
use Rattle.book.specs.calls.Calls as any
use Rattle.book.specs.calls.Calls.{other}
pub use Rattle.book.specs.calls.Calls.{deliver, withdraw, closing}

pub data Other : Type 0 where
  read : List ℕ → Other
  write : List ℕ → Other

abbrev pub Call : Type 0
Call = any.Call Other

abbrev pub reading : List ℕ → Call
reading out = other (read out)

abbrev pub writing : List ℕ → Call
writing out = other (write out)
