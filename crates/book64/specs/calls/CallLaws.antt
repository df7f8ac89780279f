-- What document 01 says of every call and every list of calls, of the book of the modem of 64 places (`book` CallLaws).
--
--   Fits call, AllFit calls   what the types say of the arguments of a call, and of a list of calls: a delivery's column is a column
use Rattle.std.specs.Prelude.{List}
use Rattle.book64.specs.Modem64.{modem64}
use Rattle.book64.specs.calls.Calls.{Call}
use Rattle.book.specs.calls.CallLaws as laws

abbrev pub Fits : Call → Type 0
Fits call = laws.Fits modem64 call

abbrev pub AllFit : List Call → Type 0
AllFit calls = laws.AllFit modem64 calls
