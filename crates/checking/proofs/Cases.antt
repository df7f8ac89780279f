-- What the checks answer of an unknown rate, whatever else is wrong.
use mathlib.Core.Bool.{false}
use mathlib.Core.Path.{◌≡◌, sym}
use Prim.Native.Nat.{ℕ}
use Rattle.refusals.specs.Refusal.{unknown_rate}
use Rattle.code.specs.Encoding.{known_rate}
use Rattle.book64.specs.Modem64.{modem64}
use Rattle.book64.specs.Here.{checks_of}
use Rattle.book.proofs.tables.Table.{checks-rate}

pub unknown_first : (rate given wanted message report : ℕ) → known_rate rate ≡ false → unknown_rate ≡ checks_of rate given wanted message report
unknown_first rate given wanted message report e = sym (checks-rate modem64 rate given wanted message report e)
