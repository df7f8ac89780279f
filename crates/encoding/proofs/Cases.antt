-- What encoding answers at an unknown rate, whatever else is wrong.
use mathlib.Core.Bool.{false}
use mathlib.Core.Path.{◌≡◌}
use mathlib.Core.List.{List}
use Prim.Native.Nat.{ℕ}
use Rattle.refusals.specs.Refusal.{unknown_rate}
use Rattle.family.specs.Member.{m16}
use Rattle.family.specs.Calls.{outcome}
use Rattle.family.specs.Answers.{encode-rate}
use Rattle.code.specs.Encoding.{known_rate}
use Rattle.code.specs.Calls.{encode_call}

pub unknown_first : (rate : ℕ) (message frame : List ℕ) (start : ℕ) → known_rate rate ≡ false
    → outcome unknown_rate frame ≡ encode_call rate message frame start
unknown_first rate message frame start e = encode-rate m16 known_rate rate message frame start e
