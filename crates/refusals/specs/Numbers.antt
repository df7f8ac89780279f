-- The number of an answer, as document 01 has it.
--
--   number_in r    the number of a refusal
--   number_of a    0 where a call is accepted, whatever it answers, and the refusal's number else
--   never-accepted   no refusal has the number 0
use Rattle.std.specs.Prelude.{ℕ, ◌≢◌, Result, Ok, Err}
use Rattle.std.proofs.Common.{arith}
use Rattle.refusals.specs.Refusal as Number
use Rattle.refusals.specs.declared.Refusal.{Refusal}
use Rattle.refusals.specs.declared.Refusal.TheVariants.{UnknownRate, WrongSize, NoSymbol, WrongDoubt, PlaceMissing, NoPlace, PlaceTaken, NoCodeword, NoneNear, TooBlank, WrongVersion, WrongLength, WrongSuperframe, NotTaken}

abbrev pub number_in : Refusal → ℕ
number_in UnknownRate = Number.unknown_rate
number_in WrongSize = Number.wrong_size
number_in NoSymbol = Number.no_symbol
number_in WrongDoubt = Number.wrong_doubt
number_in NoPlace = Number.no_place
number_in PlaceTaken = Number.place_taken
number_in PlaceMissing = Number.place_missing
number_in NoCodeword = Number.no_codeword
number_in NoneNear = Number.none_near
number_in WrongVersion = Number.wrong_version
number_in WrongLength = Number.wrong_length
number_in TooBlank = Number.too_blank
number_in NotTaken = Number.not_taken
number_in WrongSuperframe = Number.wrong_superframe

abbrev pub number_of : {A : Type 0} → Result A Refusal → ℕ
number_of (Ok a) = Number.accepted
number_of (Err r) = number_in r

pub never-accepted : (r : Refusal) → number_in r ≢ Number.accepted
never-accepted UnknownRate e = omega arith
never-accepted WrongSize e = omega arith
never-accepted NoSymbol e = omega arith
never-accepted WrongDoubt e = omega arith
never-accepted PlaceMissing e = omega arith
never-accepted NoPlace e = omega arith
never-accepted PlaceTaken e = omega arith
never-accepted NoCodeword e = omega arith
never-accepted NoneNear e = omega arith
never-accepted TooBlank e = omega arith
never-accepted WrongVersion e = omega arith
never-accepted WrongLength e = omega arith
never-accepted WrongSuperframe e = omega arith
never-accepted NotTaken e = omega arith
