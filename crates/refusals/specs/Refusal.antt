-- The refusals' numbers (document 01, 'Refusals, by who can cause them'), each under the name of the code's variant.
--
--   accepted         0: no refusal
--   unknown_rate      1: the rate is not one of 6 to 52
--   wrong_size        2: a lent buffer of the wrong size, or no 64 bytes from the start
--   no_symbol         3: a symbol above 15
--   wrong_doubt       4: doubt above 12, a maximum of 0 or above 12, or a doubtful list longer than 12, with a place above 63, not strictly rising, or in
--                    a capture of a length that does not suit its version
--   no_place          5: a place above 63
--   place_taken       6: a place already taken
--   place_missing     7: closing or writing with a place missing
--   no_codeword       8: not a codeword
--   none_near         9: no codeword is near
--   wrong_version     10: the version is not 1 or 2
--   wrong_length      11: size or length wrong
--   too_blank         12: more blank places than the rate allows
--   not_taken         13: a place that is not taken
--   wrong_superframe  14: a superframe that has not 516 bytes, or a wrong version or length
--   refusal-numbers  all of them
use Rattle.std.specs.Prelude.{◌≡◌, refl, ℕ}

abbrev pub accepted : ℕ
accepted = 0

abbrev pub unknown_rate : ℕ
unknown_rate = 1

abbrev pub wrong_size : ℕ
wrong_size = 2

abbrev pub no_symbol : ℕ
no_symbol = 3

abbrev pub wrong_doubt : ℕ
wrong_doubt = 4

abbrev pub no_place : ℕ
no_place = 5

abbrev pub place_taken : ℕ
place_taken = 6

abbrev pub place_missing : ℕ
place_missing = 7

abbrev pub no_codeword : ℕ
no_codeword = 8

abbrev pub none_near : ℕ
none_near = 9

abbrev pub wrong_version : ℕ
wrong_version = 10

abbrev pub wrong_length : ℕ
wrong_length = 11

abbrev pub too_blank : ℕ
too_blank = 12

abbrev pub not_taken : ℕ
not_taken = 13

abbrev pub wrong_superframe : ℕ
wrong_superframe = 14

-- document 01's list, and 12 to 14 of document 02
pub refusal-numbers : (accepted ≡ 0) × (unknown_rate ≡ 1) × (wrong_size ≡ 2) × (no_symbol ≡ 3) × (wrong_doubt ≡ 4) × (no_place ≡ 5) × (place_taken ≡ 6)
    × (place_missing ≡ 7) × (no_codeword ≡ 8) × (none_near ≡ 9) × (wrong_version ≡ 10) × (wrong_length ≡ 11) × (too_blank ≡ 12) × (not_taken ≡ 13)
    × (wrong_superframe ≡ 14)
refusal-numbers = (refl, refl, refl, refl, refl, refl, refl, refl, refl, refl, refl, refl, refl, refl, refl)
