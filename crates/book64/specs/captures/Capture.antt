-- The capture: the bytes of a rate, a doubtful list and a row.
--
--   record_length     33: a place and its 32 cost bytes
--   body_length d     2,114 + d: the bytes that follow the two bytes of length, where d places are doubtful
--   capture_length d  2,117 + d: all of them
--   row_bytes         a record for each entry, its place and its 32 cost bytes
--   first_version, second_version, is_version   the versions that there are: 1 and 2
--   most_in_first_version   8, the most doubtful places of a capture of version 1
--   version_of d      the version of captures with d doubtful places: 1 up to 8 of them, 2 for more
--   laid_out v book   the layout, one for both versions: version, length, rate, d, the d doubtful places, the 64 records in rising place order
--   capture_of        that layout with the version that suits the doubtful places
--   records_of n      n records from their bytes
use Rattle.std.specs.Prelude.{Bool, cond, ◌||◌, List, [], ◌∷◌, ◌++◌, ℕ, zero, suc, ◌+◌, ◌/◌, ◌%◌, eqb, leb, length, get_or, take, drop}
use Rattle.soft.specs.Column.{costs_from}
use Rattle.soft.specs.CostBytes.{cost_bytes}
use Rattle.book.specs.Book.{Entry, Book}
use Rattle.book64.specs.Here.{width, in_place_order}

abbrev pub record_length : ℕ
record_length = 33

abbrev pub body_length : ℕ → ℕ
body_length d = 2114 + d

abbrev pub capture_length : ℕ → ℕ
capture_length d = 2117 + d

unfoldable pub row_bytes : List Entry → List ℕ
row_bytes [] = []
row_bytes (e ∷ row) = (e.place ∷ cost_bytes e.column) ++ row_bytes row

-- ---- two versions of one layout, told apart by the number of doubtful places

abbrev pub first_version : ℕ
first_version = 1

abbrev pub second_version : ℕ
second_version = 2

unfoldable pub is_version : ℕ → Bool
is_version version = eqb version first_version || eqb version second_version

abbrev pub most_in_first_version : ℕ
most_in_first_version = 8

unfoldable pub version_of : ℕ → ℕ
version_of d = cond (leb d most_in_first_version) first_version second_version

abbrev pub laid_out : ℕ → Book → List ℕ
laid_out version book =
    version
    ∷ body_length (length book.doubtful) / 256
    ∷ body_length (length book.doubtful) % 256
    ∷ book.rate
    ∷ length book.doubtful
    ∷ (book.doubtful ++ row_bytes (in_place_order book.row))

unfoldable pub capture_of : Book → List ℕ
capture_of book = laid_out (version_of (length book.doubtful)) book

unfoldable pub records_of : ℕ → List ℕ → List Entry
records_of zero bytes = []
records_of (suc n) bytes =
    record { place = get_or bytes 0 0; column = costs_from width (take 32 (drop 1 bytes)) } ∷ records_of n (drop record_length bytes)
