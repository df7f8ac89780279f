-- Opening a capture: total size, version, length, and then opening with its rate and list and delivering its records in their order.
--
--   version_in, rate_in, doubt_in, list_in, records_in   what a capture's bytes hold: the version, the rate, d, the doubtful list, the 64 records
--   size_fits, version_fits, length_fits    its first three checks; the length is checked against both the total and d
--   suits_version             whether d suits the version: if not, it is a fault of the doubtful list
--   open_versioned suits …    opening with a rate and a list whose length suits the version, or not, and then delivering: 4 if not, after the rate
--   open_capture_of bytes      what opening a capture answers: 11, 10, 11, 1, 4, 5 or 6 if refused, by the first check that fails; else 0 and the book
use Rattle.std.specs.Prelude.{Bool, cond, ◌&&◌, List, ℕ, ◌+◌, ◌*◌, eqb, leb, length, get_or, take, drop}
use Rattle.refusals.specs.Refusal.{unknown_rate, wrong_doubt, wrong_version, wrong_length}
use Rattle.soft.specs.Doubt.{most_doubt}
use Rattle.code.specs.Encoding.{known_rate}
use Rattle.book.specs.Book.{Entry, Outcome}
use Rattle.book64.specs.captures.Capture.{body_length, capture_length, is_version, version_of, records_of}
use Rattle.book64.specs.Here.{places, refused_opening, open_of, on_accepted, deliver_row}

abbrev pub version_in : List ℕ → ℕ
version_in bytes = get_or bytes 0 0

abbrev pub rate_in : List ℕ → ℕ
rate_in bytes = get_or bytes 3 0

abbrev pub doubt_in : List ℕ → ℕ
doubt_in bytes = get_or bytes 4 0

abbrev pub list_in : List ℕ → List ℕ
list_in bytes = take (doubt_in bytes) (drop 5 bytes)

abbrev pub records_in : List ℕ → List Entry
records_in bytes = records_of places (drop (5 + doubt_in bytes) bytes)

-- the total size of a capture with no doubtful place up to one with all that there may be (#109)
unfoldable pub size_fits : List ℕ → Bool
size_fits bytes = leb (capture_length 0) (length bytes) && leb (length bytes) (capture_length most_doubt)

-- one of the two versions (#109)
unfoldable pub version_fits : List ℕ → Bool
version_fits bytes = is_version (version_in bytes)

abbrev pub length_in : List ℕ → ℕ
length_in bytes = 256 * get_or bytes 1 0 + get_or bytes 2 0

-- the length that is told is that of the bytes, and that of a capture with d doubtful places
unfoldable pub length_fits : List ℕ → Bool
length_fits bytes = eqb (length_in bytes + 3) (length bytes) && eqb (length_in bytes) (body_length (doubt_in bytes))

-- the number of doubtful places is one that this version has (#109)
unfoldable pub suits_version : List ℕ → Bool
suits_version bytes = eqb (version_in bytes) (version_of (doubt_in bytes))

-- opening with a rate and a list, and then delivering records in their order
unfoldable pub open_with : ℕ → List ℕ → List Entry → Outcome
open_with rate list entries = on_accepted (open_of rate list) (λ book. deliver_row book entries)

unfoldable pub open_versioned : Bool → ℕ → List ℕ → List Entry → Outcome
open_versioned suits rate list entries =
    cond (known_rate rate) (cond suits (open_with rate list entries) (refused_opening wrong_doubt)) (refused_opening unknown_rate)

unfoldable pub open_capture_of : List ℕ → Outcome
open_capture_of bytes =
    cond (size_fits bytes)
    (cond (version_fits bytes)
    (cond (length_fits bytes) (open_versioned (suits_version bytes) (rate_in bytes) (list_in bytes) (records_in bytes)) (refused_opening wrong_length))
    (refused_opening wrong_version))
    (refused_opening wrong_length)
