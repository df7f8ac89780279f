-- The two versions of a capture: which of them is written and read, and with how many doubtful places. Document 02's sentences, each a theorem.
--
--   capture-sizes        the lengths of captures, without doubtful places and with as many as there may be
--   version-one, version-two, version-is   version 1 up to 8 doubtful places, version 2 from 9 on; it is one of the two
--   version-numbers      the versions that are read are 1 and 2
--   version-one-kept, version-two-written   the capture of a book: in the layout that both versions have, with the byte 1 or 2 first
--   misfit-refused, misfit-unknown   a capture that passes the first three checks, and whose number of doubtful places does not suit its version, is refused
--                        with 4, whatever its list and its records are; but with 1, if the rate is unknown
--   suited-opens         where it suits, opening goes on with the rate, the list and the records
--   version-suited, accepted-version   so the version of an accepted capture suits the number of its doubtful places
use Rattle.std.specs.Prelude.{Bool, true, false, ◌||◌, ◌≡◌, refl, List, ◌≢◌, ◌⊎◌, ℕ, ◌≤◌, eqb, length}
use Rattle.std.proofs.Common.{ap, inl, inr, arith, le-leb, eqb-true, eq-eqb, ne_eqb}
use Rattle.std.proofs.Math.Decide.{dec_le}
use Rattle.std.proofs.lemmas.Bool.{lt-leb}
use Rattle.refusals.specs.Refusal.{accepted, unknown_rate, wrong_doubt}
use Rattle.soft.specs.Doubt.{most_doubt}
use Rattle.code.specs.Encoding.{known_rate}
use Rattle.book.specs.Book.{Book}
use Rattle.book64.specs.captures.Capture.{capture_length, first_version, second_version, is_version, most_in_first_version, version_of, laid_out, capture_of}
use Rattle.book64.specs.captures.CaptureOpening.{version_in, rate_in, doubt_in, list_in, records_in, size_fits, version_fits, length_fits, suits_version, open_with, open_capture_of}
use Rattle.book64.specs.captures.CaptureCases.{open_unknown, open-misfit, open-suited, capture-fit}
use Rattle.book64.specs.Here.{refused_opening}

-- the sizes of document 01 and of #109
pub capture-sizes : (capture_length 0 ≡ 2117) × (capture_length most_doubt ≡ 2129) × (most_doubt ≡ 12)
capture-sizes = (refl, refl, refl)

pub version-one : (d : ℕ) → d ≤ 8 → version_of d ≡ 1
unfolding version_of
version-one d few = rw (le-leb d most_in_first_version few)

pub version-two : (d : ℕ) → 9 ≤ d → version_of d ≡ 2
unfolding version_of
version-two d many = rw (lt-leb d most_in_first_version (omega (arith, many)))

pub version-numbers : (v : ℕ) → is_version v ≡ true → (v ≡ 1) ⊎ (v ≡ 2)
unfolding is_version
version-numbers v h = go (eqb v first_version) refl h
  where
    go : (a : Bool) → eqb v first_version ≡ a → (a || eqb v second_version) ≡ true → (v ≡ 1) ⊎ (v ≡ 2)
    go true e f = inl (eqb-true v first_version e)
    go false e f = inr (eqb-true v second_version f)

pub version-is : (d : ℕ) → is_version (version_of d) ≡ true
unfolding is_version
version-is d = go (dec_le d most_in_first_version)
  where
    go : Dec (d ≤ most_in_first_version) → is_version (version_of d) ≡ true
    go (yes few) = ap is_version (version-one d few)
    go (no many) = ap is_version (version-two d (omega arith))

-- up to 8 doubtful places nothing changes in a capture
pub version-one-kept : (book : Book) → length book.doubtful ≤ 8 → capture_of book ≡ laid_out 1 book
unfolding capture_of
version-one-kept book few = ap (λ v. laid_out v book) (version-one (length book.doubtful) few)

-- with more the first byte is 2, and the others are as they were
pub version-two-written : (book : Book) → 9 ≤ length book.doubtful → capture_of book ≡ laid_out 2 book
unfolding capture_of
version-two-written book many = ap (λ v. laid_out v book) (version-two (length book.doubtful) many)

-- a number of doubtful places that does not suit the version is a fault of the list
module _ (bytes : List ℕ) (s : size_fits bytes ≡ true) (v : version_fits bytes ≡ true) (l : length_fits bytes ≡ true)
    (misfit : version_in bytes ≢ version_of (doubt_in bytes)) where
  pub misfit-refused : known_rate (rate_in bytes) ≡ true → open_capture_of bytes ≡ refused_opening wrong_doubt
  unfolding suits_version
  misfit-refused r = open-misfit bytes s v l r (ne_eqb (version_in bytes) (version_of (doubt_in bytes)) misfit)

  pub misfit-unknown : known_rate (rate_in bytes) ≡ false → open_capture_of bytes ≡ refused_opening unknown_rate
  misfit-unknown r = open_unknown bytes s v l r

-- and where it suits, the capture is opened with its rate and its list, and its records are delivered
pub suited-opens : (bytes : List ℕ) → size_fits bytes ≡ true → version_fits bytes ≡ true → length_fits bytes ≡ true
    → version_in bytes ≡ version_of (doubt_in bytes) → open_capture_of bytes ≡ open_with (rate_in bytes) (list_in bytes) (records_in bytes)
unfolding suits_version
suited-opens bytes s v l m = open-suited bytes s v l (eq-eqb (version_in bytes) (version_of (doubt_in bytes)) m)

pub version-suited : (bytes : List ℕ) → suits_version bytes ≡ true → version_in bytes ≡ version_of (doubt_in bytes)
unfolding suits_version
version-suited bytes m = eqb-true (version_in bytes) (version_of (doubt_in bytes)) m

pub accepted-version : (bytes : List ℕ) → (open_capture_of bytes).number ≡ accepted → version_in bytes ≡ version_of (doubt_in bytes)
accepted-version bytes n = version-suited bytes (capture-fit bytes n).suits
