-- What the first checks of an accepted capture say. The two round trips of a capture stand in proofs/.
--
--   size-range, length-right   of its size, and of its length
use Rattle.std.specs.Prelude.{true, ◌≡◌, eqb, leb}
use mathlib.Core.List.{List}
use Prim.Native.Nat.{ℕ, ◌+◌, ◌≤◌}
use Rattle.std.proofs.Math.ListN.{length}
use borrow.Author.Tests.{eqb-true, leb-true}
use Rattle.lists.specs.Distinct.{and_left, and_right}
use Rattle.soft.specs.Doubt.{most_doubt}
use Rattle.book64.specs.captures.Capture.{body_length, capture_length}
use Rattle.book64.specs.captures.CaptureOpening.{doubt_in, size_fits, length_in, length_fits}

-- ---- opening, then writing

-- what the first three checks say
pub size-range : (bytes : List ℕ) → size_fits bytes ≡ true → (capture_length 0 ≤ length bytes) × (length bytes ≤ capture_length most_doubt)
unfolding size_fits
size-range bytes s = (
  leb-true (capture_length 0) (length bytes) (and_left (leb (capture_length 0) (length bytes)) (leb (length bytes) (capture_length most_doubt)) s),
  leb-true (length bytes) (capture_length most_doubt) (and_right (leb (capture_length 0) (length bytes)) (leb (length bytes) (capture_length most_doubt)) s),
)

pub length-right : (bytes : List ℕ) → length_fits bytes ≡ true
    → (length_in bytes + 3 ≡ length bytes) × (length_in bytes ≡ body_length (doubt_in bytes))
unfolding length_fits
length-right bytes l =
    let a = eqb (length_in bytes + 3) (length bytes) in
    let b = eqb (length_in bytes) (body_length (doubt_in bytes)) in (
      eqb-true (length_in bytes + 3) (length bytes) (and_left a b l),
      eqb-true (length_in bytes) (body_length (doubt_in bytes)) (and_right a b l),
    )
