-- The checks of an opening of a capture: each return of the code is a case of it.
use mathlib.Core.Bool.{true, false, ◌&&◌, and-false}
use mathlib.Core.Path.{◌≡◌, sym, ap, ◌∙◌, subst}
use mathlib.Core.List.{List}
use Prim.Native.Nat.{ℕ, ◌+◌, ◌-◌, ◌<◌, ◌≤◌}
use native.Mathlib.Omega.{arith}
use lib.Dec.{eqb, leb}
use lib.ListN.{length, take, drop}
use borrow.Author.Tests.{le-leb, lt-leb, eq-eqb, ne_eqb}
use Rattle.refusals.specs.Refusal.{accepted, wrong_doubt, wrong_version, wrong_length}
use Rattle.lists.specs.Distinct.{and_both}
use Rattle.soft.specs.Doubt.{most_doubt}
use Rattle.book64.specs.Modem64.{modem64}
use Rattle.book.specs.Book.{Outcome}
use Rattle.book.specs.Columns.{agree-sym}
use Rattle.book64.specs.captures.Capture.{body_length, capture_length, is_version, version_of, records_of}
use Rattle.book64.specs.captures.CaptureOpening.{version_in, rate_in, doubt_in, list_in, records_in, size_fits, version_fits, length_in, length_fits, open_with, open_capture_of}
use Rattle.book64.specs.captures.CaptureCases.{open-size, open-version, open-length, open-refused, with-on, capture-refused}
use Rattle.book64.specs.captures.Versions.{misfit-refused, suited-opens}
use Rattle.book.proofs.sentences.Sentences.{opening-only}
use Rattle.book.specs.rows.AlikeDelivery.{agreed-path, agreed-trans, row-alike}
use Rattle.book64.specs.Here.{places, open_of, deliver_row}
use Rattle.session.specs.Calls.{Ending}
use Rattle.session.specs.View.{book_of}
use Rattle.session.specs.Calls.{refused_with, opened_of, Opening}
use Rattle.session.specs.Laws.{refused-opens, opens}
use Rattle.capture.specs.Rest.{rest-whole}
use Rattle.capture.specs.Delivering.{opening-agreed}

module _ (bytes : List ℕ) where
  pub too_short : length bytes < capture_length 0 → Opening (open_capture_of bytes) (refused_with wrong_length)
  unfolding size_fits
  too_short h = rw (open-size bytes (ap (λ b. b && leb (length bytes) (capture_length most_doubt)) (lt-leb (capture_length 0) (length bytes) h))) (refused-opens wrong_length)

  pub too_long : capture_length most_doubt < length bytes → Opening (open_capture_of bytes) (refused_with wrong_length)
  unfolding size_fits
  too_long h =
      rw (open-size bytes (ap (λ b. leb (capture_length 0) (length bytes) && b) (lt-leb (length bytes) (capture_length most_doubt) h) ∙ and-false (leb (capture_length 0) (length bytes))))
      (refused-opens wrong_length)

  module _ (least : capture_length 0 ≤ length bytes) (most : length bytes ≤ capture_length most_doubt) where
    sized : size_fits bytes ≡ true
    unfolding size_fits
    sized = and_both (leb (capture_length 0) (length bytes)) (leb (length bytes) (capture_length most_doubt)) (le-leb (capture_length 0) (length bytes) least) (le-leb (length bytes) (capture_length most_doubt) most)

    pub other-version : is_version (version_in bytes) ≡ false → Opening (open_capture_of bytes) (refused_with wrong_version)
    unfolding version_fits
    other-version v = rw (open-version bytes sized v) (refused-opens wrong_version)

    module _ (one_of_two : is_version (version_in bytes) ≡ true) where
      versioned : version_fits bytes ≡ true
      unfolding version_fits
      versioned = one_of_two

      pub other-total : (length_in bytes + 3 ≡ length bytes → ⊥) → Opening (open_capture_of bytes) (refused_with wrong_length)
      unfolding length_fits
      other-total n =
          rw
          (open-length bytes sized versioned
          (ap (λ b. b && eqb (length_in bytes) (body_length (doubt_in bytes))) (ne_eqb (length_in bytes + 3) (length bytes) n)))
          (refused-opens wrong_length)

      pub other-doubt : (length_in bytes ≡ body_length (doubt_in bytes) → ⊥) → Opening (open_capture_of bytes) (refused_with wrong_length)
      unfolding length_fits
      other-doubt n =
          rw
          (open-length bytes sized versioned
          (ap (λ b. eqb (length_in bytes + 3) (length bytes) && b) (ne_eqb (length_in bytes) (body_length (doubt_in bytes)) n)
          ∙ and-false (eqb (length_in bytes + 3) (length bytes))))
          (refused-opens wrong_length)

      module _ (total : length_in bytes + 3 ≡ length bytes) (body : length_in bytes ≡ body_length (doubt_in bytes)) (list : List ℕ)
          (parted : list ≡ take (5 + doubt_in bytes - 5) (drop 5 bytes)) where
        measured : length_fits bytes ≡ true
        unfolding length_fits
        measured =
            and_both (eqb (length_in bytes + 3) (length bytes)) (eqb (length_in bytes) (body_length (doubt_in bytes)))
            (eq-eqb (length_in bytes + 3) (length bytes) total) (eq-eqb (length_in bytes) (body_length (doubt_in bytes)) body)

        named : list_in bytes ≡ list
        named = let n : 5 + doubt_in bytes - 5 ≡ doubt_in bytes = omega arith in sym (parted ∙ ap (λ k. take k (drop 5 bytes)) n)

        pub opening-refused : ((opened_of (rate_in bytes) list).refusal ≡ accepted → ⊥)
            → Opening (open_capture_of bytes) (refused_with (opened_of (rate_in bytes) list).refusal)
        opening-refused n =
            let q : open_of (rate_in bytes) (list_in bytes) ≡ open_of (rate_in bytes) list = ap (open_of (rate_in bytes)) named in
            let as-opening : open_capture_of bytes ≡ open_of (rate_in bytes) list =
            open-refused bytes sized versioned measured (λ e. n ((opens (rate_in bytes) list).number ∙ sym (ap (λ (o : Outcome). o.number) q) ∙ e)) ∙ q in
            let number : (opened_of (rate_in bytes) list).refusal ≡ (open_capture_of bytes).number =
            (opens (rate_in bytes) list).number ∙ sym (ap (λ (o : Outcome). o.number) as-opening) in
            subst (λ k. Opening (open_capture_of bytes) (refused_with k)) (sym number)
            (subst (λ (o : Outcome). Opening o (refused_with (open_capture_of bytes).number)) (sym (capture-refused bytes (λ e. n (number ∙ e))))
            (refused-opens (open_capture_of bytes).number))

        -- an opening that is accepted has a known rate
        pub opening-misfit : (opened_of (rate_in bytes) list).refusal ≡ accepted → (version_in bytes ≡ version_of (doubt_in bytes) → ⊥)
            → Opening (open_capture_of bytes) (refused_with wrong_doubt)
        opening-misfit n m =
            let known = (opening-only modem64 (rate_in bytes) list (sym (opens (rate_in bytes) list).number ∙ n)).0 in
            rw (misfit-refused bytes sized versioned measured m known) (refused-opens wrong_doubt)

        pub delivering : (rest : List ℕ) (r : Ending) → (opened_of (rate_in bytes) list).refusal ≡ accepted
            → version_in bytes ≡ version_of (doubt_in bytes)
            → rest ≡ take (length bytes - (5 + doubt_in bytes)) (drop (5 + doubt_in bytes) bytes)
            → Opening (deliver_row (book_of (opened_of (rate_in bytes) list).session) (records_of places rest)) r
            → Opening (open_capture_of bytes) r
        delivering rest r n m e d =
            let checked : open_capture_of bytes ≡ open_with (rate_in bytes) list (records_in bytes) =
            suited-opens bytes sized versioned measured m
            ∙ ap (λ (l : List ℕ). open_with (rate_in bytes) l (records_in bytes)) named in
            let q : rest ≡ drop (5 + doubt_in bytes) bytes = e ∙ rest-whole (5 + doubt_in bytes) bytes in
            let o = opens (rate_in bytes) list in
            opening-agreed
            (agreed-trans (agreed-path (checked ∙ with-on (rate_in bytes) list (records_in bytes) (sym o.number ∙ n)))
            (row-alike modem64 (agree-sym o.book) (records_in bytes)))
            (subst (λ (l : List ℕ). Opening (deliver_row (book_of (opened_of (rate_in bytes) list).session) (records_of places l)) r) q d)
