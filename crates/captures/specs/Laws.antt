-- What follows of the calls on whole captures.
--
--   decode-on, decode-refused    decoding an accepted capture is closing what it opens as; a refused one gives the number of its opening
--   sort-on        the same of putting one into place order, and writing
--   written-decodes              the capture of a proper book with no place missing decodes as closing that book answers
--   written-sorts                and it is in place order: sorted, it stays as it is
--   decode-size, decode-decoded  of an accepted capture: 2 if a buffer has the wrong size, else what decoding by its columns and its doubtful list
--                                answers; it has all places, so that none is missing
--   sort-accepted                an accepted capture is sorted into a buffer of its size
--   sort-order, sort-same        what is written is in place order, and it is the capture itself exactly if that was
--   sort-decodes                 it decodes as the capture does
--   sort-again                   and stays as it is
use Rattle.std.specs.Prelude.{true, false, ◌≡◌, List, ◌↔◌, ◌≢◌, ℕ, length}
use Rattle.std.proofs.Common.{sym, ◌∙◌, subst, eq-eqb, ne_eqb}
use Rattle.std.proofs.Math.Path.{ap}
use Rattle.refusals.specs.Refusal.{accepted, wrong_size}
use Rattle.lists.specs.Distinct.{below}
use Rattle.book64.specs.Modem64.{modem64}
use Rattle.book.specs.Book.{Book, Outcome}
use Rattle.book.specs.closing.Closing.{refused_closing, closing_fits}
use Rattle.book.proofs.closing.ClosingLaws.{close-size, close-decoded}
use Rattle.book64.specs.captures.Capture.{capture_length, capture_of}
use Rattle.book64.specs.captures.Writing.{write_of}
use Rattle.book64.specs.captures.CaptureOpening.{records_in, open_capture_of}
use Rattle.book64.specs.captures.CaptureCases.{book_in, capture-fit, capture-proper}
use Rattle.book.specs.rows.PlaceOrder.{InPlaceOrder, order-agree}
use Rattle.book64.proofs.captures.RoundTrip.{written-order, open-written, write-accepted, write-whole, none-missing, written-opened, open-then-write}
use Rattle.book64.proofs.captures.WritingLaws.{writing-alike}
use Rattle.book.proofs.sentences.Sentences.{closing-alike}
use Rattle.book64.specs.Here.{some_missing, columns_of, Proper, ordered, decode_of, close_of}
use Rattle.captures.specs.Calls.{filled, close_opened, write_opened, decode_capture_of, sort_capture_of}

module _ (bytes : List ℕ) where
  module _ (message report : List ℕ) where
    pub decode-on : (open_capture_of bytes).number ≡ accepted
        → decode_capture_of bytes message report ≡ close_of (open_capture_of bytes).book message report
    unfolding decode_capture_of close_opened
    decode-on n = rw (eq-eqb (open_capture_of bytes).number accepted n)

    pub decode-refused : (open_capture_of bytes).number ≢ accepted
        → decode_capture_of bytes message report ≡ refused_closing (open_capture_of bytes).number message report
    unfolding decode_capture_of close_opened
    decode-refused n = rw (ne_eqb (open_capture_of bytes).number accepted n)

  module _ (out : List ℕ) where
    pub sort-on : (open_capture_of bytes).number ≡ accepted → sort_capture_of bytes out ≡ write_of (open_capture_of bytes).book out
    unfolding sort_capture_of write_opened
    sort-on n = rw (eq-eqb (open_capture_of bytes).number accepted n)

-- ---- the capture of a book

module _ (book : Book) (proper : Proper book) (whole : some_missing book.row ≡ false) where
  opened : open_capture_of (capture_of book) ≡ record { number = accepted; book = ordered book }
  opened = open-written book proper

  pub written-decodes : (message report : List ℕ) → decode_capture_of (capture_of book) message report ≡ close_of book message report
  written-decodes message report =
      decode-on (capture_of book) message report (ap (λ (o : Outcome). o.number) opened)
      ∙ ap (λ (o : Outcome). close_of o.book message report) opened
      ∙ closing-alike modem64 (order-agree modem64 book proper whole) message report

  pub written-sorts : (out : List ℕ) → length out ≡ capture_length (length book.doubtful)
      → sort_capture_of (capture_of book) out ≡ filled accepted (capture_of book)
  written-sorts out long =
      sort-on (capture_of book) out (ap (λ (o : Outcome). o.number) opened)
      ∙ ap (λ (o : Outcome). write_of o.book out) opened
      ∙ writing-alike (order-agree modem64 book proper whole) out
      ∙ write-accepted book out long whole

-- ---- an accepted capture

module _ (bytes : List ℕ) (n : (open_capture_of bytes).number ≡ accepted) where
  whole : some_missing (open_capture_of bytes).book.row ≡ false
  unfolding book_in
  whole =
      let fit = capture-fit bytes n in
      ap (λ (o : Outcome). some_missing o.book.row) fit.opens ∙ none-missing bytes fit

  module _ (message report : List ℕ) where
    pub decode-size : closing_fits modem64 (open_capture_of bytes).book message report ≡ false
        → decode_capture_of bytes message report ≡ refused_closing wrong_size message report
    decode-size f = decode-on bytes message report n ∙ close-size modem64 (open_capture_of bytes).book message report f

    pub decode-decoded : closing_fits modem64 (open_capture_of bytes).book message report ≡ true
        → decode_capture_of bytes message report
        ≡ decode_of (open_capture_of bytes).book.rate (columns_of (open_capture_of bytes).book.row) (open_capture_of bytes).book.doubtful message report
    decode-decoded f = decode-on bytes message report n ∙ close-decoded modem64 (open_capture_of bytes).book message report f whole

  module _ (bytewise : below 256 bytes ≡ true) (out : List ℕ) (long : length out ≡ length bytes) where
    pub sort-accepted : sort_capture_of bytes out ≡ filled accepted (capture_of (open_capture_of bytes).book)
    sort-accepted = sort-on bytes out n ∙ open-then-write bytes out bytewise n long

    sorted : (sort_capture_of bytes out).bytes ≡ capture_of (open_capture_of bytes).book
    sorted = ap (λ f. f.bytes) sort-accepted

    pub sort-order : InPlaceOrder (records_in (sort_capture_of bytes out).bytes)
    sort-order =
        subst (λ (l : List ℕ). InPlaceOrder (records_in l)) (sym sorted) (written-order (open_capture_of bytes).book (capture-proper bytes n))

    pub sort-same : ((sort_capture_of bytes out).bytes ≡ bytes) ↔ InPlaceOrder (records_in bytes)
    sort-same = let same = written-opened bytes bytewise n in (λ e. same.0 (sym sorted ∙ e), λ order. sorted ∙ same.1 order)

    pub sort-decodes : (message report : List ℕ) → decode_capture_of (sort_capture_of bytes out).bytes message report ≡ decode_capture_of bytes message report
    sort-decodes message report =
        ap (λ (l : List ℕ). decode_capture_of l message report) sorted
        ∙ written-decodes (open_capture_of bytes).book (capture-proper bytes n) whole message report
        ∙ sym (decode-on bytes message report n)

    pub sort-again : (again : List ℕ) → length again ≡ length bytes
        → sort_capture_of (sort_capture_of bytes out).bytes again ≡ filled accepted (sort_capture_of bytes out).bytes
    sort-again again e =
        let size = (write-whole (open_capture_of bytes).book again (ap (λ f. f.number) (open-then-write bytes again bytewise n e))).0 in
        ap (λ (l : List ℕ). sort_capture_of l again) sorted
        ∙ written-sorts (open_capture_of bytes).book (capture-proper bytes n) whole again size
        ∙ ap (filled accepted) (sym sorted)
