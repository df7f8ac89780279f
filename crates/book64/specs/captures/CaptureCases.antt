-- Opening a capture, case by case: which refusal it gets, and what an accepted one is.
--
--   open-size, open-version, open-length, open_unknown, open-misfit, open-unfit   a refusal by each check in turn
--   open-rate, open-list, open-with   opening with a rate and a list and then delivering: refused by the rate or the list, or the records delivered
--   with-on              it goes on as an accepted opening does
--   open-suited, open-checked   the first three checks passed, and d suits the version: opening with its rate and list, and then delivering its records
--                        in their order
--   open-refused         the first three checks passed, and a rate or list that opening refuses: the number that opening gives
--   capture-refused      a refused capture hands back what a refused opening does: a new book of rate 39 with an empty list
--   book_in bytes         the rate, the list and the records that a capture holds, as a book
--   opens-any-order      a capture that passes the checks of its head, and has different places of the modem in its records, is accepted, in whatever order
--                        they stand
--   Fit bytes, capture-fit   an accepted capture passes every check, and its book is book_in; capture-proper: so it opens as a proper book
--   RowVerdict, Verdict  which check a row of records, or a capture, fails first, with the number that this gives; 0 if none
--   verdict, verdict-only   every byte string has a verdict, and it has only one: the number that opening answers
--   capture-never-blank  opening a capture never gives 12
use Rattle.std.specs.Prelude.{Bool, true, false, ◌≡◌, refl, List, [], ◌∷◌, ◌++◌, ◌≢◌, ℕ, ◌<◌, ◌≤◌}
use Rattle.std.proofs.Common.{sym, ap, ◌∙◌, subst, arith, eq-eqb}
use Rattle.std.proofs.Math.Decide.{dec_lt}
use Rattle.refusals.specs.Refusal.{accepted, unknown_rate, wrong_doubt, no_place, place_taken, wrong_version, wrong_length, too_blank}
use Rattle.code.specs.Encoding.{known_rate}
use Rattle.book64.specs.Modem64.{modem64}
use Rattle.book.specs.Book.{Entry, Book, new_book, taken, Outcome}
use Rattle.book.specs.rows.Delivery.{with_entry}
use Rattle.book64.specs.captures.CaptureOpening.{rate_in, list_in, records_in, size_fits, version_fits, length_fits, suits_version, open_with, open_versioned, open_capture_of}
use Rattle.lists.specs.Distinct.{below, distinct}
use Rattle.book.specs.rows.RowDelivery.{extended, refused-number, row-above, row-taken, row_next, row-none, row-delivered, row-accepted, refused-row}
use Rattle.book.specs.rows.RowLaws.{places_of, open-accepted, open-refused-rate, open-refused-list, new-proper}
use Rattle.book64.specs.captures.CaptureLaws.{records-wide}
use Rattle.book64.specs.Here.{places, fit_doubt, refused_opening, open_of, deliver_row, Proper}
use Rattle.book.specs.rows.Delivery as BookDelivery
use Rattle.book.specs.opening.Opening as BookOpening

-- ---- the refusals of a capture, in the order of its checks

module _ (bytes : List ℕ) where
  pub open-size : size_fits bytes ≡ false → open_capture_of bytes ≡ refused_opening wrong_length
  unfolding open_capture_of
  open-size s = rw s

  pub open-version : size_fits bytes ≡ true → version_fits bytes ≡ false → open_capture_of bytes ≡ refused_opening wrong_version
  unfolding open_capture_of
  open-version s v = rw (s, v)

  pub open-length : size_fits bytes ≡ true → version_fits bytes ≡ true → length_fits bytes ≡ false
      → open_capture_of bytes ≡ refused_opening wrong_length
  unfolding open_capture_of
  open-length s v l = rw (s, v, l)

  module _ (s : size_fits bytes ≡ true) (v : version_fits bytes ≡ true) (l : length_fits bytes ≡ true) where
    pub open_unknown : known_rate (rate_in bytes) ≡ false → open_capture_of bytes ≡ refused_opening unknown_rate
    unfolding open_capture_of open_versioned
    open_unknown r = rw (s, v, l, r)

    pub open-misfit : known_rate (rate_in bytes) ≡ true → suits_version bytes ≡ false → open_capture_of bytes ≡ refused_opening wrong_doubt
    unfolding open_capture_of open_versioned
    open-misfit r m = rw (s, v, l, r, m)

    open-known : known_rate (rate_in bytes) ≡ true → suits_version bytes ≡ true
        → open_capture_of bytes ≡ open_with (rate_in bytes) (list_in bytes) (records_in bytes)
    unfolding open_capture_of open_versioned
    open-known r m = rw (s, v, l, r, m)

module _ (rate : ℕ) (list : List ℕ) (entries : List Entry) where
  pub open-rate : known_rate rate ≡ false → open_with rate list entries ≡ refused_opening unknown_rate
  unfolding open_with BookDelivery.on_accepted BookOpening.refused_opening
  open-rate r = rw (open-refused-rate modem64 rate list r)

  pub open-list : known_rate rate ≡ true → fit_doubt list ≡ false → open_with rate list entries ≡ refused_opening wrong_doubt
  unfolding open_with BookDelivery.on_accepted BookOpening.refused_opening
  open-list r f = rw (open-refused-list modem64 rate list r f)

  -- as opening with its rate and list answers
  pub with-on : (open_of rate list).number ≡ accepted → open_with rate list entries ≡ deliver_row (open_of rate list).book entries
  unfolding open_with BookDelivery.on_accepted
  with-on n = rw (eq-eqb (open_of rate list).number accepted n)

  pub open-with : known_rate rate ≡ true → fit_doubt list ≡ true → open_with rate list entries ≡ deliver_row (new_book rate list) entries
  unfolding open_with BookDelivery.on_accepted
  open-with r f = rw (open-accepted modem64 rate list r f)

module _ (bytes : List ℕ) (s : size_fits bytes ≡ true) (v : version_fits bytes ≡ true) (l : length_fits bytes ≡ true) where
  pub open-unfit : known_rate (rate_in bytes) ≡ true → suits_version bytes ≡ true → fit_doubt (list_in bytes) ≡ false
      → open_capture_of bytes ≡ refused_opening wrong_doubt
  open-unfit r m f = open-known bytes s v l r m ∙ open-list (rate_in bytes) (list_in bytes) (records_in bytes) r f

  pub open-checked : known_rate (rate_in bytes) ≡ true → suits_version bytes ≡ true → fit_doubt (list_in bytes) ≡ true
      → open_capture_of bytes ≡ deliver_row (new_book (rate_in bytes) (list_in bytes)) (records_in bytes)
  open-checked r m f = open-known bytes s v l r m ∙ open-with (rate_in bytes) (list_in bytes) (records_in bytes) r f

  pub open-suited : suits_version bytes ≡ true → open_capture_of bytes ≡ open_with (rate_in bytes) (list_in bytes) (records_in bytes)
  open-suited m = go (known_rate (rate_in bytes)) refl
    where
      go : (a : Bool) → known_rate (rate_in bytes) ≡ a → open_capture_of bytes ≡ open_with (rate_in bytes) (list_in bytes) (records_in bytes)
      go false r = open_unknown bytes s v l r ∙ sym (open-rate (rate_in bytes) (list_in bytes) (records_in bytes) r)
      go true r = open-known bytes s v l r m

  -- a rate or a list that an opening refuses: the capture gets the same number, whether d suits the version or not
  pub open-refused : ((open_of (rate_in bytes) (list_in bytes)).number ≡ accepted → ⊥) → open_capture_of bytes ≡ open_of (rate_in bytes) (list_in bytes)
  open-refused n = go (known_rate (rate_in bytes)) refl (suits_version bytes) refl (fit_doubt (list_in bytes)) refl
    where
      go : (a : Bool) → known_rate (rate_in bytes) ≡ a → (b : Bool) → suits_version bytes ≡ b → (c : Bool) → fit_doubt (list_in bytes) ≡ c
          → open_capture_of bytes ≡ open_of (rate_in bytes) (list_in bytes)
      go false r b m c f = open_unknown bytes s v l r ∙ sym (open-refused-rate modem64 (rate_in bytes) (list_in bytes) r)
      go true r false m false f = open-misfit bytes s v l r m ∙ sym (open-refused-list modem64 (rate_in bytes) (list_in bytes) r f)
      go true r true m false f = open-unfit r m f ∙ sym (open-refused-list modem64 (rate_in bytes) (list_in bytes) r f)
      go true r b m true f = absurd (n (ap (λ (o : Outcome). o.number) (open-accepted modem64 (rate_in bytes) (list_in bytes) r f)))

-- ---- the verdict on every byte string

-- of the entries that come after a row: the first that is refused, and its number
pub data RowVerdict : List Entry → List Entry → ℕ → Type 0 where
  all_accepted : {row : List Entry} → RowVerdict row [] accepted
  above : {row : List Entry} {e : Entry} {entries : List Entry} → places ≤ e.place → RowVerdict row (e ∷ entries) no_place
  repeated : {row : List Entry} {e : Entry} {entries : List Entry} → e.place < places → taken row e.place ≡ true
      → RowVerdict row (e ∷ entries) place_taken
  next : {row : List Entry} {e : Entry} {entries : List Entry} {n : ℕ} → e.place < places → taken row e.place ≡ false
      → RowVerdict (row ++ (e ∷ [])) entries n → RowVerdict row (e ∷ entries) n

pub data Verdict (bytes : List ℕ) : ℕ → Type 0 where
  size_wrong : size_fits bytes ≡ false → Verdict bytes wrong_length
  version : size_fits bytes ≡ true → version_fits bytes ≡ false → Verdict bytes wrong_version
  length_wrong : size_fits bytes ≡ true → version_fits bytes ≡ true → length_fits bytes ≡ false → Verdict bytes wrong_length
  rate : size_fits bytes ≡ true → version_fits bytes ≡ true → length_fits bytes ≡ true → known_rate (rate_in bytes) ≡ false
      → Verdict bytes unknown_rate
  misfit : size_fits bytes ≡ true → version_fits bytes ≡ true → length_fits bytes ≡ true → known_rate (rate_in bytes) ≡ true
      → suits_version bytes ≡ false → Verdict bytes wrong_doubt
  list : size_fits bytes ≡ true → version_fits bytes ≡ true → length_fits bytes ≡ true → known_rate (rate_in bytes) ≡ true
      → suits_version bytes ≡ true → fit_doubt (list_in bytes) ≡ false → Verdict bytes wrong_doubt
  records : {n : ℕ} → size_fits bytes ≡ true → version_fits bytes ≡ true → length_fits bytes ≡ true → known_rate (rate_in bytes) ≡ true
      → suits_version bytes ≡ true → fit_doubt (list_in bytes) ≡ true → RowVerdict [] (records_in bytes) n → Verdict bytes n

pub row-verdict : (book : Book) (entries : List Entry) → RowVerdict book.row entries (deliver_row book entries).number
unfolding with_entry BookOpening.refused_opening
row-verdict book [] = rw (row-none modem64 book) all_accepted
row-verdict book (e ∷ entries) =
    go (dec_lt e.place places) (taken book.row e.place) refl (row-verdict (with_entry book e.place e.column) entries)
  where
    go : Dec (e.place < places) → (b : Bool) → taken book.row e.place ≡ b
        → RowVerdict (with_entry book e.place e.column).row entries (deliver_row (with_entry book e.place e.column) entries).number
        → RowVerdict book.row (e ∷ entries) (deliver_row book (e ∷ entries)).number
    go (yes h) true t ih = rw (row-taken modem64 book e entries h t) (repeated h t)
    go (yes h) false t ih = rw (row_next modem64 book e entries h t) (next h t ih)
    go (no h) b t ih = let k : places ≤ e.place = omega arith in rw (row-above modem64 book e entries k) (above k)

pub row-verdict-only : (book : Book) (entries : List Entry) (n : ℕ) → RowVerdict book.row entries n → (deliver_row book entries).number ≡ n
unfolding with_entry BookOpening.refused_opening
row-verdict-only book [] n all_accepted = rw (row-none modem64 book)
row-verdict-only book (e ∷ entries) n (above h) = rw (row-above modem64 book e entries h)
row-verdict-only book (e ∷ entries) n (repeated h t) = rw (row-taken modem64 book e entries h t)
row-verdict-only book (e ∷ entries) n (next h t v) =
    rw (row_next modem64 book e entries h t) (row-verdict-only (with_entry book e.place e.column) entries n v)

pub verdict : (bytes : List ℕ) → Verdict bytes (open_capture_of bytes).number
unfolding BookOpening.refused_opening new_book
verdict bytes =
    go (size_fits bytes) refl (version_fits bytes) refl (length_fits bytes) refl (known_rate (rate_in bytes)) refl (suits_version bytes) refl
    (fit_doubt (list_in bytes)) refl
  where
    go : (a : Bool) → size_fits bytes ≡ a → (b : Bool) → version_fits bytes ≡ b → (c : Bool) → length_fits bytes ≡ c
        → (d : Bool) → known_rate (rate_in bytes) ≡ d → (g : Bool) → suits_version bytes ≡ g → (e : Bool) → fit_doubt (list_in bytes) ≡ e
        → Verdict bytes (open_capture_of bytes).number
    go false s b v c l d r g m e f = rw (open-size bytes s) (size_wrong s)
    go true s false v c l d r g m e f = rw (open-version bytes s v) (version s v)
    go true s true v false l d r g m e f = rw (open-length bytes s v l) (length_wrong s v l)
    go true s true v true l false r g m e f = rw (open_unknown bytes s v l r) (rate s v l r)
    go true s true v true l true r false m e f = rw (open-misfit bytes s v l r m) (misfit s v l r m)
    go true s true v true l true r true m false f = rw (open-unfit bytes s v l r m f) (list s v l r m f)
    go true s true v true l true r true m true f =
        rw (open-checked bytes s v l r m f) (records s v l r m f (row-verdict (new_book (rate_in bytes) (list_in bytes)) (records_in bytes)))

-- 12 is no capture's number
row-never-blank : {row entries : List Entry} {n : ℕ} → RowVerdict row entries n → n ≢ too_blank
row-never-blank all_accepted e = omega (arith, e)
row-never-blank (above h) e = omega (arith, e)
row-never-blank (repeated h t) e = omega (arith, e)
row-never-blank (next h t v) e = row-never-blank v e

pub capture-never-blank : (bytes : List ℕ) → (open_capture_of bytes).number ≢ too_blank
capture-never-blank bytes = go (verdict bytes)
  where
    go : {n : ℕ} → Verdict bytes n → n ≢ too_blank
    go (size_wrong s) e = omega (arith, e)
    go (version s v) e = omega (arith, e)
    go (length_wrong s v l) e = omega (arith, e)
    go (rate s v l r) e = omega (arith, e)
    go (misfit s v l r m) e = omega (arith, e)
    go (list s v l r m f) e = omega (arith, e)
    go (records s v l r m f w) e = row-never-blank w e

pub verdict-only : (bytes : List ℕ) (n : ℕ) → Verdict bytes n → (open_capture_of bytes).number ≡ n
unfolding BookOpening.refused_opening new_book
verdict-only bytes n (size_wrong s) = rw (open-size bytes s)
verdict-only bytes n (version s v) = rw (open-version bytes s v)
verdict-only bytes n (length_wrong s v l) = rw (open-length bytes s v l)
verdict-only bytes n (rate s v l r) = rw (open_unknown bytes s v l r)
verdict-only bytes n (misfit s v l r m) = rw (open-misfit bytes s v l r m)
verdict-only bytes n (list s v l r m f) = rw (open-unfit bytes s v l r m f)
verdict-only bytes n (records s v l r m f w) =
    rw (open-checked bytes s v l r m f) (row-verdict-only (new_book (rate_in bytes) (list_in bytes)) (records_in bytes) n w)

-- ---- an accepted capture

unfoldable pub book_in : List ℕ → Book
book_in bytes = record { rate = rate_in bytes; doubtful = list_in bytes; row = records_in bytes }

pub record Fit (bytes : List ℕ) : Type 0 where
  pub size-fits : size_fits bytes ≡ true
  pub version-fits : version_fits bytes ≡ true
  pub length-fits : length_fits bytes ≡ true
  pub suits : suits_version bytes ≡ true
  pub opens : open_capture_of bytes ≡ record { number = accepted; book = book_in bytes }
  pub proper : Proper (book_in bytes)

-- the records may stand in any order: of their places it is asked that they are the modem's and different, and no more
pub opens-any-order : (bytes : List ℕ) → size_fits bytes ≡ true → version_fits bytes ≡ true → length_fits bytes ≡ true → known_rate (rate_in bytes) ≡ true
    → suits_version bytes ≡ true → fit_doubt (list_in bytes) ≡ true → below places (places_of (records_in bytes)) ≡ true → distinct (places_of (records_in bytes)) ≡ true
    → open_capture_of bytes ≡ record { number = accepted; book = book_in bytes }
unfolding extended new_book book_in
opens-any-order bytes s v l r m f b d =
    open-checked bytes s v l r m f
    ∙ row-delivered modem64 (new_book (rate_in bytes) (list_in bytes)) (records_in bytes) b d

pub capture-fit : (bytes : List ℕ) → (open_capture_of bytes).number ≡ accepted → Fit bytes
unfolding extended new_book book_in
capture-fit bytes n =
    go (size_fits bytes) refl (version_fits bytes) refl (length_fits bytes) refl (known_rate (rate_in bytes)) refl (suits_version bytes) refl
    (fit_doubt (list_in bytes)) refl
  where
    no-refusal : {o : Outcome} (k : ℕ) → open_capture_of bytes ≡ o → o.number ≡ k → k ≡ accepted
    no-refusal k e f = sym f ∙ sym (ap (λ (x : Outcome). x.number) e) ∙ n

    go : (a : Bool) → size_fits bytes ≡ a → (b : Bool) → version_fits bytes ≡ b → (c : Bool) → length_fits bytes ≡ c
        → (d : Bool) → known_rate (rate_in bytes) ≡ d → (g : Bool) → suits_version bytes ≡ g → (e : Bool) → fit_doubt (list_in bytes) ≡ e
        → Fit bytes
    go false s b v c l d r g m e f = absurd (omega (arith, no-refusal wrong_length (open-size bytes s) (refused-number modem64 wrong_length)))
    go true s false v c l d r g m e f = absurd (omega (arith, no-refusal wrong_version (open-version bytes s v) (refused-number modem64 wrong_version)))
    go true s true v false l d r g m e f = absurd (omega (arith, no-refusal wrong_length (open-length bytes s v l) (refused-number modem64 wrong_length)))
    go true s true v true l false r g m e f =
        absurd (omega (arith, no-refusal unknown_rate (open_unknown bytes s v l r) (refused-number modem64 unknown_rate)))
    go true s true v true l true r false m e f =
        absurd (omega (arith, no-refusal wrong_doubt (open-misfit bytes s v l r m) (refused-number modem64 wrong_doubt)))
    go true s true v true l true r true m false f =
        absurd (omega (arith, no-refusal wrong_doubt (open-unfit bytes s v l r m f) (refused-number modem64 wrong_doubt)))
    go true s true v true l true r true m true f =
        let opened : open_capture_of bytes ≡ deliver_row (new_book (rate_in bytes) (list_in bytes)) (records_in bytes) = open-checked bytes s v l r m f in
        let delivered =
        row-accepted modem64 (new_book (rate_in bytes) (list_in bytes)) (records_in bytes)
        (new-proper modem64 (rate_in bytes) (list_in bytes) r f)
        (records-wide places _)
        (sym (ap (λ (x : Outcome). x.number) opened) ∙ n) in
        record { size-fits = s; version-fits = v; length-fits = l; suits = m; opens = opened ∙ delivered.0; proper = delivered.1 }

pub capture-proper : (bytes : List ℕ) → (open_capture_of bytes).number ≡ accepted → Proper (open_capture_of bytes).book
capture-proper bytes n = let fit = capture-fit bytes n in subst (λ (o : Outcome). Proper o.book) (sym fit.opens) fit.proper

-- ---- a refused capture hands back what a refused opening does

pub capture-refused : (bytes : List ℕ) → ((open_capture_of bytes).number ≡ accepted → ⊥)
    → open_capture_of bytes ≡ refused_opening (open_capture_of bytes).number
capture-refused bytes n =
    go (size_fits bytes) refl (version_fits bytes) refl (length_fits bytes) refl (known_rate (rate_in bytes)) refl (suits_version bytes) refl
    (fit_doubt (list_in bytes)) refl
  where
    by : (k : ℕ) → open_capture_of bytes ≡ refused_opening k → open_capture_of bytes ≡ refused_opening (open_capture_of bytes).number
    by k q = q ∙ ap refused_opening (sym (ap (λ (o : Outcome). o.number) q ∙ refused-number modem64 k))

    go : (a : Bool) → size_fits bytes ≡ a → (b : Bool) → version_fits bytes ≡ b → (c : Bool) → length_fits bytes ≡ c
        → (d : Bool) → known_rate (rate_in bytes) ≡ d → (g : Bool) → suits_version bytes ≡ g → (e : Bool) → fit_doubt (list_in bytes) ≡ e
        → open_capture_of bytes ≡ refused_opening (open_capture_of bytes).number
    go false s b v c l d r g m e f = by wrong_length (open-size bytes s)
    go true s false v c l d r g m e f = by wrong_version (open-version bytes s v)
    go true s true v false l d r g m e f = by wrong_length (open-length bytes s v l)
    go true s true v true l false r g m e f = by unknown_rate (open_unknown bytes s v l r)
    go true s true v true l true r false m e f = by wrong_doubt (open-misfit bytes s v l r m)
    go true s true v true l true r true m false f = by wrong_doubt (open-unfit bytes s v l r m f)
    go true s true v true l true r true m true f =
        let q : open_capture_of bytes ≡ deliver_row (new_book (rate_in bytes) (list_in bytes)) (records_in bytes) = open-checked bytes s v l r m f in
        q
        ∙ refused-row modem64 (new_book (rate_in bytes) (list_in bytes)) (records_in bytes) (λ m. n (ap (λ (o : Outcome). o.number) q ∙ m))
        ∙ ap (λ (o : Outcome). refused_opening o.number) (sym q)
