-- What follows of rows, opening and delivery.
--
--   places_of row         the places of a row, in its order
--   wide row             every column of the row has a cost for each symbol
--   Proper book          what every book has that opening, deliveries and withdrawals lead to: a known rate, a fit list, distinct places of the modem,
--                        columns of a cost for each symbol
--   columns-wide         every column has a cost for each symbol, those of missing places too
--   taken-among          a place is taken exactly if it is among the row's places
--   none_above           the row of a proper book has no place above the last
--   column-append, column-one   the columns of one row after another, and of one entry
--   snoc-here, snoc-other   a row with an entry more has the entry's column at the entry's place, if that was free, and those that it had elsewhere
--   missing-some, some-missing   a place is missing exactly if one of the modem's is not in the row
--   missing-count        of distinct places of the modem one is missing exactly if there are fewer of them than it has
--   open-refused-rate, open-refused-list, open-accepted      the three cases of opening
--   deliver-above, deliver-taken, deliver-accepted           the three cases of delivery
--   deliver-only         it is accepted in the last case alone
--   new-proper, entry-proper   opening gives a proper book, and so does one more entry of a cost for each symbol
use Rattle.std.specs.Prelude.{Bool, ◌&&◌, ◌||◌, ◌≡◌, ◌≢◌, ℕ, suc, ◌<◌, ◌≤◌, ltb, leb}
use Rattle.std.proofs.Math.Bool.{true, false, cond, not}
use Rattle.std.proofs.Common.{true≢false, sym, ◌∙◌, arith}
use Rattle.std.proofs.Math.Path.{refl, ap, fun_ext}
use mathlib.Core.List.{List, [], ◌∷◌, ◌++◌}
use Rattle.std.proofs.Math.Option.{Option, none, some}
use Rattle.std.proofs.Math.Decide.{dec_lt}
use Rattle.std.proofs.Math.Dec.{eqb}
use Rattle.std.proofs.Math.ListN.{length, length-replicate}
use borrow.Author.Tests.{lt-ltb, le-ltb, ltb-true, eq-eqb, ne_eqb, eqb-true, not-true}
use Rattle.refusals.specs.Refusal.{accepted, no_place, place_taken, unknown_rate, wrong_doubt}
use Rattle.lists.specs.Every.{every, every-at, every-false, true-T, T_true}
use Rattle.lists.specs.Distinct.{among, distinct, below, below-among, below-append, below_one, below-nil, distinct_nil, distinct_snoc, distinct-every, and_left, and_right, and_both}
use Rattle.book.specs.Model.{Model, places, width}
use Rattle.book.specs.Book.{Entry, Book, new_book, column_in, present, taken, missing, some_missing, Outcome}
use Rattle.book.specs.Columns.{or_zeros, columns_of, column-free}
use Rattle.book.specs.opening.Opening.{fit_doubt, refused_opening, open_of}
use Rattle.book.specs.rows.Delivery.{with_entry, deliver_of}

unfoldable pub places_of : List Entry → List ℕ
places_of [] = []
places_of (e ∷ row) = e.place ∷ places_of row

pub places-append : (a b : List Entry) → places_of (a ++ b) ≡ places_of a ++ places_of b
unfolding places_of
places-append [] b = refl
places-append (e ∷ a) b = ap (λ (l : List ℕ). e.place ∷ l) (places-append a b)

pub places-length : (row : List Entry) → length (places_of row) ≡ length row
unfolding places_of
places-length [] = refl
places-length (e ∷ row) = ap suc (places-length row)

pub taken-among : (row : List Entry) (p : ℕ) → taken row p ≡ among p (places_of row)
unfolding taken column_in places_of among
taken-among [] p = refl
taken-among (e ∷ row) p = go (eqb e.place p) (taken-among row p)
  where
    go : (b : Bool) → present (column_in row p) ≡ among p (places_of row)
        → present (cond b (some e.column) (column_in row p)) ≡ (b || among p (places_of row))
    go true ih = refl
    go false ih = ih

pub column-append : (a b : List Entry) (p : ℕ) → column_in (a ++ b) p ≡ cond (taken a p) (column_in a p) (column_in b p)
unfolding taken column_in
column-append [] b p = refl
column-append (e ∷ a) b p = go (eqb e.place p) (column-append a b p)
  where
    go : (t : Bool) → column_in (a ++ b) p ≡ cond (present (column_in a p)) (column_in a p) (column_in b p)
        → cond t (some e.column) (column_in (a ++ b) p)
        ≡ cond (present (cond t (some e.column) (column_in a p))) (cond t (some e.column) (column_in a p)) (column_in b p)
    go true ih = refl
    go false ih = ih

pub column-one : (e : Entry) → column_in (e ∷ []) e.place ≡ some e.column
unfolding column_in
column-one e = rw (eq-eqb e.place e.place refl)

one-other : (e : Entry) (p : ℕ) → e.place ≢ p → column_in (e ∷ []) p ≡ none
unfolding column_in
one-other e p ne = rw (ne_eqb e.place p ne)

module _ (row : List Entry) (e : Entry) where
  pub snoc-here : taken row e.place ≡ false → column_in (row ++ (e ∷ [])) e.place ≡ some e.column
  snoc-here free =
      column-append row (e ∷ []) e.place
      ∙ ap (λ b. cond b (column_in row e.place) (column_in (e ∷ []) e.place)) free ∙ column-one e

  pub snoc-other : (p : ℕ) → e.place ≢ p → column_in (row ++ (e ∷ [])) p ≡ column_in row p
  unfolding taken
  snoc-other p ne = column-append row (e ∷ []) p ∙ ap (cond (present (column_in row p)) (column_in row p)) (one-other e p ne) ∙ go (column_in row p)
    where
      go : (o : Option (List ℕ)) → cond (present o) o none ≡ o
      go none = refl
      go (some column) = refl

module _ (𝓓 : Model) where
  open 𝓓 use {known}

  unfoldable pub wide : List Entry → Bool
  wide [] = true
  wide (e ∷ row) = eqb (length e.column) (width 𝓓) && wide row

  pub columns-wide : (row : List Entry) → wide row ≡ true → (p : ℕ) → length (columns_of 𝓓 row p) ≡ width 𝓓
  unfolding columns_of column_in wide
  columns-wide [] w p = length-replicate {A = ℕ} (width 𝓓) 0
  columns-wide (e ∷ row) w p = go (eqb e.place p) (columns-wide row (and_right (eqb (length e.column) (width 𝓓)) (wide row) w) p)
    where
      go : (b : Bool) → length (or_zeros 𝓓 (column_in row p)) ≡ width 𝓓 → length (or_zeros 𝓓 (cond b (some e.column) (column_in row p))) ≡ width 𝓓
      go true ih = eqb-true (length e.column) (width 𝓓) (and_left (eqb (length e.column) (width 𝓓)) (wide row) w)
      go false ih = ih

  pub record Proper (book : Book) : Type 0 where
    pub rate_known : known book.rate ≡ true
    pub list_fit : fit_doubt 𝓓 book.doubtful ≡ true
    pub in_range : below (places 𝓓) (places_of book.row) ≡ true
    pub apart : distinct (places_of book.row) ≡ true
    pub all_wide : wide book.row ≡ true

  pub none_above : (book : Book) → Proper book → (p : ℕ) → places 𝓓 ≤ p → column_in book.row p ≡ none
  none_above book proper p h = column-free book.row p (taken-among book.row p ∙ go (among p (places_of book.row)) refl)
    where
      go : (b : Bool) → among p (places_of book.row) ≡ b → among p (places_of book.row) ≡ false
      go true e = absurd (omega (arith, below-among (places 𝓓) (places_of book.row) p proper.in_range e))
      go false e = e

  -- ---- rows

  pub wide-append : (a b : List Entry) → wide (a ++ b) ≡ (wide a && wide b)
  unfolding wide
  wide-append [] b = refl
  wide-append (e ∷ a) b =
      ap (λ t. eqb (length e.column) (width 𝓓) && t) (wide-append a b) ∙ assoc (eqb (length e.column) (width 𝓓)) (wide a) (wide b)
    where
      assoc : (x y z : Bool) → (x && (y && z)) ≡ (x && y && z)
      assoc true y z = refl
      assoc false y z = refl

  -- ---- a missing place

  pub missing-some : (row : List Entry) (p : ℕ) → missing 𝓓 row p ≡ true → some_missing 𝓓 row ≡ true
  unfolding missing some_missing
  missing-some row p e = go (every (places 𝓓) (taken row)) refl
    where
      go : (b : Bool) → every (places 𝓓) (taken row) ≡ b → not (every (places 𝓓) (taken row)) ≡ true
      go true f =
          absurd
          (true≢false
          (sym
          (T_true (taken row p)
          (every-at (places 𝓓) (taken row) (true-T (every (places 𝓓) (taken row)) f) p
          (ltb-true p (places 𝓓) (and_left (ltb p (places 𝓓)) (not (taken row p)) e))))
          ∙ not-true (taken row p) (and_right (ltb p (places 𝓓)) (not (taken row p)) e)))
      go false f = ap not f

  pub some-missing : (row : List Entry) → some_missing 𝓓 row ≡ true → (p : ℕ) × (missing 𝓓 row p ≡ true)
  unfolding missing some_missing
  some-missing row e =
      let r = every-false (places 𝓓) (taken row) (not-true (every (places 𝓓) (taken row)) e) in
      (r.0, and_both (ltb r.0 (places 𝓓)) (not (taken row r.0)) (lt-ltb r.0 (places 𝓓) r.1) (ap not r.2))

  pub missing-count : (row : List Entry) → below (places 𝓓) (places_of row) ≡ true → distinct (places_of row) ≡ true
      → some_missing 𝓓 row ≡ not (leb (places 𝓓) (length row))
  unfolding some_missing
  missing-count row b d =
      ap not
      (ap (every (places 𝓓)) (fun_ext (taken-among row))
      ∙ distinct-every (places 𝓓) (places_of row) d b ∙ ap (leb (places 𝓓)) (places-length row))

  -- ---- opening and delivery, case by case

  pub open-refused-rate : (rate : ℕ) (list : List ℕ) → known rate ≡ false → open_of 𝓓 rate list ≡ refused_opening 𝓓 unknown_rate
  unfolding open_of
  open-refused-rate rate list e = rw e

  pub open-refused-list : (rate : ℕ) (list : List ℕ) → known rate ≡ true → fit_doubt 𝓓 list ≡ false
      → open_of 𝓓 rate list ≡ refused_opening 𝓓 wrong_doubt
  unfolding open_of
  open-refused-list rate list e f = rw (e, f)

  pub open-accepted : (rate : ℕ) (list : List ℕ) → known rate ≡ true → fit_doubt 𝓓 list ≡ true
      → open_of 𝓓 rate list ≡ record { number = accepted; book = new_book rate list }
  unfolding open_of
  open-accepted rate list e f = rw (e, f)

  module _ (book : Book) (p : ℕ) (column : List ℕ) where
    pub deliver-above : places 𝓓 ≤ p → deliver_of 𝓓 book p column ≡ record { number = no_place; book = book }
    unfolding deliver_of
    deliver-above h = rw (le-ltb p (places 𝓓) h)

    pub deliver-taken : p < places 𝓓 → taken book.row p ≡ true → deliver_of 𝓓 book p column ≡ record { number = place_taken; book = book }
    unfolding deliver_of
    deliver-taken h t = rw (lt-ltb p (places 𝓓) h, t)

    pub deliver-accepted : p < places 𝓓 → taken book.row p ≡ false
        → deliver_of 𝓓 book p column ≡ record { number = accepted; book = with_entry book p column }
    unfolding deliver_of
    deliver-accepted h t = rw (lt-ltb p (places 𝓓) h, t)

    pub deliver-only : (deliver_of 𝓓 book p column).number ≡ accepted → (p < places 𝓓) × (taken book.row p ≡ false)
    deliver-only n = go (dec_lt p (places 𝓓)) (taken book.row p) refl
      where
        go : Dec (p < places 𝓓) → (b : Bool) → taken book.row p ≡ b → (p < places 𝓓) × (taken book.row p ≡ false)
        go (yes h) true t = absurd (omega (arith, sym (ap (λ (o : Outcome). o.number) (deliver-taken h t)) ∙ n))
        go (yes h) false t = (h, t)
        go (no h) b t = absurd (omega (arith, sym (ap (λ (o : Outcome). o.number) (deliver-above (omega arith))) ∙ n))

  -- ---- proper books

  pub new-proper : (rate : ℕ) (list : List ℕ) → known rate ≡ true → fit_doubt 𝓓 list ≡ true → Proper (new_book rate list)
  unfolding new_book places_of wide
  new-proper rate list e f =
      record { rate_known = e; list_fit = f; in_range = below-nil (places 𝓓); apart = distinct_nil; all_wide = refl }

  module _ (book : Book) (p : ℕ) (column : List ℕ) (proper : Proper book) (h : p < places 𝓓) (free : taken book.row p ≡ false)
      (long : length column ≡ width 𝓓) where
    pub entry-proper : Proper (with_entry book p column)
    unfolding with_entry places_of wide
    entry-proper =
        record {
          rate_known = proper.rate_known;
          list_fit = proper.list_fit;
          in_range =
              rw places-append
              (below-append (places 𝓓) (places_of book.row) (p ∷ [])
              ∙ and_both (below (places 𝓓) (places_of book.row)) (below (places 𝓓) (p ∷ [])) proper.in_range (below_one (places 𝓓) p h));
          apart =
              rw places-append (distinct_snoc (places_of book.row) p proper.apart (sym (taken-among book.row p) ∙ free));
          all_wide =
              rw wide-append
              (and_both (wide book.row) (eqb (length column) (width 𝓓) && true) proper.all_wide
              (and_both (eqb (length column) (width 𝓓)) true (eq-eqb (length column) (width 𝓓) long) refl));
        }

  pub wide-cons : (e : Entry) (row : List Entry) → wide (e ∷ row) ≡ true → (length e.column ≡ width 𝓓) × (wide row ≡ true)
  unfolding wide
  wide-cons e row w = (
    eqb-true (length e.column) (width 𝓓) (and_left (eqb (length e.column) (width 𝓓)) (wide row) w),
    and_right (eqb (length e.column) (width 𝓓)) (wide row) w,
  )
