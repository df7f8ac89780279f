-- What follows of the fields of a session: those of a newly opened one are good, and a delivery and a withdrawal keep them so; the book of good ones is
-- proper, and no other good ones have a book that agrees with it. For every modem, so for whatever struct keeps them.
--
--   table-column         the row of a table of costs, as a column
--   row-wide             the places below a bound, each with its column in the table: each column has a cost for each symbol
--   entries-there, entries-away   a row of flagged places has the column of each of them, and no other
--   column-there, column-away     the column of a place whose flag is set stands in the table; a place whose flag is not set has none
--   book-taken           a place is taken exactly if its flag is set
--   good-proper          the book of good fields is proper
--   with-column-agree, with-column-good   with a place and its column more they stand for the longer row, and are good
--   without-column-agree, without-column-good   with the flag of a place not set, and zeros for its column, they stand for the row without it, and are good
--   new-book, new-good   those of a newly opened session stand for a new book, if its list has no more places than the largest doubt, and are good, if
--                        it is fit
--   columns-table        the columns by place are those of the table, at every place: where a place is free both hold zeros
--   missing-taken        a place is missing exactly if not every flag is set
--   close-early, close-full   so closing into buffers of the right sizes is early, or decodes the table's columns by the doubtful list
--   one_held             two good ones whose books agree are one
use Rattle.std.specs.Prelude.{Bool, cond, ◌≡◌, eqb, set, take, replicate}
use Rattle.std.proofs.Math.Bool.{true, false, not, true≢false}
use Rattle.std.proofs.lemmas.Bool.{false≢true}
use Rattle.std.proofs.Math.Path.{refl, sym, ap, ap₂, fun_ext}
use Rattle.std.proofs.Common.{◌∙◌, lt-suc_self, eq-or-lt_of_le, le_of_suc-le-suc, mul_comm, mul-le-mul_left, arith, length-set, ext_get_or, get_or-set_same, get_or-set_other, eq-eqb}
use mathlib.Core.List.{List, [], ◌∷◌, ◌++◌}
use Rattle.std.proofs.Math.Logic.{⊎_elim}
use Rattle.std.proofs.Math.Option.{none, some}
use Prim.Native.Nat.{ℕ, zero, suc, ◌+◌, ◌*◌, ◌<◌, ◌≤◌}
use Rattle.std.proofs.Math.Nat.{le_step}
use Rattle.std.proofs.Math.Decide.{dec_lt, ℕ_discrete}
use Rattle.std.proofs.Math.ListN.{length, get_or, drop, length-replicate, get_or-replicate, take-append-drop, get_or-eq_default}
use Rattle.std.proofs.Math.Seq.{length-take-le}
use Rattle.refusals.specs.Refusal.{place_missing}
use Rattle.lists.specs.Listed.{listed, listed_nil, listed_suc}
use Rattle.lists.specs.Distinct.{and_both}
use Rattle.lists.specs.Every.{every}
use Rattle.lists.specs.Block.{block, put_block, block-length, block_at, put-length, put_same, put_other, block-replicate, block-ext, row-end}
use Rattle.lists.specs.Padded.{padded-length, padded-take, padded-rest}
use Rattle.soft.specs.Column.{column_of}
use Rattle.soft.specs.ColumnLaws as ColumnLaws
use Rattle.soft.specs.ColumnLaws.{cost-column}
use Rattle.book.specs.Model.{Model, places, width}
use Rattle.book.specs.Book.{Entry, Book, new_book, column_in, present, taken, some_missing}
use Rattle.book.specs.opening.Opening.{fit_doubt}
use Rattle.book.specs.opening.OpeningLaws.{list-short}
use Rattle.book.specs.rows.Delivery.{with_entry}
use Rattle.book.specs.rows.Withdrawal.{freed, without_place}
use Rattle.book.proofs.rows.WithdrawalLaws.{freed-here, freed-other}
use Rattle.book.specs.Columns.{columns_of, columns-taken, columns-none, none_free, taken-alike, columns-alike, Agree}
use Rattle.book.specs.rows.RowLaws.{wide, wide-append, Proper, snoc-here, snoc-other, new-proper, entry-proper}
use Rattle.book.specs.closing.Closing.{report_length, refused_closing, decode_of, close_of}
use Rattle.book.proofs.closing.ClosingLaws.{fits-of, close-missing, close-decoded}
use Rattle.book.proofs.tables.Table.{column-beyond}
use Rattle.calls.specs.Held.{Held, taken_below, new_held, all_taken, entry_at, entries_below, book_of, with_column, without_column, Good}

-- ---- columns of a table

pub table-column : (q p : ℕ) (costs : List ℕ) → q * p + q ≤ length costs → block q p costs ≡ column_of q costs p
table-column q p costs h =
    let n : length (block q p costs) ≡ q = block-length q p costs h in
    ext_get_or 0 (block q p costs) (column_of q costs p) (n ∙ sym (ColumnLaws.column-length q costs p))
    (λ i b. block_at q p costs i 0 (omega arith) ∙ ap (λ k. get_or costs (k + i) 0) (mul_comm q p)
    ∙ sym (cost-column q costs p i (omega arith)))

module _ (𝓓 : Model) where
  open 𝓓 use {member, known, most_doubt}

  -- a place has its column within the table
  pub column_fits : (costs : List ℕ) (p : ℕ) → length costs ≡ (places 𝓓 * width 𝓓) → p < places 𝓓 → width 𝓓 * p + width 𝓓 ≤ length costs
  column_fits costs p n h = omega (arith, n, row-end (width 𝓓) p (places 𝓓) h)

  column-length : (costs : List ℕ) (p : ℕ) → length costs ≡ (places 𝓓 * width 𝓓) → p < places 𝓓 → length (block (width 𝓓) p costs) ≡ width 𝓓
  column-length costs p n h = block-length (width 𝓓) p costs (column_fits costs p n h)

  wide-one : (e : Entry) → length e.column ≡ width 𝓓 → wide 𝓓 (e ∷ []) ≡ true
  unfolding wide
  wide-one e h = and_both (eqb (length e.column) (width 𝓓)) true (eq-eqb (length e.column) (width 𝓓) h) refl

  no-wide : wide 𝓓 [] ≡ true
  unfolding wide
  no-wide = refl

  pub row-wide : (costs : List ℕ) (n : ℕ) → length costs ≡ (places 𝓓 * width 𝓓) → n ≤ places 𝓓 → wide 𝓓 (listed n (entry_at 𝓓 costs)) ≡ true
  unfolding entry_at
  row-wide costs zero e h = rw (listed_nil, no-wide)
  row-wide costs (suc n) e h =
      rw (listed_suc, wide-append 𝓓)
      (and_both (wide 𝓓 (listed n (entry_at 𝓓 costs))) (wide 𝓓 (entry_at 𝓓 costs n ∷ [])) (row-wide costs n e (omega arith))
      (wide-one (entry_at 𝓓 costs n) (column-length costs n e h)))

  -- ---- the row of flagged places

  module _ (flags : List Bool) (costs : List ℕ) where
    -- those below n, and with n itself
    abbrev row : ℕ → List Entry
    row n = entries_below 𝓓 flags costs n

    abbrev longer : ℕ → List Entry
    longer n = entries_below 𝓓 flags costs n ++ (entry_at 𝓓 costs n ∷ [])

    entries-away : (n p : ℕ) → (p < n → get_or flags p false ≡ false) → column_in (row n) p ≡ none
    unfolding entries_below entry_at column_in
    entries-away zero p h = refl
    entries-away (suc n) p h = go (get_or flags n false) refl (entries-away n p (λ l. h (le_step l)))
      where
        go : (b : Bool) → get_or flags n false ≡ b → column_in (row n) p ≡ none → column_in (cond b (longer n) (row n)) p ≡ none
        go true e ih =
            snoc-other (row n) (entry_at 𝓓 costs n) p
            (λ (q : n ≡ p). true≢false (sym e ∙ ap (λ x. get_or flags x false) q ∙ h (omega arith)))
            ∙ ih
        go false e ih = ih

    entries-there : (n p : ℕ) → p < n → get_or flags p false ≡ true → column_in (row n) p ≡ some (block (width 𝓓) p costs)
    unfolding entries_below entry_at
    entries-there zero p h t = absurd (omega arith)
    entries-there (suc n) p h t =
        ⊎_elim last (λ l. earlier l (get_or flags n false) (entries-there n p l t)) (eq-or-lt_of_le (le_of_suc-le-suc h))
      where
        earlier : p < n → (b : Bool) → column_in (row n) p ≡ some (block (width 𝓓) p costs)
            → column_in (cond b (longer n) (row n)) p ≡ some (block (width 𝓓) p costs)
        earlier l true ih = snoc-other (row n) (entry_at 𝓓 costs n) p (λ (q : n ≡ p). absurd (omega arith)) ∙ ih
        earlier l false ih = ih

        last : p ≡ n → column_in (cond (get_or flags n false) (longer n) (row n)) p ≡ some (block (width 𝓓) p costs)
        last e =
            let f : get_or flags n false ≡ true = ap (λ x. get_or flags x false) (sym e) ∙ t in
            rw (e, f) (snoc-here (row n) (entry_at 𝓓 costs n) (none_free (row n) n (entries-away n n (λ l. absurd (omega arith)))))

    -- what holds of no entry, and of each longer row if of the one before it, holds of the row
    entries_by : (P : List Entry → Type 0) (n : ℕ) → P [] → ((p : ℕ) → p < n → P (row p) → P (longer p)) → P (row n)
    unfolding entries_below
    entries_by P zero first next = first
    entries_by P (suc n) first next = go (get_or flags n false) (entries_by P n first (λ p h. next p (le_step h)))
      where
        go : (b : Bool) → P (row n) → P (cond b (longer n) (row n))
        go true held = next n (lt-suc_self n) held
        go false held = held

    entries_none : (n : ℕ) → ((p : ℕ) → p < n → get_or flags p false ≡ false) → row n ≡ []
    unfolding entries_below
    entries_none zero h = refl
    entries_none (suc n) h = rw (h n (lt-suc_self n)) (entries_none n (λ p l. h p (le_step l)))

  -- ---- what is good

  module _ (s : Held) (good : Good 𝓓 s) where
    -- beyond the places no flag is set
    flag-beyond : (p : ℕ) → places 𝓓 ≤ p → get_or s.taken p false ≡ false
    flag-beyond p h = let n : length s.taken ≤ p = omega (arith, good.row_room) in get_or-eq_default s.taken false n

    flag-below : (p : ℕ) → get_or s.taken p false ≡ true → p < places 𝓓
    flag-below p t = go (dec_lt p (places 𝓓))
      where
        go : Dec (p < places 𝓓) → p < places 𝓓
        go (yes h) = h
        go (no h) = absurd (false≢true (sym (flag-beyond p (omega arith)) ∙ t))

    pub column-there : (p : ℕ) → get_or s.taken p false ≡ true → column_in (book_of 𝓓 s).row p ≡ some (block (width 𝓓) p s.costs)
    unfolding book_of
    column-there p t = entries-there s.taken s.costs (places 𝓓) p (flag-below p t) t

    pub column-away : (p : ℕ) → get_or s.taken p false ≡ false → column_in (book_of 𝓓 s).row p ≡ none
    unfolding book_of
    column-away p f = entries-away s.taken s.costs (places 𝓓) p (λ h. f)

    pub book-taken : (p : ℕ) → taken (book_of 𝓓 s).row p ≡ get_or s.taken p false
    unfolding taken
    book-taken p = go (get_or s.taken p false) refl
      where
        go : (b : Bool) → get_or s.taken p false ≡ b → present (column_in (book_of 𝓓 s).row p) ≡ get_or s.taken p false
        go true e = ap present (column-there p e) ∙ sym e
        go false e = ap present (column-away p e) ∙ sym e

    pub list_length : length (book_of 𝓓 s).doubtful ≡ s.doubt
    unfolding book_of
    list_length = length-take-le s.doubt s.doubtful (omega (arith, good.doubt_fits, good.list_room))

    -- the book with another row
    rowed : List Entry → Book
    rowed row = record { rate = s.rate; doubtful = take s.doubt s.doubtful; row = row }

    pub good-proper : Proper 𝓓 (book_of 𝓓 s)
    unfolding book_of rowed new_book with_entry entry_at
    good-proper =
        entries_by s.taken s.costs (λ row. Proper 𝓓 (rowed row)) (places 𝓓)
        (new-proper 𝓓 s.rate (take s.doubt s.doubtful) good.rate_known good.list_fit)
        (λ p h proper.
        entry-proper 𝓓 (rowed (entries_below 𝓓 s.taken s.costs p)) p (block (width 𝓓) p s.costs) proper h
        (none_free (entries_below 𝓓 s.taken s.costs p) p (entries-away s.taken s.costs p p (λ l. absurd (omega arith))))
        (column-length s.costs p good.table_room h))

  -- ---- another flag and column at a place

  module _ (s : Held) (p : ℕ) (b : Bool) (column : List ℕ) (good : Good 𝓓 s) (h : p < places 𝓓) (long : length column ≡ width 𝓓)
      (zeros : b ≡ false → column ≡ replicate (width 𝓓) 0) where
    abbrev put : Held
    put =
        record {
          rate = s.rate;
          doubt = s.doubt;
          doubtful = s.doubtful;
          taken = set s.taken p b;
          costs = put_block (width 𝓓) p column s.costs;
        }

    fits : width 𝓓 * p + width 𝓓 ≤ length s.costs
    fits = column_fits s.costs p good.table_room h

    flag-put : get_or (set s.taken p b) p false ≡ b
    flag-put = get_or-set_same s.taken p b false (omega (arith, good.row_room))

    flag-kept : (q : ℕ) → (q ≡ p → ⊥) → get_or (set s.taken p b) q false ≡ get_or s.taken q false
    flag-kept q ne = get_or-set_other s.taken p q b false ne

    column-put : block (width 𝓓) p (put_block (width 𝓓) p column s.costs) ≡ column
    column-put = put_same (width 𝓓) p column s.costs fits long 0

    -- the columns of the other places
    column-kept : (q : ℕ) → q < places 𝓓 → (q ≡ p → ⊥) → block (width 𝓓) q (put_block (width 𝓓) p column s.costs) ≡ block (width 𝓓) q s.costs
    column-kept q l ne = put_other (width 𝓓) p column s.costs fits long 0 q (column_fits s.costs q good.table_room l) ne

    put-good : Good 𝓓 put
    put-good =
        record {
          rate_known = good.rate_known;
          list_room = good.list_room;
          doubt_fits = good.doubt_fits;
          list_fit = good.list_fit;
          list_rest = good.list_rest;
          row_room = length-set s.taken p b ∙ good.row_room;
          table_room = put-length (width 𝓓) p column s.costs fits long ∙ good.table_room;
          table_rest = λ q l a. rest q l a (ℕ_discrete q p);
        }
      where
        rest : (q : ℕ) → q < places 𝓓 → get_or (set s.taken p b) q false ≡ false → Dec (q ≡ p)
            → block (width 𝓓) q (put_block (width 𝓓) p column s.costs) ≡ replicate (width 𝓓) 0
        rest q l a (yes e) = rw e (column-put ∙ zeros (sym flag-put ∙ ap (λ x. get_or (set s.taken p b) x false) (sym e) ∙ a))
        rest q l a (no ne) = column-kept q l ne ∙ good.table_rest q l (sym (flag-kept q ne) ∙ a)

    put-other-column : (q : ℕ) → (q ≡ p → ⊥) → column_in (book_of 𝓓 put).row q ≡ column_in (book_of 𝓓 s).row q
    put-other-column q ne = go (get_or s.taken q false) refl
      where
        go : (f : Bool) → get_or s.taken q false ≡ f → column_in (book_of 𝓓 put).row q ≡ column_in (book_of 𝓓 s).row q
        go true f =
            column-there put put-good q (flag-kept q ne ∙ f) ∙ ap (λ (c : List ℕ). some c) (column-kept q (flag-below s good q f) ne)
            ∙ sym (column-there s good q f)
        go false f = column-away put put-good q (flag-kept q ne ∙ f) ∙ sym (column-away s good q f)

  -- ---- a delivery

  module _ (s : Held) (p : ℕ) (column : List ℕ) (good : Good 𝓓 s) (h : p < places 𝓓) (free : get_or s.taken p false ≡ false)
      (long : length column ≡ width 𝓓) where
    -- the flag is set, so its column need not be zeros
    set-flag : true ≡ false → column ≡ replicate (width 𝓓) 0
    set-flag e = absurd (true≢false e)

    pub with-column-good : Good 𝓓 (with_column 𝓓 s p column)
    unfolding with_column
    with-column-good = put-good s p true column good h long set-flag

    pub with-column-agree : Agree (book_of 𝓓 (with_column 𝓓 s p column)) (with_entry (book_of 𝓓 s) p column)
    unfolding book_of with_column with_entry
    with-column-agree = record { same_rate = refl; same_list = refl; same_columns = λ q. go q (ℕ_discrete q p) }
      where
        e : Entry
        e = record { place = p; column = column }

        go : (q : ℕ) → Dec (q ≡ p) → column_in (book_of 𝓓 (with_column 𝓓 s p column)).row q ≡ column_in ((book_of 𝓓 s).row ++ (e ∷ [])) q
        go q (yes x) =
            rw x
            (column-there (with_column 𝓓 s p column) with-column-good p (flag-put s p true column good h long set-flag)
            ∙ ap (λ (c : List ℕ). some c) (column-put s p true column good h long set-flag)
            ∙ sym (snoc-here (book_of 𝓓 s).row e (book-taken s good p ∙ free)))
        go q (no ne) =
            put-other-column s p true column good h long set-flag q ne ∙ sym (snoc-other (book_of 𝓓 s).row e q (λ x. ne (sym x)))

  -- ---- a withdrawal

  module _ (s : Held) (p : ℕ) (good : Good 𝓓 s) (h : p < places 𝓓) where
    zeros-long : length {A = ℕ} (replicate (width 𝓓) 0) ≡ width 𝓓
    zeros-long = length-replicate {A = ℕ} (width 𝓓) 0

    pub without-column-good : Good 𝓓 (without_column 𝓓 s p)
    unfolding without_column
    without-column-good = put-good s p false (replicate (width 𝓓) 0) good h zeros-long (λ e. refl)

    pub without-column-agree : Agree (book_of 𝓓 (without_column 𝓓 s p)) (without_place (book_of 𝓓 s) p)
    unfolding book_of without_column without_place
    without-column-agree = record { same_rate = refl; same_list = refl; same_columns = λ q. go q (ℕ_discrete q p) }
      where
        go : (q : ℕ) → Dec (q ≡ p) → column_in (book_of 𝓓 (without_column 𝓓 s p)).row q ≡ column_in (freed (book_of 𝓓 s).row p) q
        go q (yes x) =
            rw x
            (column-away (without_column 𝓓 s p) without-column-good p (flag-put s p false (replicate (width 𝓓) 0) good h zeros-long (λ e. refl))
            ∙ sym (freed-here (book_of 𝓓 s).row p))
        go q (no ne) =
            put-other-column s p false (replicate (width 𝓓) 0) good h zeros-long (λ e. refl) q ne ∙ sym (freed-other (book_of 𝓓 s).row p q ne)

  -- ---- an opening

  pub new-book : (rate : ℕ) (list : List ℕ) → length list ≤ most_doubt → book_of 𝓓 (new_held 𝓓 rate list) ≡ new_book rate list
  unfolding book_of new_held new_book
  new-book rate list n =
      λ i. record {
        rate = rate;
        doubtful = padded-take most_doubt list n i;
        row =
            entries_none (replicate (places 𝓓) false) (replicate (places 𝓓 * width 𝓓) 0) (places 𝓓)
            (λ p h. get_or-replicate (places 𝓓) p false false h) i;
      }

  pub new-good : (rate : ℕ) (list : List ℕ) → known rate ≡ true → fit_doubt 𝓓 list ≡ true → Good 𝓓 (new_held 𝓓 rate list)
  unfolding new_held
  new-good rate list r f =
      let n : length list ≤ most_doubt = list-short 𝓓 list f in
      record {
        rate_known = r;
        list_room = padded-length most_doubt list;
        doubt_fits = n;
        list_fit = ap (fit_doubt 𝓓) (padded-take most_doubt list n) ∙ f;
        list_rest = padded-rest most_doubt list;
        row_room = length-replicate {A = Bool} (places 𝓓) false;
        table_room = length-replicate {A = ℕ} (places 𝓓 * width 𝓓) 0;
        table_rest = λ p h a. block-replicate (width 𝓓) p (places 𝓓 * width 𝓓) 0 (omega (arith, row-end (width 𝓓) p (places 𝓓) h));
      }

  -- ---- the table

  module _ (s : Held) (good : Good 𝓓 s) where
    pub columns-table : columns_of 𝓓 (book_of 𝓓 s).row ≡ column_of (width 𝓓) s.costs
    columns-table = fun_ext (λ p. go p (dec_lt p (places 𝓓)) (get_or s.taken p false) refl)
      where
        within : (p : ℕ) → p < places 𝓓 → block (width 𝓓) p s.costs ≡ column_of (width 𝓓) s.costs p
        within p h = table-column (width 𝓓) p s.costs (column_fits s.costs p good.table_room h)

        go : (p : ℕ) → Dec (p < places 𝓓) → (b : Bool) → get_or s.taken p false ≡ b
            → columns_of 𝓓 (book_of 𝓓 s).row p ≡ column_of (width 𝓓) s.costs p
        go p (yes h) true e = columns-taken 𝓓 (book_of 𝓓 s).row p (column-there s good p e) ∙ within p h
        go p (yes h) false e =
            columns-none 𝓓 (book_of 𝓓 s).row p (column-away s good p e) ∙ sym (good.table_rest p h e) ∙ within p h
        go p (no h) b e =
            let f : places 𝓓 ≤ p = omega arith in
            columns-none 𝓓 (book_of 𝓓 s).row p (column-away s good p (flag-beyond s good p f))
            ∙ sym (column-beyond 𝓓 s.costs p good.table_room f)

    pub missing-taken : some_missing 𝓓 (book_of 𝓓 s).row ≡ not (all_taken 𝓓 s.taken)
    unfolding some_missing taken_below
    missing-taken = ap (λ (f : ℕ → Bool). not (every (places 𝓓) f)) (fun_ext (book-taken s good))

  -- ---- closing

  module _ (s : Held) (good : Good 𝓓 s) (message report : List ℕ) (long : length message ≡ s.rate) (whole_report : length report ≡ report_length 𝓓) where
    pub close-early : all_taken 𝓓 s.taken ≡ false → close_of 𝓓 (book_of 𝓓 s) message report ≡ refused_closing place_missing message report
    unfolding book_of
    close-early e =
        close-missing 𝓓 (book_of 𝓓 s) message report (fits-of 𝓓 (book_of 𝓓 s) message report long whole_report)
        (missing-taken s good ∙ ap not e)

    pub close-full : all_taken 𝓓 s.taken ≡ true
        → close_of 𝓓 (book_of 𝓓 s) message report
        ≡ decode_of 𝓓 s.rate (column_of (width 𝓓) s.costs) (take s.doubt s.doubtful) message report
    unfolding book_of
    close-full e =
        close-decoded 𝓓 (book_of 𝓓 s) message report (fits-of 𝓓 (book_of 𝓓 s) message report long whole_report)
        (missing-taken s good ∙ ap not e)
        ∙ ap (λ (f : ℕ → List ℕ). decode_of 𝓓 s.rate f (take s.doubt s.doubtful) message report) (columns-table s good)

  -- ---- books that agree

  module _ (s t : Held) (a : Good 𝓓 s) (b : Good 𝓓 t) (same : Agree (book_of 𝓓 s) (book_of 𝓓 t)) where
    same-doubt : s.doubt ≡ t.doubt
    same-doubt = sym (list_length s a) ∙ ap length same.same_list ∙ list_length t b

    same-doubtful : s.doubtful ≡ t.doubtful
    unfolding book_of
    same-doubtful =
        sym (take-append-drop s.doubt s.doubtful)
        ∙ ap₂ (λ (x y : List ℕ). x ++ y) same.same_list
        (a.list_rest ∙ ap (λ n. drop n (replicate most_doubt 0)) same-doubt ∙ sym b.list_rest)
        ∙ take-append-drop t.doubt t.doubtful

    same_taken : s.taken ≡ t.taken
    same_taken =
        ext_get_or false s.taken t.taken (a.row_room ∙ sym b.row_room)
        (λ p h. sym (book-taken s a p) ∙ taken-alike (book_of 𝓓 s).row (book_of 𝓓 t).row same.same_columns p ∙ book-taken t b p)

    same-table : column_of (width 𝓓) s.costs ≡ column_of (width 𝓓) t.costs
    same-table = sym (columns-table s a) ∙ columns-alike 𝓓 (book_of 𝓓 s).row (book_of 𝓓 t).row same.same_columns ∙ columns-table t b

    same-column : (p : ℕ) → p < places 𝓓 → block (width 𝓓) p s.costs ≡ block (width 𝓓) p t.costs
    same-column p h =
        table-column (width 𝓓) p s.costs (column_fits s.costs p a.table_room h)
        ∙ ap (λ (f : ℕ → List ℕ). f p) same-table
        ∙ sym (table-column (width 𝓓) p t.costs (column_fits t.costs p b.table_room h))

    same-costs : s.costs ≡ t.costs
    same-costs = block-ext 0 (width 𝓓) (places 𝓓) s.costs t.costs (omega (arith, member.square, mul-le-mul_left member.w member.wide)) (omega (arith, a.table_room)) (omega (arith, b.table_room)) same-column

    pub one_held : s ≡ t
    unfolding book_of
    one_held =
        λ i. record {
          rate = same.same_rate i;
          doubt = same-doubt i;
          doubtful = same-doubtful i;
          taken = same_taken i;
          costs = same-costs i;
        }
