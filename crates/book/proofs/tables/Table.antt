-- Table decoding: rate, then sizes, then doubt, then blank places, then nearness; and why it answers as a session does.
--
--   sizes-fit, sizes-unfit   three sizes are those wanted; one of them is not
--   checks-rate, checks-size, checks-fit   the three cases; Checked, checks-passed: what is known where they pass
--   refused-by-checks      a call that begins with these checks answers with their number where they refuse; checks-refused: so does table decoding
--   table-rate, table-size, table-doubt, table-decoded   the four cases
--   table-too-blank, table-blank-only   of the last: it gives 12 exactly where more places are blank than leave a T
--   limit-below, all-blank   at a known rate these are not all: a table of blank columns is refused with 12
--   zero-blank, zero-table   so is one of zero bytes: all its columns are blank
--   table-accepted         an accepted call has no larger doubt than the largest and answers as decoding does
--   picked-most          never more are picked than the doubt says
--   picked_fit           the places picked are a doubtful list that opening accepts
--   delivered-columns, delivered-none-missing   so the row's columns are the table's, and none is missing
--   table-as-session       table decoding answers as closing a book does that was opened with the places picked and got all columns
--   order-delivered, order-accepted   the modem's places in any order: every delivery is accepted, and the row is such a one
use Rattle.std.specs.Prelude.{Bool, cond, ◌&&◌, ◌||◌, ◌≡◌, List, [], ◌∷◌, ◌↔◌, ◌≢◌, ◌⊎◌, eqb, length, get_or, replicate}
use Rattle.std.proofs.Math.Bool.{true, false, not}
use Rattle.std.proofs.Math.Path.{refl, sym, ap, ap₂, fun_ext}
use Rattle.std.proofs.Common.{◌∙◌, subst, ⊎_elim, mul-le-mul_right, arith, ext_get_or}
use Rattle.std.proofs.Math.Option.{none, some}
use Prim.Native.Nat.{ℕ, suc, ◌+◌, ◌*◌, ◌<◌, ◌≤◌}
use Rattle.std.proofs.Math.Decide.{dec_lt}
use Rattle.std.proofs.Math.Dec.{leb}
use Rattle.std.proofs.lemmas.List.{length-replicate, get_or-replicate}
use Rattle.std.proofs.Math.ListN.{get_or-eq_default}
use borrow.Author.Tests.{eqb-true, eq-eqb, leb-true, le-leb, lt-leb}
use Rattle.refusals.specs.Refusal.{accepted, unknown_rate, wrong_size, wrong_doubt, too_blank}
use Rattle.lists.specs.Distinct.{among, below, distinct, below-among, distinct-all, and_left, and_right, and_both}
use Rattle.lists.specs.Count.{count_none}
use Rattle.lists.specs.Every.{every_true}
use Rattle.lists.specs.Listed.{listed_at}
use Rattle.lists.specs.Member.{member-at}
use Rattle.soft.specs.Column as Soft
use Rattle.soft.specs.ColumnLaws.{column-length, cost-column, costs-length}
use Rattle.soft.specs.Doubt.{doubtful_of}
use Rattle.soft.specs.DoubtLaws.{doubtful-most, doubtful-rising, doubtful-below}
use Rattle.soft.specs.Blank.{blank_at, open_at, blanks_of}
use Rattle.soft.specs.BlankLaws.{blank-same, open-count}
use Rattle.near.specs.Near.{blank_limit}
use Rattle.near.specs.Reach.{reach-is}
use Rattle.book.specs.Model.{Model, places, width}
use Rattle.book.specs.Book.{Entry, Book, new_book, column_in, taken, present, some_missing}
use Rattle.book.specs.opening.Opening.{fit_doubt}
use Rattle.book.specs.opening.OpeningLaws.{list-fits}
use Rattle.book.specs.rows.RowLaws.{places_of}
use Rattle.book.specs.rows.Delivery.{deliver_row}
use Rattle.book.specs.rows.RowDelivery.{extended, row-delivered}
use Rattle.book.specs.Columns.{columns_of, columns-taken, columns-none}
use Rattle.book.specs.closing.Closing.{report_length, Closed, refused_closing, decode_of, closing_fits, close_of}
use Rattle.book.proofs.closing.ClosingLaws.{fits_both, close-size, close-decoded, decode-too-blank, decode-blank-only, not-refused}
use Rattle.book.specs.tables.Table.{entries_of, table_length, table_columns, picked_of, table_fits, checks_of, table_of, Checked, Delivered}

-- ---- three sizes, each beside the one wanted

pub sizes-fit : {a b c x y z : ℕ} → a ≡ x → b ≡ y → c ≡ z → (eqb a x && (eqb b y && eqb c z)) ≡ true
sizes-fit {a} {b} {c} {x} {y} {z} e f g =
    and_both (eqb a x) (eqb b y && eqb c z) (eq-eqb a x e) (and_both (eqb b y) (eqb c z) (eq-eqb b y f) (eq-eqb c z g))

pub sizes-unfit : {a b c x y z : ℕ} → (a ≢ x) ⊎ ((b ≢ y) ⊎ (c ≢ z)) → (eqb a x && (eqb b y && eqb c z)) ≡ false
sizes-unfit {a} {b} {c} {x} {y} {z} w = go (eqb a x && (eqb b y && eqb c z)) refl
  where
    go : (t : Bool) → (eqb a x && (eqb b y && eqb c z)) ≡ t → (eqb a x && (eqb b y && eqb c z)) ≡ false
    go true e =
        let r : (eqb b y && eqb c z) ≡ true = and_right (eqb a x) (eqb b y && eqb c z) e in
        absurd
        (⊎_elim (λ n. n (eqb-true a x (and_left (eqb a x) (eqb b y && eqb c z) e)))
        (⊎_elim (λ n. n (eqb-true b y (and_left (eqb b y) (eqb c z) r))) (λ n. n (eqb-true c z (and_right (eqb b y) (eqb c z) r))))
        w)
    go false e = e

-- ---- columns in the order of a list

pub entries-places : (columns : ℕ → List ℕ) (order : List ℕ) → places_of (entries_of columns order) ≡ order
unfolding entries_of places_of
entries-places columns [] = refl
entries-places columns (p ∷ order) = ap (λ (l : List ℕ). p ∷ l) (entries-places columns order)

pub entries-column : (columns : ℕ → List ℕ) (order : List ℕ) (p : ℕ)
    → column_in (entries_of columns order) p ≡ cond (among p order) (some (columns p)) none
unfolding entries_of column_in among
entries-column columns [] p = refl
entries-column columns (q ∷ order) p = go (eqb q p) refl (entries-column columns order p)
  where
    go : (b : Bool) → eqb q p ≡ b → column_in (entries_of columns order) p ≡ cond (among p order) (some (columns p)) none
        → cond b (some (columns q)) (column_in (entries_of columns order) p) ≡ cond (b || among p order) (some (columns p)) none
    go true e ih = ap (λ k. some (columns k)) (eqb-true q p e)
    go false e ih = ih

module _ (𝓓 : Model) where
  open 𝓓 use {member, known, workable, most_doubt}

  -- of zero bytes, however many, each column is blank
  pub zero-blank : (n p : ℕ) → blank_at (table_columns 𝓓 (replicate n 0)) p ≡ true
  unfolding table_columns Soft.costs_from
  zero-blank n p = (blank-same (table_columns 𝓓 (replicate n 0) p)).1 (λ s t ls lt. zero-at s ls ∙ sym (zero-at t lt))
    where
      costs : ℕ
      costs = places 𝓓 * width 𝓓

      byte : (i : ℕ) → Dec (i < n) → ◌≡◌ {A = ℕ} (get_or (replicate n 0) i 0) 0
      byte i (yes l) = get_or-replicate n i 0 0 l
      byte i (no l) = get_or-eq_default (replicate n 0) 0 (omega (arith, length-replicate {A = ℕ} n 0))

      cost : (i : ℕ) → Dec (i < costs) → get_or (Soft.costs_from costs (replicate n 0)) i 0 ≡ 0
      cost i (yes l) =
          listed_at costs i (Soft.cost_from (replicate n 0)) 0 l
          ∙ ap₂ (λ x y. x * 256 + y) (byte (i * 2) (dec_lt (i * 2) n)) (byte (i * 2 + 1) (dec_lt (i * 2 + 1) n))
      cost i (no l) = get_or-eq_default (Soft.costs_from costs (replicate n 0)) 0 (omega (arith, costs-length costs (replicate n 0)))

      zero-at : (s : ℕ) → s < length (table_columns 𝓓 (replicate n 0) p) → Soft.cost_of (table_columns 𝓓 (replicate n 0) p) s ≡ 0
      zero-at s l =
          cost-column (width 𝓓) (Soft.costs_from costs (replicate n 0)) p s (omega (arith, column-length (width 𝓓) (Soft.costs_from costs (replicate n 0)) p))
          ∙ cost (p * width 𝓓 + s) (dec_lt (p * width 𝓓 + s) costs)

  -- as many blank places as the limit says leave a T, so these are not all
  pub limit-below : {rate : ℕ} → known rate ≡ true → blank_limit member rate < places 𝓓
  limit-below {rate} e = omega (arith, (reach-is member (workable rate e) {b = blank_limit member rate} (omega arith)).fits)

  -- ---- the checks of rate and sizes

  module _ (rate given wanted message report : ℕ) where
    abbrev sized : Bool
    sized = eqb given wanted && (eqb message rate && eqb report (report_length 𝓓))

    pub checks-rate : known rate ≡ false → checks_of 𝓓 rate given wanted message report ≡ unknown_rate
    unfolding checks_of
    checks-rate e = rw e

    checks-unfit : known rate ≡ true → sized ≡ false → checks_of 𝓓 rate given wanted message report ≡ wrong_size
    unfolding checks_of
    checks-unfit e f = rw (e, f)

    pub checks-size : known rate ≡ true → (given ≢ wanted) ⊎ ((message ≢ rate) ⊎ (report ≢ (report_length 𝓓)))
        → checks_of 𝓓 rate given wanted message report ≡ wrong_size
    checks-size e w = checks-unfit e (sizes-unfit w)

    checks-fitting : known rate ≡ true → sized ≡ true → checks_of 𝓓 rate given wanted message report ≡ accepted
    unfolding checks_of
    checks-fitting e f = rw (e, f)

    pub checks-fit : known rate ≡ true → given ≡ wanted → message ≡ rate → report ≡ report_length 𝓓
        → checks_of 𝓓 rate given wanted message report ≡ accepted
    checks-fit e whole long whole_report = checks-fitting e (sizes-fit whole long whole_report)

    pub checks-passed : checks_of 𝓓 rate given wanted message report ≡ accepted → Checked 𝓓 rate given wanted message report
    checks-passed n = go (known rate) refl sized refl
      where
        go : (a : Bool) → known rate ≡ a → (b : Bool) → sized ≡ b → Checked 𝓓 rate given wanted message report
        go false e b f = absurd (omega (arith, sym (checks-rate e) ∙ n))
        go true e false f = absurd (omega (arith, sym (checks-unfit e f) ∙ n))
        go true e true f =
            let rest : (eqb message rate && eqb report (report_length 𝓓)) ≡ true = and_right (eqb given wanted) (eqb message rate && eqb report (report_length 𝓓)) f in
            record {
              rated = e;
              whole = eqb-true given wanted (and_left (eqb given wanted) (eqb message rate && eqb report (report_length 𝓓)) f);
              long = eqb-true message rate (and_left (eqb message rate) (eqb report (report_length 𝓓)) rest);
              whole_report = eqb-true report (report_length 𝓓) (and_right (eqb message rate) (eqb report (report_length 𝓓)) rest);
            }

  pub refused-by-checks : (rate given wanted : ℕ) (message report : List ℕ) (rest : Closed)
      → checks_of 𝓓 rate given wanted (length message) (length report) ≢ accepted
      → cond (known rate)
      (cond (eqb given wanted && (eqb (length message) rate && eqb (length report) (report_length 𝓓))) rest (refused_closing wrong_size message report))
      (refused_closing unknown_rate message report)
      ≡ refused_closing (checks_of 𝓓 rate given wanted (length message) (length report)) message report
  refused-by-checks rate given wanted message report rest n = go (known rate) refl (sized rate given wanted (length message) (length report)) refl
    where
      number : ℕ
      number = checks_of 𝓓 rate given wanted (length message) (length report)

      refused : (k : ℕ) → number ≡ k → refused_closing k message report ≡ refused_closing number message report
      refused k e = ap (λ i. refused_closing i message report) (sym e)

      go : (a : Bool) → known rate ≡ a → (b : Bool) → sized rate given wanted (length message) (length report) ≡ b
          → cond (known rate)
          (cond (sized rate given wanted (length message) (length report)) rest (refused_closing wrong_size message report))
          (refused_closing unknown_rate message report)
          ≡ refused_closing number message report
      go false e b f = rw e (refused unknown_rate (checks-rate rate given wanted (length message) (length report) e))
      go true e false f = rw (e, f) (refused wrong_size (checks-unfit rate given wanted (length message) (length report) e f))
      go true e true f = absurd (n (checks-fitting rate given wanted (length message) (length report) e f))

  -- ---- the four cases

  module _ (rate : ℕ) (table : List ℕ) (doubt : ℕ) (message report : List ℕ) where
    pub table-rate : known rate ≡ false → table_of 𝓓 rate table doubt message report ≡ refused_closing unknown_rate message report
    unfolding table_of
    table-rate e = rw e

    module _ (known : known rate ≡ true) where
      unfit : table_fits 𝓓 rate table message report ≡ false → table_of 𝓓 rate table doubt message report ≡ refused_closing wrong_size message report
      unfolding table_of
      unfit f = rw (known, f)

      pub table-size : (length table ≢ table_length 𝓓) ⊎ ((length message ≢ rate) ⊎ (length report ≢ (report_length 𝓓)))
          → table_of 𝓓 rate table doubt message report ≡ refused_closing wrong_size message report
      unfolding table_fits
      table-size w = unfit (sizes-unfit w)

      module _ (whole : length table ≡ table_length 𝓓) (long : length message ≡ rate) (whole_report : length report ≡ report_length 𝓓) where
        fits : table_fits 𝓓 rate table message report ≡ true
        unfolding table_fits
        fits = sizes-fit whole long whole_report

        pub table-doubt : most_doubt < doubt → table_of 𝓓 rate table doubt message report ≡ refused_closing wrong_doubt message report
        unfolding table_of
        table-doubt h = rw (known, fits, lt-leb doubt most_doubt h)

        pub table-decoded : doubt ≤ most_doubt
            → table_of 𝓓 rate table doubt message report ≡ decode_of 𝓓 rate (table_columns 𝓓 table) (picked_of 𝓓 table doubt) message report
        unfolding table_of
        table-decoded h = rw (known, fits, le-leb doubt most_doubt h)

        pub table-too-blank : doubt ≤ most_doubt → blank_limit member rate < blanks_of (places 𝓓) (table_columns 𝓓 table)
            → table_of 𝓓 rate table doubt message report ≡ refused_closing too_blank message report
        table-too-blank h b = table-decoded h ∙ decode-too-blank 𝓓 rate (table_columns 𝓓 table) (picked_of 𝓓 table doubt) message report b

        pub table-blank-only : doubt ≤ most_doubt
            → ((table_of 𝓓 rate table doubt message report).number ≡ too_blank) ↔ (blank_limit member rate < blanks_of (places 𝓓) (table_columns 𝓓 table))
        table-blank-only h =
            subst (λ (c : Closed). (c.number ≡ too_blank) ↔ (blank_limit member rate < blanks_of (places 𝓓) (table_columns 𝓓 table))) (sym (table-decoded h))
            (decode-blank-only 𝓓 rate (table_columns 𝓓 table) (picked_of 𝓓 table doubt) message report)

        pub all-blank : doubt ≤ most_doubt → ((p : ℕ) → p < places 𝓓 → blank_at (table_columns 𝓓 table) p ≡ true)
            → table_of 𝓓 rate table doubt message report ≡ refused_closing too_blank message report
        all-blank h blank =
            table-too-blank h
            (omega (
              arith,
              limit-below known,
              open-count (places 𝓓) (table_columns 𝓓 table),
              count_none (places 𝓓) (open_at (table_columns 𝓓 table)) (λ p l. ap not (blank p l)),
            ))

    pub checks-refused : checks_of 𝓓 rate (length table) (table_length 𝓓) (length message) (length report) ≢ accepted
        → table_of 𝓓 rate table doubt message report
        ≡ refused_closing (checks_of 𝓓 rate (length table) (table_length 𝓓) (length message) (length report)) message report
    unfolding table_of table_fits
    checks-refused n =
        refused-by-checks rate (length table) (table_length 𝓓) message report
        (cond (leb doubt most_doubt) (decode_of 𝓓 rate (table_columns 𝓓 table) (picked_of 𝓓 table doubt) message report)
        (refused_closing wrong_doubt message report))
        n

    pub table-accepted : (table_of 𝓓 rate table doubt message report).number ≡ accepted
        → (doubt ≤ most_doubt)
        × (table_of 𝓓 rate table doubt message report ≡ decode_of 𝓓 rate (table_columns 𝓓 table) (picked_of 𝓓 table doubt) message report)
    unfolding table_of
    table-accepted n = go (known rate) refl (table_fits 𝓓 rate table message report) refl (leb doubt most_doubt) refl
      where
        go : (a : Bool) → known rate ≡ a → (b : Bool) → table_fits 𝓓 rate table message report ≡ b → (c : Bool) → leb doubt most_doubt ≡ c
            → (doubt ≤ most_doubt)
            × (table_of 𝓓 rate table doubt message report ≡ decode_of 𝓓 rate (table_columns 𝓓 table) (picked_of 𝓓 table doubt) message report)
        go false e b f c g = absurd (omega (arith, not-refused message report n unknown_rate (table-rate e)))
        go true e false f c g = absurd (omega (arith, not-refused message report n wrong_size (unfit e f)))
        go true e true f false g = absurd (omega (arith, not-refused {c = table_of 𝓓 rate table doubt message report} message report n wrong_doubt (rw (e, f, g))))
        go true e true f true g = (leb-true doubt most_doubt g, rw (e, f, g))

  pub zero-table : {rate : ℕ} → known rate ≡ true → (doubt : ℕ) → doubt ≤ most_doubt → (message report : List ℕ) → length message ≡ rate
      → length report ≡ report_length 𝓓 → table_of 𝓓 rate (replicate (table_length 𝓓) 0) doubt message report ≡ refused_closing too_blank message report
  zero-table {rate} known doubt few message report long whole_report =
      all-blank rate (replicate (table_length 𝓓) 0) doubt message report known (length-replicate {A = ℕ} (table_length 𝓓) 0) long whole_report few
      (λ p l. zero-blank (table_length 𝓓) p)

  -- ---- the places picked

  pub picked-most : (table : List ℕ) (doubt : ℕ) → length (picked_of 𝓓 table doubt) ≤ doubt
  unfolding picked_of
  picked-most table doubt = doubtful-most (places 𝓓) doubt (table_columns 𝓓 table)

  module _ (table : List ℕ) (doubt : ℕ) (few : doubt ≤ most_doubt) where
    pub picked_fit : fit_doubt 𝓓 (picked_of 𝓓 table doubt) ≡ true
    unfolding picked_of
    picked_fit =
        let list = doubtful_of (places 𝓓) doubt (table_columns 𝓓 table) in
        (list-fits 𝓓)
        (record {
          short = omega (arith, few, doubtful-most (places 𝓓) doubt (table_columns 𝓓 table));
          in_range = λ i l. omega (arith, doubtful-below (places 𝓓) doubt (table_columns 𝓓 table) (get_or list i 0) (member-at list 0 i l));
          rises = λ i l. (doubtful-rising (places 𝓓) doubt (table_columns 𝓓 table)).rises i (suc i) (omega arith) l;
        })

  -- ---- as a session

  -- behind the table there are zeros
  pub column-beyond : (costs : List ℕ) (p : ℕ) → length costs ≡ places 𝓓 * width 𝓓 → places 𝓓 ≤ p
      → Soft.column_of (width 𝓓) costs p ≡ replicate (width 𝓓) 0
  column-beyond costs p n h =
      sym
      (ext_get_or 0 (replicate (width 𝓓) 0) (Soft.column_of (width 𝓓) costs p)
      (length-replicate {A = ℕ} (width 𝓓) 0 ∙ sym (column-length (width 𝓓) costs p))
      (λ i b.
      let l : i < width 𝓓 = omega (arith, length-replicate {A = ℕ} (width 𝓓) 0) in
      get_or-replicate (width 𝓓) i 0 0 l ∙ sym (cost-column (width 𝓓) costs p i l ∙ get_or-eq_default costs 0 (omega (arith, n, mul-le-mul_right (width 𝓓) h)))))

  module _ (table : List ℕ) (row : List Entry) (all : Delivered 𝓓 table row) where
    pub delivered-columns : columns_of 𝓓 row ≡ table_columns 𝓓 table
    unfolding table_columns
    delivered-columns = fun_ext (λ p. go p (dec_lt p (places 𝓓)))
      where
        go : (p : ℕ) → Dec (p < places 𝓓) → columns_of 𝓓 row p ≡ Soft.column_of (width 𝓓) (Soft.costs_from (places 𝓓 * width 𝓓) table) p
        go p (yes h) = columns-taken 𝓓 row p (all.there p h)
        go p (no h) =
            columns-none 𝓓 row p (all.nothing_else p (omega arith))
            ∙ sym (column-beyond (Soft.costs_from (places 𝓓 * width 𝓓) table) p (costs-length (places 𝓓 * width 𝓓) table) (omega arith))

    pub delivered-none-missing : some_missing 𝓓 row ≡ false
    unfolding some_missing
    delivered-none-missing = ap not (every_true (places 𝓓) (taken row) (λ p h. unfold taken in ap present (all.there p h)))

  module _ (rate : ℕ) (table : List ℕ) (doubt : ℕ) (known : known rate ≡ true) (whole : length table ≡ table_length 𝓓)
      (few : doubt ≤ most_doubt) (row : List Entry) (all : Delivered 𝓓 table row) (message report : List ℕ) where
    -- the book that was opened with the places picked, and to which all columns were delivered
    abbrev pub book_for : Book
    book_for = record { rate = rate; doubtful = picked_of 𝓓 table doubt; row = row }

    unfitting : closing_fits 𝓓 book_for message report ≡ false → table_fits 𝓓 rate table message report ≡ false
    unfolding table_fits closing_fits
    unfitting e = ap₂ (λ a b. a && b) (eq-eqb (length table) (table_length 𝓓) whole) e

    pub table-as-session : table_of 𝓓 rate table doubt message report ≡ close_of 𝓓 book_for message report
    table-as-session = go (closing_fits 𝓓 book_for message report) refl
      where
        go : (b : Bool) → closing_fits 𝓓 book_for message report ≡ b → table_of 𝓓 rate table doubt message report ≡ close_of 𝓓 book_for message report
        go true e =
            let f = fits_both 𝓓 book_for message report e in
            table-decoded rate table doubt message report known whole f.0 f.1 few
            ∙ ap (λ (columns : ℕ → List ℕ). decode_of 𝓓 rate columns (picked_of 𝓓 table doubt) message report) (sym (delivered-columns table row all))
            ∙ sym (close-decoded 𝓓 book_for message report e (delivered-none-missing table row all))
        go false e = unfit rate table doubt message report known (unfitting e) ∙ sym (close-size 𝓓 book_for message report e)

  -- ---- the columns delivered in any order

  module _ (table order : List ℕ) (apart : distinct order ≡ true) (in_range : below (places 𝓓) order ≡ true) (every_place : length order ≡ places 𝓓) where
    pub order-delivered : Delivered 𝓓 table (entries_of (table_columns 𝓓 table) order)
    order-delivered =
        record {
          there = λ p h.
              entries-column (table_columns 𝓓 table) order p
              ∙ ap (λ b. cond b (some (table_columns 𝓓 table p)) none) (distinct-all (places 𝓓) order p apart in_range (omega arith) h);
          nothing_else = λ p h.
              entries-column (table_columns 𝓓 table) order p ∙ ap (λ b. cond b (some (table_columns 𝓓 table p)) none) (outside p h (among p order) refl);
        }
      where
        outside : (p : ℕ) → places 𝓓 ≤ p → (b : Bool) → among p order ≡ b → among p order ≡ false
        outside p h true e = absurd (omega (arith, below-among (places 𝓓) order p in_range e))
        outside p h false e = e

    -- each delivery is accepted, and the book is the one that closes as the table decodes
    pub order-accepted : (rate : ℕ) (list : List ℕ)
        → deliver_row 𝓓 (new_book rate list) (entries_of (table_columns 𝓓 table) order)
        ≡ record { number = accepted; book = record { rate = rate; doubtful = list; row = entries_of (table_columns 𝓓 table) order } }
    unfolding new_book extended
    order-accepted rate list =
        row-delivered 𝓓 (new_book rate list) (entries_of (table_columns 𝓓 table) order)
        (ap (below (places 𝓓)) (entries-places (table_columns 𝓓 table) order) ∙ in_range)
        (ap distinct (entries-places (table_columns 𝓓 table) order) ∙ apart)
