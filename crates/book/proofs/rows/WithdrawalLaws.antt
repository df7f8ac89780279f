-- What follows of withdrawals, in the book of every modem.
--
--   freed-here, freed-other     a row without a place has no column of it, and the others' as they were
--   freed-column, freed-taken   so its columns, and what is taken in it, by the row's
--   freed-member         its entries are the row's
--   freed-append, freed-absent, freed-swap   of one row after another; of a place that is not in the row; of two places, in either order
--   entry-without        an entry at a free place, and then without that place: the book as it was
--   without-entry, without-swap   without a place, and with an entry at another one or without another one, in either order
--   without-proper, without-costs, without-agree   a book without a place is proper, its row's columns are columns, and it agrees with another, as before
--   withdraw-above, withdraw-free, withdraw-accepted   the three cases of a withdrawal
--   withdraw-only        it is accepted in the last case alone
--   withdraw-kept, withdraw-held   a refused one leaves the book as it was, and none changes its rate or its list
--   withdraw-proper, withdraw-costs   proper books and rows of columns stay so
--   withdraw-alike       a withdrawal from books that agree has outcomes that agree
--   deliver-without, withdraw-without   while a place is taken, an accepted delivery, and an accepted withdrawal of another place, leave it so, and the book
--                        without the place takes them alike
use Rattle.std.specs.Prelude.{Bool, false, cond, ◌≡◌, refl, ◌≢◌, ℕ, ◌<◌, ◌≤◌, eqb, ltb, length}
use Rattle.std.proofs.Math.Bool.{true, not}
use Rattle.std.proofs.Common.{true≢false, sym, ◌∙◌, ⊎_elim, arith, lt-ltb, le-ltb, eqb-true, eq-eqb, ne_eqb}
use Rattle.std.proofs.Math.Path.{ap, ap₂}
use mathlib.Core.List.Memᴰ
use mathlib.Core.List.{List, [], ◌∷◌, ◌++◌, append-nil, Memᴰ}
use Rattle.std.proofs.Math.Option.{none, some}
use Rattle.std.proofs.Math.Decide.{dec_lt}
use Rattle.std.proofs.lemmas.Bool.{eqb-false, not-true}
use Rattle.refusals.specs.Refusal.{accepted, no_place, not_taken}
use Rattle.lists.specs.Distinct.{among, distinct, below, and_left, and_right, and_both}
use Rattle.book.specs.Model.{Model, places, width}
use Rattle.book.specs.Book.{Entry, Book, column_in, present, taken, Outcome}
use Rattle.book.specs.Columns.{taken-alike, Agree}
use Rattle.book.specs.rows.Delivery.{with_entry, deliver_of}
use Rattle.book.specs.rows.Withdrawal.{freed, without_place, withdraw_of}
use Rattle.book.specs.rows.RowLaws.{places_of, wide, Proper, taken-among, snoc-other, deliver-accepted, deliver-only}
use Rattle.book.specs.rows.AlikeDelivery.{Agreed}
use Rattle.book.specs.rows.Costs.{RowColumns}

-- ---- the row without a place

freed-nil : (p : ℕ) → freed [] p ≡ []
unfolding freed
freed-nil p = refl

module _ (e : Entry) (row : List Entry) (p : ℕ) where
  freed-gone : eqb e.place p ≡ true → freed (e ∷ row) p ≡ freed row p
  unfolding freed
  freed-gone f = rw f

  freed-stays : eqb e.place p ≡ false → freed (e ∷ row) p ≡ e ∷ freed row p
  unfolding freed
  freed-stays f = rw f

-- what holds of no entry, and of a row with an entry more if of the row, whether or not the entry goes
freed-by : (p : ℕ) (P : List Entry → List Entry → Type 0) → P [] []
    → ((e : Entry) (row : List Entry) → e.place ≡ p → P row (freed row p) → P (e ∷ row) (freed row p))
    → ((e : Entry) (row : List Entry) → e.place ≢ p → P row (freed row p) → P (e ∷ row) (e ∷ freed row p))
    → (row : List Entry) → P row (freed row p)
unfolding freed
freed-by p P empty gone stays [] = empty
freed-by p P empty gone stays (e ∷ row) = go (eqb e.place p) refl (freed-by p P empty gone stays row)
  where
    go : (b : Bool) → eqb e.place p ≡ b → P row (freed row p) → P (e ∷ row) (cond b (freed row p) (e ∷ freed row p))
    go true f ih = gone e row (eqb-true e.place p f) ih
    go false f ih = stays e row (eqb-false e.place p f) ih

pub freed-here : (row : List Entry) (p : ℕ) → column_in (freed row p) p ≡ none
unfolding column_in
freed-here row p =
    freed-by p (λ row left. column_in left p ≡ none) refl (λ e row q ih. ih)
    (λ e row ne ih. ap (λ b. cond b (some e.column) (column_in (freed row p) p)) (ne_eqb e.place p ne) ∙ ih)
    row

pub freed-other : (row : List Entry) (p q : ℕ) → q ≢ p → column_in (freed row p) q ≡ column_in row q
unfolding column_in
freed-other row p q other =
    freed-by p (λ row left. column_in left q ≡ column_in row q) refl
    (λ e row here ih. ih ∙ sym (ap (λ b. cond b (some e.column) (column_in row q)) (ne_eqb e.place q (λ x. other (sym x ∙ here)))))
    (λ e row ne ih. ap (cond (eqb e.place q) (some e.column)) ih) row

pub freed-column : (row : List Entry) (p q : ℕ) → column_in (freed row p) q ≡ cond (eqb q p) none (column_in row q)
freed-column row p q = go (eqb q p) refl
  where
    go : (b : Bool) → eqb q p ≡ b → column_in (freed row p) q ≡ cond b none (column_in row q)
    go true f = ap (column_in (freed row p)) (eqb-true q p f) ∙ freed-here row p
    go false f = freed-other row p q (eqb-false q p f)

pub freed-taken : (row : List Entry) (p q : ℕ) → taken (freed row p) q ≡ cond (eqb q p) false (taken row q)
unfolding taken
freed-taken row p q = ap present (freed-column row p q) ∙ go (eqb q p)
  where
    go : (b : Bool) → present (cond b none (column_in row q)) ≡ cond b false (present (column_in row q))
    go true = refl
    go false = refl

pub freed-member : (row : List Entry) (p : ℕ) {e : Entry} → Memᴰ e (freed row p) → Memᴰ e row
freed-member row p {e} =
    freed-by p (λ row left. Memᴰ e left → Memᴰ e row) (λ m. m) (λ x row here ih m. Memᴰ.tail (ih m))
    (λ x row ne ih m. ⊎_elim (λ f. Memᴰ.head f) (λ l. Memᴰ.tail (ih l)) (Memᴰ.cases_cons m)) row

pub freed-append : (a b : List Entry) (p : ℕ) → freed (a ++ b) p ≡ freed a p ++ freed b p
unfolding freed
freed-append [] b p = refl
freed-append (e ∷ a) b p = go (eqb e.place p) (freed-append a b p)
  where
    go : (t : Bool) → freed (a ++ b) p ≡ freed a p ++ freed b p
        → cond t (freed (a ++ b) p) (e ∷ freed (a ++ b) p) ≡ cond t (freed a p) (e ∷ freed a p) ++ freed b p
    go true ih = ih
    go false ih = ap (λ (l : List Entry). e ∷ l) ih

pub freed-absent : (row : List Entry) (p : ℕ) → taken row p ≡ false → freed row p ≡ row
unfolding taken column_in
freed-absent row p =
    freed-by p (λ row left. taken row p ≡ false → left ≡ row) (λ t. refl)
    (λ e row here ih t.
    absurd (true≢false (sym (ap (λ b. present (cond b (some e.column) (column_in row p))) (eq-eqb e.place p here)) ∙ t)))
    (λ e row ne ih t.
    ap (λ (l : List Entry). e ∷ l)
    (ih (sym (ap (λ b. present (cond b (some e.column) (column_in row p))) (ne_eqb e.place p ne)) ∙ t))) row

pub freed-swap : (row : List Entry) (p q : ℕ) → freed (freed row p) q ≡ freed (freed row q) p
freed-swap [] p q = ap (λ l. freed l q) (freed-nil p) ∙ freed-nil q ∙ sym (ap (λ l. freed l p) (freed-nil q) ∙ freed-nil p)
freed-swap (e ∷ row) p q = go (eqb e.place p) refl (eqb e.place q) refl (freed-swap row p q)
  where
    go : (a : Bool) → eqb e.place p ≡ a → (b : Bool) → eqb e.place q ≡ b → freed (freed row p) q ≡ freed (freed row q) p
        → freed (freed (e ∷ row) p) q ≡ freed (freed (e ∷ row) q) p
    go true f true g ih = ap (λ l. freed l q) (freed-gone e row p f) ∙ ih ∙ sym (ap (λ l. freed l p) (freed-gone e row q g))
    go true f false g ih =
        ap (λ l. freed l q) (freed-gone e row p f) ∙ ih
        ∙ sym (ap (λ l. freed l p) (freed-stays e row q g) ∙ freed-gone e (freed row q) p f)
    go false f true g ih =
        ap (λ l. freed l q) (freed-stays e row p f) ∙ freed-gone e (freed row p) q g ∙ ih
        ∙ sym (ap (λ l. freed l p) (freed-gone e row q g))
    go false f false g ih =
        ap (λ l. freed l q) (freed-stays e row p f) ∙ freed-stays e (freed row p) q g ∙ ap (λ (l : List Entry). e ∷ l) ih
        ∙ sym (ap (λ l. freed l p) (freed-stays e row q g) ∙ freed-stays e (freed row q) p f)

-- ---- the book without a place

-- the book with another row
rowed : Book → List Entry → Book
rowed book row = record { rate = book.rate; doubtful = book.doubtful; row = row }

module _ (book : Book) (p : ℕ) where
  pub entry-without : (column : List ℕ) → taken book.row p ≡ false → without_place (with_entry book p column) p ≡ book
  unfolding without_place with_entry rowed
  entry-without column free =
      let last : List Entry = record { place = p; column = column } ∷ [] in
      ap (rowed book)
      (freed-append book.row last p
      ∙ ap₂ (λ (a b : List Entry). a ++ b) (freed-absent book.row p free)
      (freed-gone (record { place = p; column = column }) [] p (eq-eqb p p refl) ∙ freed-nil p)
      ∙ append-nil book.row)

  -- another place is taken with an entry more as without it
  entry-taken : (q : ℕ) (column : List ℕ) → q ≢ p → taken (with_entry book q column).row p ≡ taken book.row p
  unfolding with_entry taken
  entry-taken q column other = ap present (snoc-other book.row (record { place = q; column = column }) p other)

  pub without-entry : (q : ℕ) (column : List ℕ) → q ≢ p → without_place (with_entry book q column) p ≡ with_entry (without_place book p) q column
  unfolding without_place with_entry rowed
  without-entry q column other =
      let e : Entry = record { place = q; column = column } in
      ap (rowed book)
      (freed-append book.row (e ∷ []) p
      ∙ ap (λ (l : List Entry). freed book.row p ++ l)
      (freed-stays e [] p (ne_eqb q p other) ∙ ap (λ (l : List Entry). e ∷ l) (freed-nil p)))

  -- another place is taken in it as in the book
  pub without-taken : (q : ℕ) → q ≢ p → taken (without_place book p).row q ≡ taken book.row q
  unfolding without_place taken
  without-taken q other = ap present (freed-other book.row p q other)

  pub without-swap : (q : ℕ) → without_place (without_place book q) p ≡ without_place (without_place book p) q
  unfolding without_place rowed
  without-swap q = ap (rowed book) (freed-swap book.row q p)

pub without-agree : {a b : Book} → Agree a b → (p : ℕ) → Agree (without_place a p) (without_place b p)
unfolding without_place
without-agree {a} {b} same p =
    record {
      same_rate = same.same_rate;
      same_list = same.same_list;
      same_columns = λ q.
          freed-column a.row p q ∙ ap (cond (eqb q p) none) (same.same_columns q) ∙ sym (freed-column b.row p q);
    }

module _ (𝓓 : Model) where
  freed-below : (row : List Entry) (p : ℕ) → below (places 𝓓) (places_of row) ≡ true → below (places 𝓓) (places_of (freed row p)) ≡ true
  unfolding places_of below
  freed-below row p =
      freed-by p (λ row left. below (places 𝓓) (places_of row) ≡ true → below (places 𝓓) (places_of left) ≡ true) (λ b. b)
      (λ e row here ih b. ih (and_right (ltb e.place (places 𝓓)) (below (places 𝓓) (places_of row)) b))
      (λ e row ne ih b.
      and_both (ltb e.place (places 𝓓)) (below (places 𝓓) (places_of (freed row p)))
      (and_left (ltb e.place (places 𝓓)) (below (places 𝓓) (places_of row)) b)
      (ih (and_right (ltb e.place (places 𝓓)) (below (places 𝓓) (places_of row)) b)))
      row

  freed-wide : (row : List Entry) (p : ℕ) → wide 𝓓 row ≡ true → wide 𝓓 (freed row p) ≡ true
  unfolding wide
  freed-wide row p =
      freed-by p (λ row left. wide 𝓓 row ≡ true → wide 𝓓 left ≡ true) (λ w. w)
      (λ e row here ih w. ih (and_right (eqb (length e.column) (width 𝓓)) (wide 𝓓 row) w))
      (λ e row ne ih w.
      and_both (eqb (length e.column) (width 𝓓)) (wide 𝓓 (freed row p)) (and_left (eqb (length e.column) (width 𝓓)) (wide 𝓓 row) w)
      (ih (and_right (eqb (length e.column) (width 𝓓)) (wide 𝓓 row) w)))
      row

  -- what is not among the row's places is not among those left
  freed-fresh : (row : List Entry) (p q : ℕ) → among q (places_of row) ≡ false → among q (places_of (freed row p)) ≡ false
  freed-fresh row p q f =
      sym (taken-among (freed row p) q) ∙ freed-taken row p q ∙ ap (cond (eqb q p) false) (taken-among row q ∙ f) ∙ go (eqb q p)
    where
      go : (b : Bool) → cond b false false ≡ false
      go true = refl
      go false = refl

  freed-distinct : (row : List Entry) (p : ℕ) → distinct (places_of row) ≡ true → distinct (places_of (freed row p)) ≡ true
  unfolding places_of distinct
  freed-distinct row p =
      freed-by p (λ row left. distinct (places_of row) ≡ true → distinct (places_of left) ≡ true) (λ d. d)
      (λ e row here ih d. ih (and_right (not (among e.place (places_of row))) (distinct (places_of row)) d))
      (λ e row ne ih d.
      and_both (not (among e.place (places_of (freed row p)))) (distinct (places_of (freed row p)))
      (ap not
      (freed-fresh row p e.place
      (not-true (among e.place (places_of row)) (and_left (not (among e.place (places_of row))) (distinct (places_of row)) d))))
      (ih (and_right (not (among e.place (places_of row))) (distinct (places_of row)) d)))
      row

  pub without-proper : {book : Book} → Proper 𝓓 book → (p : ℕ) → Proper 𝓓 (without_place book p)
  unfolding without_place
  without-proper {book} proper p =
      record {
        rate_known = proper.rate_known;
        list_fit = proper.list_fit;
        in_range = freed-below book.row p proper.in_range;
        apart = freed-distinct book.row p proper.apart;
        all_wide = freed-wide book.row p proper.all_wide;
      }

  pub without-costs : (book : Book) (p : ℕ) → RowColumns 𝓓 book.row → RowColumns 𝓓 (without_place book p).row
  unfolding without_place
  without-costs book p all e m = all e (freed-member book.row p m)

  -- ---- a withdrawal, case by case

  module _ (book : Book) (p : ℕ) where
    pub withdraw-above : places 𝓓 ≤ p → withdraw_of 𝓓 book p ≡ record { number = no_place; book = book }
    unfolding withdraw_of
    withdraw-above h = rw (le-ltb p (places 𝓓) h)

    pub withdraw-free : p < places 𝓓 → taken book.row p ≡ false → withdraw_of 𝓓 book p ≡ record { number = not_taken; book = book }
    unfolding withdraw_of
    withdraw-free h t = rw (lt-ltb p (places 𝓓) h, t)

    pub withdraw-accepted : p < places 𝓓 → taken book.row p ≡ true
        → withdraw_of 𝓓 book p ≡ record { number = accepted; book = without_place book p }
    unfolding withdraw_of
    withdraw-accepted h t = rw (lt-ltb p (places 𝓓) h, t)

    -- what holds of the book and of the book without the place holds of the book that a withdrawal leaves
    withdraw-by : (P : ℕ → Book → Type 0) → P no_place book → P not_taken book
        → (p < places 𝓓 → taken book.row p ≡ true → P accepted (without_place book p))
        → P (withdraw_of 𝓓 book p).number (withdraw_of 𝓓 book p).book
    withdraw-by P above free left = go (dec_lt p (places 𝓓)) (taken book.row p) refl
      where
        go : Dec (p < places 𝓓) → (b : Bool) → taken book.row p ≡ b → P (withdraw_of 𝓓 book p).number (withdraw_of 𝓓 book p).book
        go (yes h) true t = rw (withdraw-accepted h t) (left h t)
        go (yes h) false t = rw (withdraw-free h t) free
        go (no h) b t = rw (withdraw-above (omega arith)) above

    pub withdraw-only : (withdraw_of 𝓓 book p).number ≡ accepted → (p < places 𝓓) × (taken book.row p ≡ true)
    withdraw-only =
        withdraw-by (λ n b. n ≡ accepted → (p < places 𝓓) × (taken book.row p ≡ true)) (λ n. absurd (omega arith)) (λ n. absurd (omega arith))
        (λ h t n. (h, t))

    pub withdraw-kept : (withdraw_of 𝓓 book p).number ≢ accepted → (withdraw_of 𝓓 book p).book ≡ book
    withdraw-kept = withdraw-by (λ n b. n ≢ accepted → b ≡ book) (λ n. refl) (λ n. refl) (λ h t n. absurd (n refl))

    pub withdraw-held : ((withdraw_of 𝓓 book p).book.rate ≡ book.rate) × ((withdraw_of 𝓓 book p).book.doubtful ≡ book.doubtful)
    unfolding without_place
    withdraw-held =
        withdraw-by (λ n b. (b.rate ≡ book.rate) × (b.doubtful ≡ book.doubtful)) (refl, refl) (refl, refl) (λ h t. (refl, refl))

    pub withdraw-proper : Proper 𝓓 book → Proper 𝓓 (withdraw_of 𝓓 book p).book
    withdraw-proper proper = withdraw-by (λ n b. Proper 𝓓 b) proper proper (λ h t. without-proper proper p)

    pub withdraw-costs : RowColumns 𝓓 book.row → RowColumns 𝓓 (withdraw_of 𝓓 book p).book.row
    withdraw-costs all = withdraw-by (λ n b. RowColumns 𝓓 b.row) all all (λ h t. without-costs book p all)

  -- ---- books that agree

  pub withdraw-alike : {a b : Book} → Agree a b → (p : ℕ) → Agreed (withdraw_of 𝓓 a p) (withdraw_of 𝓓 b p)
  withdraw-alike {a} {b} same p = go (dec_lt p (places 𝓓)) (taken a.row p) refl
    where
      other : {t : Bool} → taken a.row p ≡ t → taken b.row p ≡ t
      other e = sym (taken-alike a.row b.row same.same_columns p) ∙ e

      go : Dec (p < places 𝓓) → (t : Bool) → taken a.row p ≡ t → Agreed (withdraw_of 𝓓 a p) (withdraw_of 𝓓 b p)
      go (yes h) true e =
          rw (withdraw-accepted a p h e, withdraw-accepted b p h (other e)) (record { same_number = refl; same_book = without-agree same p })
      go (yes h) false e = rw (withdraw-free a p h e, withdraw-free b p h (other e)) (record { same_number = refl; same_book = same })
      go (no h) t e = rw (withdraw-above a p (omega arith), withdraw-above b p (omega arith)) (record { same_number = refl; same_book = same })

  -- ---- while a place is taken

  module _ (book : Book) (p : ℕ) (there : taken book.row p ≡ true) (q : ℕ) where
    pub deliver-without : (column : List ℕ) → (deliver_of 𝓓 book q column).number ≡ accepted
        → (taken (deliver_of 𝓓 book q column).book.row p ≡ true)
        × ((deliver_of 𝓓 (without_place book p) q column).book ≡ without_place (deliver_of 𝓓 book q column).book p)
    deliver-without column n =
        let d = deliver-only 𝓓 book q column n in
        let other : q ≢ p = λ e. true≢false (sym there ∙ ap (taken book.row) (sym e) ∙ d.1) in
        let done = ap (λ (o : Outcome). o.book) (deliver-accepted 𝓓 book q column d.0 d.1) in (
          ap (λ (b : Book). taken b.row p) done ∙ entry-taken book p q column other ∙ there,
          ap (λ (o : Outcome). o.book) (deliver-accepted 𝓓 (without_place book p) q column d.0 (without-taken book p q other ∙ d.1))
              ∙ sym (ap (λ b. without_place b p) done ∙ without-entry book p q column other),
        )

    pub withdraw-without : q ≢ p → (withdraw_of 𝓓 book q).number ≡ accepted
        → (taken (withdraw_of 𝓓 book q).book.row p ≡ true)
        × ((withdraw_of 𝓓 (without_place book p) q).book ≡ without_place (withdraw_of 𝓓 book q).book p)
    withdraw-without other n =
        let d = withdraw-only book q n in
        let done = ap (λ (o : Outcome). o.book) (withdraw-accepted book q d.0 d.1) in (
          ap (λ (b : Book). taken b.row p) done ∙ without-taken book q p (λ e. other (sym e)) ∙ there,
          ap (λ (o : Outcome). o.book) (withdraw-accepted (without_place book p) q d.0 (without-taken book p q other ∙ d.1))
              ∙ sym (ap (λ b. without_place b p) done ∙ without-swap book p q),
        )
