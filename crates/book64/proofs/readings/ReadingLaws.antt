-- Interpolant reading: its cases, and that it knows the row as a set alone.
--
--   settled-nil, settled-yes, settled-no   the settled places, place by place
--   is-settled, free-unsettled     a place that is taken, not doubtful and not blank is settled; a free one is not
--   settled-there, settled_only    they are the places below 64 that are taken, not doubtful and not blank, each with its best symbol
--   settled-few                    there are at most 64
--   reading-row                    they have the same reading: the order in which places were accepted does not matter
--   read-size, read-accepted       the two cases of reading
--   read_kept                      a refused call leaves its buffer as it was
--   read-sized                     no call changes the buffer's length
use Rattle.std.specs.Prelude.{Bool, cond, ◌&&◌, ◌≡◌, ◌⊎◌, ℕ, zero, suc, ◌<◌, ◌≤◌, eqb, length}
use Rattle.std.proofs.Math.Bool.{true, false, not}
use Rattle.std.proofs.Common.{true≢false, sym, ◌∙◌, subst, inl, inr, ⊎_elim, arith, eq-or-lt_of_le, le_of_suc-le-suc, lt-suc_self}
use Rattle.std.proofs.Math.Path.{refl, ap}
use mathlib.Core.List.Memᴰ
use mathlib.Core.List.{List, [], ◌∷◌, Memᴰ}
use Rattle.std.proofs.Math.Nat.{le_step}
use borrow.Author.Tests.{eqb-true, eqb-false, eq-eqb, ne_eqb, not-true}
use Rattle.lists.specs.Distinct.{among, below-among, and_left, and_right, and_both}
use Rattle.refusals.specs.Refusal.{accepted, wrong_size}
use Rattle.soft.specs.Column.{best_of, is_blank}
use Rattle.soft.specs.Blank.{open_at}
use Rattle.family.specs.Nodes.{Node, node}
use Rattle.interpolant.specs.LeastQ.{reading_of, reading_length}
use Rattle.interpolant.proofs.Reading.{reading-size, reading-any-order}
use Rattle.book64.specs.Modem64.{modem64}
use Rattle.book.specs.Book.{Entry, Book, taken, Filled}
use Rattle.book.specs.Columns.{columns-taken, column-taken}
use Rattle.book64.specs.readings.Reading.{highest_order, is_settled, settled_at, settled_below, settled_of, read_of}
use Rattle.book.specs.rows.RowLaws.{places_of, taken-among}
use Rattle.book.specs.Entries.{place-among, entry-column, column-entry}
use Rattle.book64.specs.Here.{places, columns_of, Proper}
use Rattle.book64.specs.readings.ReadingLaws.{settled_entry, settled_row}

-- ---- the settled places, place by place

module _ (book : Book) where
  pub settled-yes : (p : ℕ) → is_settled book p ≡ true → settled_below book (suc p) ≡ settled_at book p ∷ settled_below book p
  unfolding settled_below
  settled-yes p e = rw e

  pub settled-no : (p : ℕ) → is_settled book p ≡ false → settled_below book (suc p) ≡ settled_below book p
  unfolding settled_below
  settled-no p e = rw e

  pub is-settled : (p : ℕ) → taken book.row p ≡ true → among p book.doubtful ≡ false → is_blank (columns_of book.row p) ≡ false
      → is_settled book p ≡ true
  unfolding is_settled
  is-settled p t d o =
      let b = not (among p book.doubtful) in
      let c = not (is_blank (columns_of book.row p)) in
      and_both (taken book.row p) (b && c) t (and_both b c (ap not d) (ap not o))

  pub free-unsettled : (p : ℕ) → taken book.row p ≡ false → is_settled book p ≡ false
  unfolding is_settled
  free-unsettled p free = ap (λ t. t && (not (among p book.doubtful) && open_at (columns_of book.row) p)) free

  pub settled-nil : settled_below book 0 ≡ []
  unfolding settled_below
  settled-nil = refl

  few : (n : ℕ) → length (settled_below book n) ≤ n
  few zero = omega (arith, ap length settled-nil)
  few (suc n) = go (is_settled book n) refl (few n)
    where
      go : (b : Bool) → is_settled book n ≡ b → length (settled_below book n) ≤ n → length (settled_below book (suc n)) ≤ suc n
      go true e ih = omega (arith, ap length (settled-yes n e))
      go false e ih = omega (arith, ap length (settled-no n e))

  pub settled-few : length (settled_of book) ≤ 64
  unfolding settled_of
  settled-few = few places

  there : (n p : ℕ) → p < n → is_settled book p ≡ true → Memᴰ (settled_at book p) (settled_below book n)
  there zero p h e = absurd (omega arith)
  there (suc n) p h e = go (is_settled book n) refl (eq-or-lt_of_le (le_of_suc-le-suc h)) (λ l. there n p l e)
    where
      go : (b : Bool) → is_settled book n ≡ b → (p ≡ n) ⊎ (p < n) → (p < n → Memᴰ (settled_at book p) (settled_below book n))
          → Memᴰ (settled_at book p) (settled_below book (suc n))
      go true f (inl q) ih = rw (settled-yes n f) (Memᴰ.head (ap (settled_at book) q))
      go true f (inr l) ih = rw (settled-yes n f) (Memᴰ.tail (ih l))
      go false f (inl q) ih = absurd (true≢false (sym e ∙ ap (is_settled book) q ∙ f))
      go false f (inr l) ih = rw (settled-no n f) (ih l)

  only : (n : ℕ) (s : Node) → Memᴰ s (settled_below book n) → (p : ℕ) × (p < n) × (is_settled book p ≡ true) × (s ≡ settled_at book p)
  only zero s m = absurd (Memᴰ.not-nil (rw settled-nil at m))
  only (suc n) s m = go (is_settled book n) refl m (only n s)
    where
      Some : ℕ → Type 0
      Some k = (p : ℕ) × (p < k) × (is_settled book p ≡ true) × (s ≡ settled_at book p)

      later : Some n → Some (suc n)
      later r = (r.0, le_step r.1, r.2, r.3)

      go : (b : Bool) → is_settled book n ≡ b → Memᴰ s (settled_below book (suc n)) → (Memᴰ s (settled_below book n) → Some n) → Some (suc n)
      go true f t ih =
          ⊎_elim (λ (q : s ≡ settled_at book n). (n, lt-suc_self n, f, q)) (λ l. later (ih l)) (Memᴰ.cases_cons (rw (settled-yes n f) at t))
      go false f t ih = later (ih (rw (settled-no n f) at t))

  pub settled_only : (s : Node) → Memᴰ s (settled_of book)
      → (p : ℕ) × (p < places) × (taken book.row p ≡ true) × (among p book.doubtful ≡ false) × (is_blank (columns_of book.row p) ≡ false)
      × (s ≡ settled_at book p)
  unfolding settled_of is_settled
  settled_only s m =
      let r = only places s m in
      let a = taken book.row r.0 in
      let b = among r.0 book.doubtful in
      let c = is_blank (columns_of book.row r.0) in
      let f : (not b && not c) ≡ true = and_right a (not b && not c) r.2 in
      (r.0, r.1, and_left a (not b && not c) r.2, not-true b (and_left (not b) (not c) f), not-true c (and_right (not b) (not c) f), r.3)

  pub settled-there : (p : ℕ) → p < places → taken book.row p ≡ true → among p book.doubtful ≡ false
      → is_blank (columns_of book.row p) ≡ false → Memᴰ (settled_at book p) (settled_of book)
  unfolding settled_of
  settled-there p h t d o = there places p h (is-settled p t d o)

-- ---- the row in its own order

module _ (list : List ℕ) where
  row-there : (row : List Entry) (e : Entry) → Memᴰ e row → settled_entry list e ≡ true
      → Memᴰ (node e.place (best_of e.column)) (settled_row list row)
  unfolding settled_row
  row-there [] e m d = absurd (Memᴰ.not-nil m)
  row-there (x ∷ row) e m d = go (settled_entry list x) refl (Memᴰ.cases_cons m) (λ l. row-there row e l d)
    where
      go : (b : Bool) → settled_entry list x ≡ b → (e ≡ x) ⊎ Memᴰ e row
          → (Memᴰ e row → Memᴰ (node e.place (best_of e.column)) (settled_row list row))
          → Memᴰ (node e.place (best_of e.column)) (cond b (node x.place (best_of x.column) ∷ settled_row list row) (settled_row list row))
      go true f (inl q) ih = Memᴰ.head (ap (λ (y : Entry). node y.place (best_of y.column)) q)
      go true f (inr l) ih = Memᴰ.tail (ih l)
      go false f (inl q) ih = absurd (true≢false (sym d ∙ ap (settled_entry list) q ∙ f))
      go false f (inr l) ih = ih l

  row-only : (row : List Entry) (s : Node) → Memᴰ s (settled_row list row)
      → (e : Entry) × Memᴰ e row × (settled_entry list e ≡ true) × (s ≡ node e.place (best_of e.column))
  unfolding settled_row
  row-only [] s m = absurd (Memᴰ.not-nil m)
  row-only (x ∷ row) s m = go (settled_entry list x) refl m (row-only row s)
    where
      Some : List Entry → Type 0
      Some es = (e : Entry) × Memᴰ e es × (settled_entry list e ≡ true) × (s ≡ node e.place (best_of e.column))

      later : Some row → Some (x ∷ row)
      later r = (r.0, Memᴰ.tail r.1, r.2, r.3)

      go : (b : Bool) → settled_entry list x ≡ b
          → Memᴰ s (cond b (node x.place (best_of x.column) ∷ settled_row list row) (settled_row list row))
          → (Memᴰ s (settled_row list row) → Some row) → Some (x ∷ row)
      go true f t ih =
          ⊎_elim (λ (q : s ≡ node x.place (best_of x.column)). (x, Memᴰ.head refl, f, q)) (λ l. later (ih l)) (Memᴰ.cases_cons t)
      go false f t ih = later (ih t)

module _ (book : Book) (proper : Proper book) where
  module _ (e : Entry) (m : Memᴰ e book.row) where
    entry-is : columns_of book.row e.place ≡ e.column
    entry-is = columns-taken modem64 book.row e.place (entry-column e book.row proper.apart m)

    -- the settled place of an entry
    entry-settled : settled_at book e.place ≡ node e.place (best_of e.column)
    unfolding settled_at
    entry-settled = ap (λ c. node e.place (best_of c)) entry-is

  pub reading-row : (M : ℕ) → reading_of M (settled_row book.doubtful book.row) ≡ reading_of M (settled_of book)
  reading-row M =
      reading-any-order M (settled_row book.doubtful book.row) (settled_of book)
      (λ s m.
      let r = row-only book.doubtful book.row s m in
      let a : among r.0.place (places_of book.row) ≡ true = place-among r.0 book.row r.1 in
      let b = among r.0.place book.doubtful in
      let c = is_blank r.0.column in
      subst (λ (x : Node). Memᴰ x (settled_of book)) (entry-settled r.0 r.1 ∙ sym r.3)
      (settled-there book r.0.place (below-among places (places_of book.row) r.0.place proper.in_range a)
      (taken-among book.row r.0.place ∙ a) (not-true b (and_left (not b) (not c) r.2))
      (ap is_blank (entry-is r.0 r.1) ∙ not-true c (and_right (not b) (not c) r.2))))
      (λ s m.
      let r = settled_only book s m in
      let e = column-entry book.row r.0 (column-taken modem64 book.row r.0 r.2) in
      let b = not (among e.0.place book.doubtful) in
      let c = not (is_blank e.0.column) in
      subst (λ (x : Node). Memᴰ x (settled_row book.doubtful book.row))
      (sym (entry-settled e.0 e.1) ∙ ap (settled_at book) e.2 ∙ sym r.5)
      (row-there book.doubtful book.row e.0 e.1
      (and_both b c (ap not (ap (λ p. among p book.doubtful) e.2 ∙ r.3))
      (ap not (ap is_blank (sym (entry-is e.0 e.1)) ∙ ap (λ p. is_blank (columns_of book.row p)) e.2 ∙ r.4)))))

-- ---- the cases of reading

module _ (book : Book) (out : List ℕ) where
  pub read-size : (length out ≡ reading_length → ⊥) → read_of book out ≡ record { number = wrong_size; bytes = out }
  unfolding read_of
  read-size h = rw (ne_eqb (length out) reading_length h)

  pub read-accepted : length out ≡ reading_length
      → read_of book out ≡ record { number = accepted; bytes = reading_of (highest_order book) (settled_of book) }
  unfolding read_of
  read-accepted h = rw (eq-eqb (length out) reading_length h)

  pub read_kept : ((read_of book out).number ≡ accepted → ⊥) → (read_of book out).bytes ≡ out
  read_kept n = go (eqb (length out) reading_length) refl
    where
      go : (b : Bool) → eqb (length out) reading_length ≡ b → (read_of book out).bytes ≡ out
      go true e = absurd (n (ap (λ (f : Filled). f.number) (read-accepted (eqb-true (length out) reading_length e))))
      go false e = ap (λ (f : Filled). f.bytes) (read-size (eqb-false (length out) reading_length e))

  pub read-sized : length (read_of book out).bytes ≡ length out
  read-sized = go (eqb (length out) reading_length) refl
    where
      go : (b : Bool) → eqb (length out) reading_length ≡ b → length (read_of book out).bytes ≡ length out
      go true e =
          let h : length out ≡ reading_length = eqb-true (length out) reading_length e in
          ap (λ (f : Filled). length f.bytes) (read-accepted h) ∙ reading-size (highest_order book) (settled_of book) ∙ sym h
      go false e = ap (λ (f : Filled). length f.bytes) (read-size (eqb-false (length out) reading_length e))
