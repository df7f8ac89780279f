-- Entries of a row and the columns of its places.
--
--   Missing row p        'one of the 64 that is not in it is missing': one of the modem's places, and no entry of the row has it
--   absent_none, none-absent   a place has no column exactly if no entry of the row has it
--   missing-there, missing-none   a place is missing, or none is, as the test says
--   place-among          an entry's place is among the row's places
--   entry-column         the column of an entry's place, in a row of distinct places
--   column-entry         the entry of a column
use Rattle.std.specs.Prelude.{Bool, true, false, ◌||◌, ◌≡◌, refl, ◌≢◌, ◌⊎◌, ℕ, ◌<◌, eqb}
use Rattle.std.proofs.Math.Bool.{not, true≢false}
use Rattle.std.proofs.Common.{sym, ap, ◌∙◌, inl, inr}
use mathlib.Core.List.Memᴰ
use mathlib.Core.List.{List, [], ◌∷◌, Memᴰ}
use Rattle.std.proofs.Math.Option.{none, some, some-injective, none-ne-some}
use Rattle.std.proofs.Math.Dec.{ltb}
use borrow.Author.Tests.{eqb-true, eqb-false, eq-eqb, ne_eqb, ltb-true, lt-ltb, not-true}
use Rattle.lists.specs.Distinct.{among, distinct, and_left, and_right, and_both}
use Rattle.book.specs.Model.{Model, places}
use Rattle.book.specs.Book.{Entry, column_in, taken, missing, some_missing}
use Rattle.book.specs.Columns.{column-free, none_free}
use Rattle.book.specs.rows.RowLaws.{places_of, missing-some, some-missing}

column-nil : (p : ℕ) → column_in [] p ≡ none
unfolding column_in
column-nil p = refl

column-here : (e : Entry) (row : List Entry) (p : ℕ) → e.place ≡ p → column_in (e ∷ row) p ≡ some e.column
unfolding column_in
column-here e row p q = rw (eq-eqb e.place p q)

column-later : (e : Entry) (row : List Entry) (p : ℕ) → (e.place ≡ p → ⊥) → column_in (e ∷ row) p ≡ column_in row p
unfolding column_in
column-later e row p q = rw (ne_eqb e.place p q)

pub place-among : (e : Entry) (row : List Entry) → Memᴰ e row → among e.place (places_of row) ≡ true
unfolding places_of among
place-among e [] m = absurd (Memᴰ.not-nil m)
place-among e (x ∷ row) m = go (eqb x.place e.place) refl (Memᴰ.cases_cons m) (place-among e row)
  where
    go : (b : Bool) → eqb x.place e.place ≡ b → (e ≡ x) ⊎ Memᴰ e row → (Memᴰ e row → among e.place (places_of row) ≡ true)
        → (b || among e.place (places_of row)) ≡ true
    go true f c ih = refl
    go false f (inl q) ih = absurd (eqb-false x.place e.place f (ap (λ (y : Entry). y.place) (sym q)))
    go false f (inr l) ih = ih l

pub entry-column : (e : Entry) (row : List Entry) → distinct (places_of row) ≡ true → Memᴰ e row → column_in row e.place ≡ some e.column
unfolding places_of distinct
entry-column e [] d m = absurd (Memᴰ.not-nil m)
entry-column e (x ∷ row) d m = go (Memᴰ.cases_cons m) (entry-column e row (and_right (not (among x.place (places_of row))) (distinct (places_of row)) d))
  where
    fresh : among x.place (places_of row) ≡ false
    fresh = not-true (among x.place (places_of row)) (and_left (not (among x.place (places_of row))) (distinct (places_of row)) d)

    go : (e ≡ x) ⊎ Memᴰ e row → (Memᴰ e row → column_in row e.place ≡ some e.column) → column_in (x ∷ row) e.place ≡ some e.column
    go (inl q) ih = column-here x row e.place (ap (λ (y : Entry). y.place) (sym q)) ∙ ap (λ (y : Entry). some y.column) (sym q)
    go (inr l) ih =
        column-later x row e.place
        (λ q. true≢false (sym (place-among e row l) ∙ ap (λ p. among p (places_of row)) (sym q) ∙ fresh))
        ∙ ih l

pub column-entry : (row : List Entry) (p : ℕ) {column : List ℕ} → column_in row p ≡ some column
    → (e : Entry) × Memᴰ e row × (e.place ≡ p) × (e.column ≡ column)
column-entry [] p {column} c = absurd (none-ne-some column (sym (column-nil p) ∙ c))
column-entry (x ∷ row) p {column} c = go (eqb x.place p) refl (λ f. column-entry row p f)
  where
    go : (b : Bool) → eqb x.place p ≡ b
        → (column_in row p ≡ some column → (e : Entry) × Memᴰ e row × (e.place ≡ p) × (e.column ≡ column))
        → (e : Entry) × Memᴰ e (x ∷ row) × (e.place ≡ p) × (e.column ≡ column)
    go true f ih =
        let q : x.place ≡ p = eqb-true x.place p f in
        (x, Memᴰ.head refl, q, some-injective x.column column (sym (column-here x row p q) ∙ c))
    go false f ih =
        let r = ih (sym (column-later x row p (eqb-false x.place p f)) ∙ c) in
        (r.0, Memᴰ.tail r.1, r.2, r.3)

pub absent_none : (row : List Entry) (p : ℕ) → ((e : Entry) → Memᴰ e row → e.place ≢ p) → column_in row p ≡ none
absent_none [] p f = column-nil p
absent_none (x ∷ row) p f = column-later x row p (f x (Memᴰ.head refl)) ∙ absent_none row p (λ e m. f e (Memᴰ.tail m))

pub none-absent : (row : List Entry) (p : ℕ) → column_in row p ≡ none → (e : Entry) → Memᴰ e row → e.place ≢ p
none-absent [] p c e m q = Memᴰ.not-nil m
none-absent (x ∷ row) p c e m q = go (eqb x.place p) refl (Memᴰ.cases_cons m) (λ d l. none-absent row p d e l q)
  where
    go : (b : Bool) → eqb x.place p ≡ b → (e ≡ x) ⊎ Memᴰ e row → (column_in row p ≡ none → Memᴰ e row → ⊥) → ⊥
    go true f d ih = none-ne-some x.column (sym c ∙ column-here x row p (eqb-true x.place p f))
    go false f (inl r) ih = eqb-false x.place p f (ap (λ (y : Entry). y.place) (sym r) ∙ q)
    go false f (inr l) ih = ih (sym (column-later x row p (eqb-false x.place p f)) ∙ c) l

module _ (𝓓 : Model) where
  -- ---- missing places

  pub record Missing (row : List Entry) (p : ℕ) : Type 0 where
    pub one_of_them : p < places 𝓓
    pub absent : (e : Entry) → Memᴰ e row → e.place ≢ p

  pub missing-there : (row : List Entry) → some_missing 𝓓 row ≡ true → (p : ℕ) × Missing row p
  unfolding missing
  missing-there row e =
      let r = some-missing 𝓓 row e in
      let a = ltb r.0 (places 𝓓) in
      let b = taken row r.0 in (
        r.0,
        record {
          one_of_them = ltb-true r.0 (places 𝓓) (and_left a (not b) r.1);
          absent = none-absent row r.0 (column-free row r.0 (not-true b (and_right a (not b) r.1)));
        },
      )

  pub missing-none : (row : List Entry) → some_missing 𝓓 row ≡ false → (p : ℕ) → Missing row p → ⊥
  unfolding missing
  missing-none row e p m =
      true≢false
      (sym
      (missing-some 𝓓 row p
      (and_both (ltb p (places 𝓓)) (not (taken row p)) (lt-ltb p (places 𝓓) m.one_of_them)
      (ap not (none_free row p (absent_none row p m.absent)))))
      ∙ e)
