-- Books that agree take deliveries alike: for every modem.
--
--   Agreed o q           two outcomes agree: their numbers are equal, and their books agree
--   agreed-path, agreed-trans   equal outcomes agree, and those that agree with one outcome agree
--   entry-alike          books that agree do so with an entry more
--   deliver-alike        a delivery of a place and its column to books that agree has outcomes that agree
--   row-alike            so has the delivery of a row of entries
use Rattle.std.specs.Prelude.{Bool, true, false, cond, ◌≡◌, refl, List, [], ◌∷◌, ◌++◌, ℕ, ◌<◌}
use Rattle.std.proofs.Common.{sym, ap₂, ◌∙◌, subst, arith}
use Rattle.std.proofs.Math.Option.{Option}
use Rattle.std.proofs.Math.Decide.{dec_lt}
use Rattle.book.specs.Model.{Model, places}
use Rattle.book.specs.Book.{Entry, Book, column_in, taken, Outcome}
use Rattle.book.specs.Columns.{taken-alike, Agree, agree_refl, agree_trans}
use Rattle.book.specs.rows.Delivery.{with_entry, deliver_of, deliver_row}
use Rattle.book.specs.rows.RowLaws.{column-append, deliver-above, deliver-taken, deliver-accepted}
use Rattle.book.specs.rows.RowDelivery.{row-none, row-above, row-taken, row_next}

pub record Agreed (o q : Outcome) : Type 0 where
  pub same_number : o.number ≡ q.number
  pub same_book : Agree o.book q.book

pub agreed-path : {o q : Outcome} → o ≡ q → Agreed o q
agreed-path {o} e = subst (Agreed o) e (record { same_number = refl; same_book = agree_refl o.book })

pub agreed-trans : {o q r : Outcome} → Agreed o q → Agreed q r → Agreed o r
agreed-trans x y = record { same_number = x.same_number ∙ y.same_number; same_book = agree_trans x.same_book y.same_book }

pub entry-alike : {a b : Book} → Agree a b → (p : ℕ) (column : List ℕ) → Agree (with_entry a p column) (with_entry b p column)
unfolding with_entry
entry-alike {a} {b} same p column =
    record { same_rate = same.same_rate; same_list = same.same_list; same_columns = columns }
  where
    last : List Entry
    last = record { place = p; column = column } ∷ []

    columns : (q : ℕ) → column_in (a.row ++ last) q ≡ column_in (b.row ++ last) q
    columns q =
        column-append a.row last q
        ∙ ap₂ (λ t (o : Option (List ℕ)). cond t o (column_in last q)) (taken-alike a.row b.row same.same_columns q) (same.same_columns q)
        ∙ sym (column-append b.row last q)

module _ (𝓓 : Model) where
  pub deliver-alike : {a b : Book} → Agree a b → (p : ℕ) (column : List ℕ) → Agreed (deliver_of 𝓓 a p column) (deliver_of 𝓓 b p column)
  deliver-alike {a} {b} same p column = go (dec_lt p (places 𝓓)) (taken a.row p) refl
    where
      other : {t : Bool} → taken a.row p ≡ t → taken b.row p ≡ t
      other e = sym (taken-alike a.row b.row same.same_columns p) ∙ e

      go : Dec (p < places 𝓓) → (t : Bool) → taken a.row p ≡ t → Agreed (deliver_of 𝓓 a p column) (deliver_of 𝓓 b p column)
      go (yes h) true e =
          rw (deliver-taken 𝓓 a p column h e, deliver-taken 𝓓 b p column h (other e)) (record { same_number = refl; same_book = same })
      go (yes h) false e =
          rw (deliver-accepted 𝓓 a p column h e, deliver-accepted 𝓓 b p column h (other e))
          (record { same_number = refl; same_book = entry-alike same p column })
      go (no h) t e =
          rw (deliver-above 𝓓 a p column (omega arith), deliver-above 𝓓 b p column (omega arith)) (record { same_number = refl; same_book = same })

  pub row-alike : {a b : Book} → Agree a b → (entries : List Entry) → Agreed (deliver_row 𝓓 a entries) (deliver_row 𝓓 b entries)
  row-alike {a} {b} same [] = rw (row-none 𝓓 a, row-none 𝓓 b) (record { same_number = refl; same_book = same })
  row-alike {a} {b} same (e ∷ entries) =
      go (dec_lt e.place (places 𝓓)) (taken a.row e.place) refl (row-alike {a = with_entry a e.place e.column} {b = with_entry b e.place e.column} (entry-alike same e.place e.column) entries)
    where
      other : {t : Bool} → taken a.row e.place ≡ t → taken b.row e.place ≡ t
      other f = sym (taken-alike a.row b.row same.same_columns e.place) ∙ f

      go : Dec (e.place < places 𝓓) → (t : Bool) → taken a.row e.place ≡ t
          → Agreed (deliver_row 𝓓 (with_entry a e.place e.column) entries) (deliver_row 𝓓 (with_entry b e.place e.column) entries)
          → Agreed (deliver_row 𝓓 a (e ∷ entries)) (deliver_row 𝓓 b (e ∷ entries))
      go (yes h) true f ih = agreed-path (row-taken 𝓓 a e entries h f ∙ sym (row-taken 𝓓 b e entries h (other f)))
      go (yes h) false f ih = rw (row_next 𝓓 a e entries h f, row_next 𝓓 b e entries h (other f)) ih
      go (no h) t f ih = agreed-path (row-above 𝓓 a e entries (omega arith) ∙ sym (row-above 𝓓 b e entries (omega arith)))
