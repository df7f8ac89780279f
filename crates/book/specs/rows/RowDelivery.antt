-- Delivering a row of entries, one after the other.
--
--   extended book entries   the book with the entries at the end of its row
--   row_on, row-refused  a row goes on, or is refused, as the delivery of its first entry is
--   row-none, row-above, row-taken, row_next   the cases of delivering a row
--   row-delivered        distinct places of the modem, none of them taken, are all accepted, in their order
--   row-accepted         where all are accepted, the book is the extended one, and proper
--   refused-row          a refused row hands back what a refused opening does
use Rattle.std.specs.Prelude.{Bool, true, false, ◌≡◌, ℕ, ◌<◌, ◌≤◌}
use Rattle.std.proofs.Math.Path.{refl, ap}
use Rattle.std.proofs.Common.{sym, ◌∙◌, subst, arith, eq-eqb, ne_eqb}
use mathlib.Core.List.{List, [], ◌∷◌, ◌++◌, append-nil}
use Rattle.std.proofs.Math.Decide.{dec_lt}
use Rattle.std.proofs.Math.Seq.{append_snoc}
use Rattle.refusals.specs.Refusal.{accepted, no_place, place_taken}
use Rattle.lists.specs.Distinct.{below, distinct, below-cons, below-append, distinct-before, and_right}
use Rattle.book.specs.Model.{Model, places}
use Rattle.book.specs.Book.{Entry, Book, taken, Outcome}
use Rattle.book.specs.opening.Opening.{refused_opening}
use Rattle.book.specs.rows.Delivery.{with_entry, deliver_of, on_accepted, deliver_row}
use Rattle.book.specs.rows.RowLaws.{places_of, wide, wide-cons, Proper, places-append, taken-among, deliver-above, deliver-taken, deliver-accepted, entry-proper}

unfoldable pub extended : Book → List Entry → Book
extended book entries = record { rate = book.rate; doubtful = book.doubtful; row = book.row ++ entries }

pub extended-nil : (book : Book) → extended book [] ≡ book
unfolding extended
extended-nil book = λ i. record { rate = book.rate; doubtful = book.doubtful; row = append-nil book.row i }

pub extended-cons : (book : Book) (e : Entry) (entries : List Entry)
    → extended (with_entry book e.place e.column) entries ≡ extended book (e ∷ entries)
unfolding extended with_entry
extended-cons book e entries =
    λ i. record { rate = book.rate; doubtful = book.doubtful; row = append_snoc book.row e entries i }

module _ (𝓓 : Model) where
  pub refused-number : (n : ℕ) → (refused_opening 𝓓 n).number ≡ n
  unfolding refused_opening
  refused-number n = refl

  module _ (book : Book) (e : Entry) (entries : List Entry) where
    -- as the delivery of the first answers
    pub row_on : (deliver_of 𝓓 book e.place e.column).number ≡ accepted
        → deliver_row 𝓓 book (e ∷ entries) ≡ deliver_row 𝓓 (deliver_of 𝓓 book e.place e.column).book entries
    unfolding deliver_row on_accepted
    row_on n = rw (eq-eqb (deliver_of 𝓓 book e.place e.column).number accepted n)

    pub row-refused : ((deliver_of 𝓓 book e.place e.column).number ≡ accepted → ⊥)
        → deliver_row 𝓓 book (e ∷ entries) ≡ refused_opening 𝓓 (deliver_of 𝓓 book e.place e.column).number
    unfolding deliver_row on_accepted
    row-refused n = rw (ne_eqb (deliver_of 𝓓 book e.place e.column).number accepted n)

    pub row-above : places 𝓓 ≤ e.place → deliver_row 𝓓 book (e ∷ entries) ≡ refused_opening 𝓓 no_place
    unfolding deliver_row on_accepted
    row-above h = rw (deliver-above 𝓓 book e.place e.column h)

    pub row-taken : e.place < places 𝓓 → taken book.row e.place ≡ true → deliver_row 𝓓 book (e ∷ entries) ≡ refused_opening 𝓓 place_taken
    unfolding deliver_row on_accepted
    row-taken h t = rw (deliver-taken 𝓓 book e.place e.column h t)

    pub row_next : e.place < places 𝓓 → taken book.row e.place ≡ false
        → deliver_row 𝓓 book (e ∷ entries) ≡ deliver_row 𝓓 (with_entry book e.place e.column) entries
    unfolding deliver_row on_accepted
    row_next h t = rw (deliver-accepted 𝓓 book e.place e.column h t)

  pub row-none : (book : Book) → deliver_row 𝓓 book [] ≡ record { number = accepted; book = book }
  unfolding deliver_row
  row-none book = refl

  pub row-delivered : (book : Book) (entries : List Entry) → below (places 𝓓) (places_of (book.row ++ entries)) ≡ true
      → distinct (places_of (book.row ++ entries)) ≡ true
      → deliver_row 𝓓 book entries ≡ record { number = accepted; book = extended book entries }
  unfolding with_entry places_of
  row-delivered book [] b d = row-none book ∙ ap (λ (x : Book). record { number = accepted; book = x }) (sym (extended-nil book))
  row-delivered book (e ∷ entries) b d =
      row_next book e entries h free
      ∙ row-delivered (with_entry book e.place e.column) entries
      (subst (λ l. below (places 𝓓) (places_of l) ≡ true) (sym (append_snoc book.row e entries)) b)
      (subst (λ l. distinct (places_of l) ≡ true) (sym (append_snoc book.row e entries)) d)
      ∙ ap (λ (x : Book). record { number = accepted; book = x }) (extended-cons book e entries)
    where
      split : places_of (book.row ++ (e ∷ entries)) ≡ places_of book.row ++ (e.place ∷ places_of entries)
      split = places-append book.row (e ∷ entries)

      h : e.place < places 𝓓
      h =
          (below-cons (places 𝓓) e.place (places_of entries)
          (and_right (below (places 𝓓) (places_of book.row)) (below (places 𝓓) (e.place ∷ places_of entries))
          (sym (below-append (places 𝓓) (places_of book.row) (e.place ∷ places_of entries)) ∙ sym (ap (below (places 𝓓)) split) ∙ b))).0

      free : taken book.row e.place ≡ false
      free =
          taken-among book.row e.place
          ∙ distinct-before (places_of book.row) e.place (places_of entries) (sym (ap distinct split) ∙ d)

  pub row-accepted : (book : Book) (entries : List Entry) → Proper 𝓓 book → wide 𝓓 entries ≡ true → (deliver_row 𝓓 book entries).number ≡ accepted
      → (deliver_row 𝓓 book entries ≡ record { number = accepted; book = extended book entries }) × Proper 𝓓 (extended book entries)
  row-accepted book [] proper w n = (row-none book ∙ ap (λ (x : Book). record { number = accepted; book = x }) (sym (extended-nil book)), rw extended-nil proper)
  row-accepted book (e ∷ entries) proper w n =
      go (dec_lt e.place (places 𝓓)) (taken book.row e.place) refl
      (λ p m. row-accepted (with_entry book e.place e.column) entries p (wide-cons 𝓓 e entries w).1 m)
    where
      Accepted : Type 0
      Accepted =
          (deliver_row 𝓓 book (e ∷ entries) ≡ record { number = accepted; book = extended book (e ∷ entries) })
          × Proper 𝓓 (extended book (e ∷ entries))

      go : Dec (e.place < places 𝓓) → (b : Bool) → taken book.row e.place ≡ b
          → (Proper 𝓓 (with_entry book e.place e.column) → (deliver_row 𝓓 (with_entry book e.place e.column) entries).number ≡ accepted
          → (deliver_row 𝓓 (with_entry book e.place e.column) entries
          ≡ record { number = accepted; book = extended (with_entry book e.place e.column) entries })
          × Proper 𝓓 (extended (with_entry book e.place e.column) entries))
          → Accepted
      go (yes h) true t ih = absurd (omega (arith, sym (refused-number place_taken) ∙ sym (ap (λ (o : Outcome). o.number) (row-taken book e entries h t)) ∙ n))
      go (yes h) false t ih =
          let r =
          ih (entry-proper 𝓓 book e.place e.column proper h t (wide-cons 𝓓 e entries w).0)
          (sym (ap (λ (o : Outcome). o.number) (row_next book e entries h t)) ∙ n) in (
            row_next book e entries h t ∙ r.0 ∙ ap (λ (x : Book). record { number = accepted; book = x }) (extended-cons book e entries),
            subst (Proper 𝓓) (extended-cons book e entries) r.1,
          )
      go (no h) b t ih = absurd (omega (arith, sym (refused-number no_place) ∙ sym (ap (λ (o : Outcome). o.number) (row-above book e entries (omega arith))) ∙ n))

  pub refused-row : (book : Book) (entries : List Entry) → ((deliver_row 𝓓 book entries).number ≡ accepted → ⊥)
      → deliver_row 𝓓 book entries ≡ refused_opening 𝓓 (deliver_row 𝓓 book entries).number
  refused-row book [] n = absurd (n (ap (λ (o : Outcome). o.number) (row-none book)))
  refused-row book (e ∷ entries) n =
      go (dec_lt e.place (places 𝓓)) (taken book.row e.place) refl (refused-row (with_entry book e.place e.column) entries)
    where
      by : (k : ℕ) → deliver_row 𝓓 book (e ∷ entries) ≡ refused_opening 𝓓 k
          → deliver_row 𝓓 book (e ∷ entries) ≡ refused_opening 𝓓 (deliver_row 𝓓 book (e ∷ entries)).number
      by k q = q ∙ ap (refused_opening 𝓓) (sym (ap (λ (o : Outcome). o.number) q ∙ refused-number k))

      go : Dec (e.place < places 𝓓) → (b : Bool) → taken book.row e.place ≡ b
          → (((deliver_row 𝓓 (with_entry book e.place e.column) entries).number ≡ accepted → ⊥)
          → deliver_row 𝓓 (with_entry book e.place e.column) entries
          ≡ refused_opening 𝓓 (deliver_row 𝓓 (with_entry book e.place e.column) entries).number)
          → deliver_row 𝓓 book (e ∷ entries) ≡ refused_opening 𝓓 (deliver_row 𝓓 book (e ∷ entries)).number
      go (yes h) true t ih = by place_taken (row-taken book e entries h t)
      go (yes h) false t ih =
          let q = row_next book e entries h t in
          q ∙ ih (λ m. n (ap (λ (o : Outcome). o.number) q ∙ m)) ∙ ap (λ (o : Outcome). refused_opening 𝓓 o.number) (sym q)
      go (no h) b t ih = by no_place (row-above book e entries (omega arith))
