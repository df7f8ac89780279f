-- 'A delivery shall be undone: … the session answers and reads as if that delivery, and every call refused since, had never been made. It need not be the
-- latest one.' Each sentence a theorem of the book of any modem.
--
--   accepted-stays, refused-goes   a call that the book accepts is one of them, and one that it refuses is not
--   withdrawn            calls that spare a place that is taken leave it so, and without it do what the accepted ones alone do to the book without it
--   undone               so the place of an accepted delivery, taken out of the row after such calls, leaves the book of the accepted ones alone
--   undone-calls         the same with the delivery and the withdrawal as calls: that withdrawal is accepted, and it leaves that book
--   undone-then          so does every list of calls that goes on from there
--   free-again           and the place is free in that book
--   last-column          a place that is delivered, withdrawn and delivered again is held once, with the last column, as if it had been delivered then alone
use Rattle.std.specs.Prelude.{true, false, ◌≡◌, refl, List, [], ◌∷◌, ◌++◌, ◌≢◌, ℕ, ◌<◌}
use Rattle.std.proofs.Common.{sym, ◌∙◌, subst, eqb-true, eq-eqb, ne_eqb}
use Rattle.std.proofs.Math.Path.{ap}
use Rattle.std.proofs.Math.Option.{some}
use Rattle.std.proofs.Math.Seq.{append_snoc}
use Rattle.std.proofs.lemmas.Bool.{eqb-false}
use Rattle.refusals.specs.Refusal.{accepted}
use Rattle.book.specs.Model.{Model, places}
use Rattle.book.specs.Book.{Book, column_in, present, taken, Outcome}
use Rattle.book.specs.Columns.{none_free}
use Rattle.book.specs.rows.Delivery.{with_entry}
use Rattle.book.specs.rows.Withdrawal.{without_place, withdraw_of}
use Rattle.book.specs.rows.RowLaws.{snoc-here, deliver-accepted, deliver-only}
use Rattle.book.proofs.rows.WithdrawalLaws.{freed-here, entry-without, withdraw-accepted, deliver-without, withdraw-without}
use Rattle.book.specs.Machine.{after_by, accepted_by}
use Rattle.book.proofs.Machine.{after-append, left_out}
use Rattle.book.specs.calls.Calls.{Call, deliver, withdraw, closing, other, Others, answer, after, after_all}
use Rattle.book.proofs.calls.CallLaws.{refused-after}
use Rattle.book.specs.calls.Undone.{Spare, Spares, accepts, accepted_of}

module _ {𝓓 : Model} {X : Type 0} (others : Others 𝓓 X) where
  module _ (book : Book) (call : Call X) (calls : List (Call X)) where
    pub accepted-stays : (answer others book call).number ≡ accepted
        → accepted_of others book (call ∷ calls) ≡ call ∷ accepted_of others (after others book call) calls
    unfolding accepts accepted_by
    accepted-stays n = rw (eq-eqb (answer others book call).number accepted n)

    pub refused-goes : (answer others book call).number ≢ accepted → accepted_of others book (call ∷ calls) ≡ accepted_of others book calls
    unfolding accepts accepted_by
    refused-goes n = rw (ne_eqb (answer others book call).number accepted n) (ap (λ b. accepted_of others b calls) (refused-after others book call n))

  -- ---- one call

  refused : (book : Book) (call : Call X) → accepts others book call ≡ false → after others book call ≡ book
  unfolding accepts
  refused book call e = refused-after others book call (eqb-false (answer others book call).number accepted e)

  turn : (p : ℕ) (book : Book) (call : Call X) → taken book.row p ≡ true → Spare p call → accepts others book call ≡ true
      → (taken (after others book call).row p ≡ true) × (after others (without_place book p) call ≡ without_place (after others book call) p)
  unfolding accepts answer after
  turn p book (deliver q column) there spare e = deliver-without 𝓓 book p there q column (eqb-true _ accepted e)
  turn p book (other x) there spare e = (there, refl)
  turn p book (closing message report) there spare e = (there, refl)
  turn p book (withdraw q) there spare e = withdraw-without 𝓓 book p there q (λ f. spare (ap withdraw f)) (eqb-true _ accepted e)

  -- ---- a list of calls

  pub withdrawn : (p : ℕ) (book : Book) → taken book.row p ≡ true → {calls : List (Call X)} → Spares p calls
      → (taken (after_all others book calls).row p ≡ true)
      × (without_place (after_all others book calls) p ≡ after_all others (without_place book p) (accepted_of others book calls))
  withdrawn p book there spares = left_out (accepts others) (after others) refused (λ b. without_place b p) (turn p) spares book there

  -- the book with an entry at a free place has that place, with the entry's column
  entry-there : (book : Book) (p : ℕ) (column : List ℕ) → taken book.row p ≡ false → column_in (with_entry book p column).row p ≡ some column
  unfolding with_entry
  entry-there book p column free = snoc-here book.row (record { place = p; column = column }) free

  pub undone : (book : Book) (p : ℕ) (column : List ℕ) → taken book.row p ≡ false → {calls : List (Call X)} → Spares p calls
      → without_place (after_all others (with_entry book p column) calls) p ≡ after_all others book (accepted_of others (with_entry book p column) calls)
  unfolding taken
  undone book p column free {calls} spares =
      (withdrawn p (with_entry book p column) (ap present (entry-there book p column free)) spares).1
      ∙ ap (λ b. after_all others b (accepted_of others (with_entry book p column) calls)) (entry-without book p column free)

  -- ---- the delivery and the withdrawal as calls

  module _ (book : Book) (p : ℕ) (column : List ℕ) (n : (answer others book (deliver p column)).number ≡ accepted) where
    in_range : p < places 𝓓
    unfolding answer
    in_range = (deliver-only 𝓓 book p column n).0

    free : taken book.row p ≡ false
    unfolding answer
    free = (deliver-only 𝓓 book p column n).1

    delivered : after others book (deliver p column) ≡ with_entry book p column
    unfolding after
    delivered = ap (λ (o : Outcome). o.book) (deliver-accepted 𝓓 book p column in_range free)

    module _ {calls : List (Call X)} (spares : Spares p calls) where
      still-taken : taken (after_all others (after others book (deliver p column)) calls).row p ≡ true
      unfolding taken
      still-taken =
          (withdrawn p (after others book (deliver p column))
          (ap (λ (b : Book). taken b.row p) delivered ∙ ap present (entry-there book p column free)) spares).0

      taken_out : withdraw_of 𝓓 (after_all others (after others book (deliver p column)) calls) p
          ≡ record { number = accepted; book = after_all others book (accepted_of others (after others book (deliver p column)) calls) }
      taken_out =
          withdraw-accepted 𝓓 (after_all others (after others book (deliver p column)) calls) p in_range still-taken
          ∙ ap (λ b. record { number = accepted; book = b })
          (subst (λ b. without_place (after_all others b calls) p ≡ after_all others book (accepted_of others b calls)) (sym delivered) (undone book p column free spares))

      pub undone-calls : ((answer others (after_all others book (deliver p column ∷ calls)) (withdraw p)).number ≡ accepted)
          × (after_all others book (deliver p column ∷ (calls ++ (withdraw p ∷ []))) ≡ after_all others book (accepted_of others (after others book (deliver p column)) calls))
      unfolding answer after after_by
      undone-calls = (
        ap (λ (o : Outcome). o.number) taken_out,
        after-append (after others) (after others book (deliver p column)) calls (withdraw p ∷ []) ∙ ap (λ (o : Outcome). o.book) taken_out,
      )

      pub undone-then : (later : List (Call X))
          → after_all others book (deliver p column ∷ (calls ++ (withdraw p ∷ later))) ≡ after_all others book (accepted_of others (after others book (deliver p column)) calls ++ later)
      undone-then later =
          ap (λ (l : List (Call X)). after_all others book (deliver p column ∷ l)) (sym (append_snoc calls (withdraw p) later))
          ∙ after-append (after others) book (deliver p column ∷ (calls ++ (withdraw p ∷ []))) later
          ∙ ap (λ b. after_all others b later) undone-calls.1
          ∙ sym (after-append (after others) book (accepted_of others (after others book (deliver p column)) calls) later)

      -- the place is free again
      pub free-again : taken (after_all others book (accepted_of others (after others book (deliver p column)) calls)).row p ≡ false
      unfolding without_place
      free-again =
          ap (λ (o : Outcome). taken o.book.row p)
          (sym taken_out ∙ withdraw-accepted 𝓓 (after_all others (after others book (deliver p column)) calls) p in_range still-taken)
          ∙ none_free _ p (freed-here (after_all others (after others book (deliver p column)) calls).row p)

      pub last-column : (last : List ℕ)
          → (after_all others book (deliver p column ∷ (calls ++ (withdraw p ∷ (deliver p last ∷ []))))
          ≡ after_all others book (accepted_of others (after others book (deliver p column)) calls ++ (deliver p last ∷ [])))
          × (column_in (after_all others book (deliver p column ∷ (calls ++ (withdraw p ∷ (deliver p last ∷ []))))).row p ≡ some last)
      unfolding after after_by
      last-column last =
          let b : Book = after_all others book (accepted_of others (after others book (deliver p column)) calls) in
          let e = undone-then (deliver p last ∷ []) in (
            e,
            ap (λ (x : Book). column_in x.row p)
                (e ∙ after-append (after others) book (accepted_of others (after others book (deliver p column)) calls) (deliver p last ∷ [])
                ∙ ap (λ (o : Outcome). o.book) (deliver-accepted 𝓓 b p last in_range free-again))
                ∙ entry-there b p last free-again,
          )
