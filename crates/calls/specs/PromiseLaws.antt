-- How a call comes to promise what it does (Promises), case by case, of every modem and whatever keeps the session's fields.
--
--   no-places            the empty list is a doubtful list
--   refused-opens        a new session of the modem's first rate with an empty list is what a refused opening hands back
--   opens-rate, opens-list, opens-new   the three cases of opening
--   delivery-above, delivery-taken, delivery-accepted   the three cases of delivery
--   withdrawal-above, withdrawal-free, withdrawal-accepted   the three cases of a withdrawal
--   withdrawn-cleared    a good session that is left by an accepted one has the place free and its costs zero
--   closing-wrong-size, closing-early, closing-decoded   the three cases of closing: it decodes the table's columns by the doubtful list
--   closing-by-hand, asking-by-hand   of a session record that was built by hand nothing is asked but that a refusal leaves the buffers as they were
--   asking-answered      another call of the modem's that answers as the book does
use Rattle.std.specs.Prelude.{true, ◌≡◌, refl, ◌≢◌, ◌⊎◌, ℕ, ◌<◌, ◌≤◌, length, take, replicate}
use Rattle.std.proofs.Math.Bool.{false}
use Rattle.std.proofs.Math.Path.{sym, ap}
use Rattle.std.proofs.Common.{◌∙◌, subst, arith}
use mathlib.Core.List.{List, []}
use Rattle.std.proofs.Math.ListN.{get_or}
use Rattle.refusals.specs.Refusal.{accepted, unknown_rate, wrong_size, wrong_doubt, no_place, place_taken, not_taken, place_missing}
use Rattle.lists.specs.Block.{block}
use Rattle.soft.specs.Column.{column_of}
use Rattle.book.specs.Model.{Model, places, width}
use Rattle.book.specs.Book.{Book, new_book, column_in, Outcome, Filled}
use Rattle.book.specs.Columns.{none_free, Agree, agree-path, agree_trans}
use Rattle.book.specs.opening.Opening.{fit_doubt, refused_opening, open_of}
use Rattle.book.specs.opening.OpeningLaws.{DoubtfulList, list-fits, list-short}
use Rattle.book.specs.rows.Delivery.{deliver_of}
use Rattle.book.specs.rows.RowLaws.{deliver-above, deliver-taken, deliver-accepted, open-refused-rate, open-refused-list, open-accepted}
use Rattle.book.specs.rows.Withdrawal.{without_place, withdraw_of}
use Rattle.book.proofs.rows.WithdrawalLaws.{freed-here, withdraw-above, withdraw-free, withdraw-accepted, withdraw-only}
use Rattle.book.specs.closing.Closing.{Closed, report_length, refused_closing, decode_of, close_of}
use Rattle.book.proofs.closing.ClosingLaws.{decode-kept, decode-sized}
use Rattle.book.proofs.sentences.Sentences.{closing-sizes}
use Rattle.book.specs.calls.Calls.{Others}
use Rattle.calls.specs.Held as Fields
use Rattle.calls.specs.Held.{new_held, all_taken, with_column, without_column}
use Rattle.calls.specs.HeldLaws as laws
use Rattle.calls.specs.Keeping.{Keeping, book_of, Good, book-taken}
use Rattle.calls.specs.Promises.{Opening, Delivery, Withdrawal, Closing, Asking}

pub no-places : (𝓓 : Model) → DoubtfulList 𝓓 []
no-places 𝓓 = record { short = omega arith; in_range = λ i l. absurd (omega arith); rises = λ i l. absurd (omega arith) }

module _ (𝓓 : Model) {S : Type 0} (K : Keeping S) where
  open 𝓓 use {known, most_doubt, first, first_known}

  -- ---- opening

  module _ {t : S} where
    new-opens : (n rate : ℕ) (list : List ℕ) → known rate ≡ true → fit_doubt 𝓓 list ≡ true → K.held t ≡ new_held 𝓓 rate list
        → Opening 𝓓 K (record { number = n; book = new_book rate list }) n t
    new-opens n rate list r f e =
        record {
          number = refl;
          book = agree-path (ap (Fields.book_of 𝓓) e ∙ laws.new-book 𝓓 rate list (list-short 𝓓 list f));
          good = subst (Fields.Good 𝓓) (sym e) (laws.new-good 𝓓 rate list r f);
        }

    pub refused-opens : (n : ℕ) → K.held t ≡ new_held 𝓓 first [] → Opening 𝓓 K (refused_opening 𝓓 n) n t
    unfolding refused_opening
    refused-opens n e = new-opens n first [] first_known (list-fits 𝓓 (no-places 𝓓)) e

    module _ (rate : ℕ) (list : List ℕ) where
      pub opens-rate : known rate ≡ false → K.held t ≡ new_held 𝓓 first [] → Opening 𝓓 K (open_of 𝓓 rate list) unknown_rate t
      opens-rate r e = rw (open-refused-rate 𝓓 rate list r) (refused-opens unknown_rate e)

      pub opens-list : known rate ≡ true → fit_doubt 𝓓 list ≡ false → K.held t ≡ new_held 𝓓 first []
          → Opening 𝓓 K (open_of 𝓓 rate list) wrong_doubt t
      opens-list r f e = rw (open-refused-list 𝓓 rate list r f) (refused-opens wrong_doubt e)

      pub opens-new : known rate ≡ true → fit_doubt 𝓓 list ≡ true → K.held t ≡ new_held 𝓓 rate list → Opening 𝓓 K (open_of 𝓓 rate list) accepted t
      opens-new r f e = rw (open-accepted 𝓓 rate list r f) (new-opens accepted rate list r f e)

  -- ---- delivery

  module _ (s : S) (p : ℕ) (column : List ℕ) where
    -- a refusal, which a good session's book gives too
    declined : (n : ℕ) → (Good 𝓓 K s → deliver_of 𝓓 (book_of 𝓓 K s) p column ≡ record { number = n; book = book_of 𝓓 K s })
        → Delivery 𝓓 K s p column n s
    declined n e =
        record {
          number = λ good. sym (ap (λ (o : Outcome). o.number) (e good));
          book = λ good. agree-path (sym (ap (λ (o : Outcome). o.book) (e good)));
          good = λ good. good;
          kept = λ n. refl;
        }

    pub delivery-above : places 𝓓 ≤ p → Delivery 𝓓 K s p column no_place s
    delivery-above h = declined no_place (λ good. deliver-above 𝓓 (book_of 𝓓 K s) p column h)

    pub delivery-taken : p < places 𝓓 → get_or (K.held s).taken p false ≡ true → Delivery 𝓓 K s p column place_taken s
    delivery-taken h a = declined place_taken (λ good. deliver-taken 𝓓 (book_of 𝓓 K s) p column h (book-taken 𝓓 K s good p ∙ a))

    pub delivery-accepted : p < places 𝓓 → get_or (K.held s).taken p false ≡ false → length column ≡ width 𝓓
        → {t : S} → K.held t ≡ with_column 𝓓 (K.held s) p column → Delivery 𝓓 K s p column accepted t
    delivery-accepted h free long e =
        record {
          number = λ good. sym (ap (λ (o : Outcome). o.number) (deliver-accepted 𝓓 (book_of 𝓓 K s) p column h (book-taken 𝓓 K s good p ∙ free)));
          book = λ good.
              agree_trans (agree-path (ap (Fields.book_of 𝓓) e))
              (agree_trans (laws.with-column-agree 𝓓 (K.held s) p column good h free long)
              (agree-path (sym (ap (λ (o : Outcome). o.book) (deliver-accepted 𝓓 (book_of 𝓓 K s) p column h (book-taken 𝓓 K s good p ∙ free))))));
          good = λ good. subst (Fields.Good 𝓓) (sym e) (laws.with-column-good 𝓓 (K.held s) p column good h free long);
          kept = λ n. absurd (n refl);
        }

  -- ---- withdrawal

  module _ (s : S) (p : ℕ) where
    denied : (n : ℕ) → (Good 𝓓 K s → withdraw_of 𝓓 (book_of 𝓓 K s) p ≡ record { number = n; book = book_of 𝓓 K s }) → Withdrawal 𝓓 K s p n s
    denied n e =
        record {
          number = λ good. sym (ap (λ (o : Outcome). o.number) (e good));
          book = λ good. agree-path (sym (ap (λ (o : Outcome). o.book) (e good)));
          good = λ good. good;
          kept = λ n. refl;
        }

    pub withdrawal-above : places 𝓓 ≤ p → Withdrawal 𝓓 K s p no_place s
    withdrawal-above h = denied no_place (λ good. withdraw-above 𝓓 (book_of 𝓓 K s) p h)

    pub withdrawal-free : p < places 𝓓 → get_or (K.held s).taken p false ≡ false → Withdrawal 𝓓 K s p not_taken s
    withdrawal-free h free = denied not_taken (λ good. withdraw-free 𝓓 (book_of 𝓓 K s) p h (book-taken 𝓓 K s good p ∙ free))

    pub withdrawal-accepted : p < places 𝓓 → get_or (K.held s).taken p false ≡ true
        → {t : S} → K.held t ≡ without_column 𝓓 (K.held s) p → Withdrawal 𝓓 K s p accepted t
    withdrawal-accepted h there e =
        record {
          number = λ good. sym (ap (λ (o : Outcome). o.number) (withdraw-accepted 𝓓 (book_of 𝓓 K s) p h (book-taken 𝓓 K s good p ∙ there)));
          book = λ good.
              agree_trans (agree-path (ap (Fields.book_of 𝓓) e))
              (agree_trans (laws.without-column-agree 𝓓 (K.held s) p good h)
              (agree-path (sym (ap (λ (o : Outcome). o.book) (withdraw-accepted 𝓓 (book_of 𝓓 K s) p h (book-taken 𝓓 K s good p ∙ there))))));
          good = λ good. subst (Fields.Good 𝓓) (sym e) (laws.without-column-good 𝓓 (K.held s) p good h);
          kept = λ n. absurd (n refl);
        }

  -- 'the named place becomes free again, its costs return to zero'
  pub withdrawn-cleared : (t : S) (p : ℕ) (book : Book) → Good 𝓓 K t → Agree (book_of 𝓓 K t) (withdraw_of 𝓓 book p).book
      → (withdraw_of 𝓓 book p).number ≡ accepted
      → (get_or (K.held t).taken p false ≡ false) × (block (width 𝓓) p (K.held t).costs ≡ replicate (width 𝓓) 0)
  unfolding without_place
  withdrawn-cleared t p book good same n =
      let d = withdraw-only 𝓓 book p n in
      let left = ap (λ (o : Outcome). o.book) (withdraw-accepted 𝓓 book p d.0 d.1) in
      let free : get_or (K.held t).taken p false ≡ false =
      sym (book-taken 𝓓 K t good p)
      ∙ none_free (book_of 𝓓 K t).row p (same.same_columns p ∙ ap (λ (b : Book). column_in b.row p) left ∙ freed-here book.row p) in
      (free, good.table_rest p d.0 free)

  -- ---- closing

  module _ (s : S) (message report : List ℕ) where
    -- what closing answers by the table's columns and the doubtful list
    abbrev pub decoded : Closed
    decoded =
        decode_of 𝓓 (K.held s).rate (column_of (width 𝓓) (K.held s).costs) (take (K.held s).doubt (K.held s).doubtful) message report

    -- a refusal, which a good session's book gives too
    refused : (n : ℕ) → (Good 𝓓 K s → close_of 𝓓 (book_of 𝓓 K s) message report ≡ record { number = n; message = message; report = report })
        → Closing 𝓓 K s message report n message report
    refused n e =
        record {
          number = λ good. sym (ap (λ (c : Closed). c.number) (e good));
          message_bytes = λ good. sym (ap (λ (c : Closed). c.message) (e good));
          report_bytes = λ good. sym (ap (λ (c : Closed). c.report) (e good));
          message_kept = λ n. refl;
          report_kept = λ n. refl;
          message_size = refl;
          report_size = refl;
        }

    pub closing-by-hand : (n : ℕ) → (Good 𝓓 K s → ⊥) → Closing 𝓓 K s message report n message report
    closing-by-hand n bad = refused n (λ good. absurd (bad good))

    pub closing-wrong-size : (length message ≢ (K.held s).rate) ⊎ (length report ≢ report_length 𝓓)
        → Closing 𝓓 K s message report wrong_size message report
    unfolding Fields.book_of refused_closing
    closing-wrong-size w = refused wrong_size (λ good. closing-sizes 𝓓 (book_of 𝓓 K s) message report w)

    module _ (long : length message ≡ (K.held s).rate) (whole_report : length report ≡ report_length 𝓓) where
      pub closing-early : all_taken 𝓓 (K.held s).taken ≡ false → Closing 𝓓 K s message report place_missing message report
      unfolding refused_closing
      closing-early h = refused place_missing (λ good. laws.close-early 𝓓 (K.held s) good message report long whole_report h)

      full-close : all_taken 𝓓 (K.held s).taken ≡ true → Good 𝓓 K s → close_of 𝓓 (book_of 𝓓 K s) message report ≡ decoded
      full-close h good = laws.close-full 𝓓 (K.held s) good message report long whole_report h

      here : all_taken 𝓓 (K.held s).taken ≡ true → Closing 𝓓 K s message report decoded.number decoded.message decoded.report
      here h =
          let columns : ℕ → List ℕ = column_of (width 𝓓) (K.held s).costs in
          let list : List ℕ = take (K.held s).doubt (K.held s).doubtful in
          let k = decode-kept 𝓓 (K.held s).rate columns list message report in
          let l = decode-sized 𝓓 (K.held s).rate columns list message report long whole_report in
          record {
            number = λ good. sym (ap (λ (c : Closed). c.number) (full-close h good));
            message_bytes = λ good. sym (ap (λ (c : Closed). c.message) (full-close h good));
            report_bytes = λ good. sym (ap (λ (c : Closed). c.report) (full-close h good));
            message_kept = λ n. (k n).message_kept;
            report_kept = λ n. (k n).report_kept;
            message_size = l.message_sized;
            report_size = l.report_sized;
          }

      pub closing-decoded : all_taken 𝓓 (K.held s).taken ≡ true → {c : Closed} → c ≡ decoded
          → Closing 𝓓 K s message report c.number c.message c.report
      closing-decoded h {c} e =
          subst (λ (d : Closed). Closing 𝓓 K s message report d.number d.message d.report) (sym e) (here h)

  -- ---- the modem's other calls

  module _ {X : Type 0} (others : Others 𝓓 X) (s : S) (x : X) where
    pub asking-by-hand : (n : ℕ) → (Good 𝓓 K s → ⊥) → Asking 𝓓 K others s x n (others.lent x)
    asking-by-hand n bad = record { number = λ good. absurd (bad good); bytes = λ good. absurd (bad good); kept = λ n. refl; size = refl }

    pub asking-answered : (n : ℕ) (after : List ℕ) → (Good 𝓓 K s → others.asked (book_of 𝓓 K s) x ≡ record { number = n; bytes = after })
        → ((n ≡ accepted → ⊥) → after ≡ others.lent x) → length after ≡ length (others.lent x) → Asking 𝓓 K others s x n after
    asking-answered n after e kept size =
        record {
          number = λ good. sym (ap (λ (f : Filled). f.number) (e good));
          bytes = λ good. sym (ap (λ (f : Filled). f.bytes) (e good));
          kept = kept;
          size = size;
        }
