-- Document 01's sentences about interpolant readings, each a theorem of the book of the modem of 64 places.
--
--   reading-least        reading into 98 bytes shows the least Q through the row's settled places, those taken, not doubtful and not blank (Reads)
--   blank-unread         a blank column at the end of the row, at a place that was free, changes no reading; blank-delivered: so no delivery of a blank
--                        column does, whether it is accepted or refused
--   reading-alike        books that agree read alike
use Rattle.std.specs.Prelude.{Bool, ◌&&◌, ◌≡◌, length}
use Rattle.std.proofs.Math.Bool.{true, false, not}
use Rattle.std.proofs.Math.Path.{refl, sym, ap}
use Rattle.std.proofs.Common.{◌∙◌, subst}
use mathlib.Core.List.{List, [], ◌∷◌, ◌++◌}
use Prim.Native.Nat.{ℕ, zero, suc}
use Rattle.std.proofs.Math.Decide.{ℕ_discrete}
use Rattle.lists.specs.Distinct.{among}
use Rattle.refusals.specs.Refusal.{accepted}
use Rattle.soft.specs.Column.{is_blank}
use Rattle.interpolant.specs.LeastQ.{reading_length}
use Rattle.book64.specs.Modem64.{modem64}
use Rattle.book.specs.Book.{Entry, Book, taken, Outcome, Filled}
use Rattle.book.specs.Columns.{columns-taken, taken-alike, columns-alike, Agree}
use Rattle.book.specs.Columns as Columns
use Rattle.book.specs.rows.Delivery.{with_entry}
use Rattle.book.specs.rows.RowLaws.{snoc-here, snoc-other, deliver-accepted, deliver-only}
use Rattle.book.proofs.sentences.Sentences.{deliver-kept}
use Rattle.book64.specs.readings.Reading.{highest_order, is_settled, settled_at, settled_below, settled_of, read_of}
use Rattle.book64.proofs.readings.ReadingLaws.{settled-no, free-unsettled, settled-few, read-accepted}
use Rattle.book64.specs.Rates.{Rate, rate-orders}
use Rattle.book64.specs.Here.{places, columns_of, deliver_of}
use Rattle.book64.specs.readings.ReadingSentences.{shows-least, Reads}

-- ---- 'the … bytes of the least Q for the row's settled places', of document 02 98 of them; a blank place 'is not interpolated'

pub reading-least : (book : Book) → Rate book.rate → (out : List ℕ) → length out ≡ reading_length
    → ((read_of book out).number ≡ accepted) × Reads book (read_of book out).bytes
reading-least book rate out h =
    let a = read-accepted book out h in (
      ap (λ (f : Filled). f.number) a,
      subst (λ (f : Filled). Reads book f.bytes) (sym a) (shows-least (highest_order book) (settled_of book) (rate-orders rate) (settled-few book)),
    )

-- ---- document 02: 'it is not interpolated'

module _ (book : Book) (p : ℕ) (column : List ℕ) (blank : is_blank column ≡ true) where
  module _ (free : taken book.row p ≡ false) where
    abbrev entry : Entry
    entry = record { place = p; column = column }

    -- free before and blank afterwards, the place is settled in neither book
    blank-unsettled : is_settled (with_entry book p column) p ≡ false
    unfolding is_settled with_entry
    blank-unsettled =
        let row : List Entry = book.row ++ (entry ∷ []) in
        ap (λ c. taken row p && (not (among p book.doubtful) && not (is_blank c))) (columns-taken modem64 row p (snoc-here book.row entry free))
        ∙ ap (λ b. taken row p && (not (among p book.doubtful) && not b)) blank ∙ neither (taken row p) (not (among p book.doubtful))
      where
        neither : (a b : Bool) → (a && (b && false)) ≡ false
        neither true true = refl
        neither true false = refl
        neither false b = refl

    unread : (n : ℕ) → settled_below (with_entry book p column) n ≡ settled_below book n
    unfolding settled_below is_settled settled_at with_entry Columns.columns_of taken
    unread zero = refl
    unread (suc n) = go (ℕ_discrete p n) (unread n)
      where
        go : Dec (p ≡ n) → settled_below (with_entry book p column) n ≡ settled_below book n
            → settled_below (with_entry book p column) (suc n) ≡ settled_below book (suc n)
        go (yes e) ih =
            settled-no (with_entry book p column) n (ap (is_settled (with_entry book p column)) (sym e) ∙ blank-unsettled)
            ∙ ih ∙ sym (settled-no book n (ap (is_settled book) (sym e) ∙ free-unsettled book p free))
        go (no e) ih = cc (ih, snoc-other book.row entry n e)

    pub blank-unread : (out : List ℕ) → read_of (with_entry book p column) out ≡ read_of book out
    unfolding read_of settled_of with_entry
    blank-unread out = cc (unread places)

  pub blank-delivered : (out : List ℕ) → read_of (deliver_of book p column).book out ≡ read_of book out
  blank-delivered out = go (ℕ_discrete (deliver_of book p column).number accepted)
    where
      go : Dec ((deliver_of book p column).number ≡ accepted) → read_of (deliver_of book p column).book out ≡ read_of book out
      go (yes n) =
          let d = deliver-only modem64 book p column n in
          ap (λ (o : Outcome). read_of o.book out) (deliver-accepted modem64 book p column d.0 d.1) ∙ blank-unread d.1 out
      go (no n) = ap (λ (b : Book). read_of b out) (deliver-kept modem64 book p column n)

-- ---- 'Two sessions … that agree in rate, doubtful list, places taken and the columns held for these read and close alike.'

module _ {a b : Book} (same : Agree a b) where
  settled-alike : (n : ℕ) → settled_below a n ≡ settled_below b n
  unfolding settled_below is_settled settled_at
  settled-alike zero = refl
  settled-alike (suc n) =
      let t : taken a.row n ≡ taken b.row n = taken-alike a.row b.row same.same_columns n in
      let c : columns_of a.row ≡ columns_of b.row = columns-alike modem64 a.row b.row same.same_columns in
      cc (settled-alike n, t, c, same.same_list)

  pub reading-alike : (out : List ℕ) → read_of a out ≡ read_of b out
  unfolding read_of settled_of
  reading-alike out = cc (settled-alike places, same.same_rate)
