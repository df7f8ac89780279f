-- A row of entries delivered to a session one by one: what is left to deliver to the session held answers as the whole row does.
--
--   opening-agreed       an opening by an outcome that agrees with another is one by that
--   row-turn             where the first of the entries left is accepted, the rest of them, delivered to the session that it leaves, answer so
--   row-stop             where it is refused, so is the whole, with its number
--   row-end              with no entry left the session held is what the whole row opens
use Rattle.std.specs.Prelude.{◌≡◌, refl, List, [], ◌∷◌}
use Rattle.std.proofs.Common.{sym, ap, ◌∙◌}
use Rattle.refusals.specs.Refusal.{accepted}
use Rattle.book64.specs.Modem64.{modem64}
use Rattle.book.specs.Book.{Entry, Outcome}
use Rattle.book64.specs.Here.{refused_opening, deliver_row}
use Rattle.book.specs.Columns.{agree_refl, agree-sym, agree_trans}
use Rattle.book.specs.rows.RowDelivery.{row-none, row_on, row-refused}
use Rattle.book.specs.rows.AlikeDelivery.{Agreed, agreed-path, agreed-trans, row-alike}
use Rattle.session.specs.declared.Session.{Session}
use Rattle.session.specs.View.{book_of, Good}
use Rattle.session.specs.Calls.{Ending, refused_with, Opening, Delivery}
use Rattle.session.specs.Laws.{refused-opens}

pub opening-agreed : {o q : Outcome} {r : Ending} → Agreed o q → Opening q r → Opening o r
opening-agreed a d =
    record { number = d.number ∙ sym a.same_number; book = agree_trans d.book (agree-sym a.same_book); good = d.good }

module _ (whole : Outcome) (current : Session) (good : Good current) where
  module _ (e : Entry) (rest : List Entry) (r : Ending) (same : Agreed whole (deliver_row (book_of current) (e ∷ rest)))
      (d : Delivery current e.place e.column r) where
    pub row-turn : r.refusal ≡ accepted → Agreed whole (deliver_row (book_of r.session) rest)
    row-turn n =
        agreed-trans same
        (agreed-trans (agreed-path (row_on modem64 (book_of current) e rest (sym (d.number good) ∙ n)))
        (row-alike modem64 (agree-sym (d.book good)) rest))

    pub row-stop : (r.refusal ≡ accepted → ⊥) → Opening whole (refused_with r.refusal)
    row-stop n =
        opening-agreed
        (agreed-trans same
        (agreed-path (row-refused modem64 (book_of current) e rest (λ e. n (d.number good ∙ e)) ∙ ap refused_opening (sym (d.number good)))))
        (refused-opens r.refusal)

  pub row-end : Agreed whole (deliver_row (book_of current) []) → Opening whole (record { refusal = accepted; session = current })
  row-end same =
      opening-agreed (agreed-trans same (agreed-path (row-none modem64 (book_of current))))
      (record { number = refl; book = agree_refl (book_of current); good = good })
