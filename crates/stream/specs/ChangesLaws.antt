-- What follows of the change that a call makes.
--
--   book_after book change    the book after it
--   leaves_after             from a good session a good one is left, and it stands for the book after the change
--   one_left                 so a good session and a call determine the session that is left
use Rattle.std.specs.Prelude.{◌≡◌}
use Rattle.std.proofs.Common.{sym, ap, subst}
use Rattle.book.specs.Book.{Book}
use Rattle.book.specs.Columns.{agree-sym, agree_trans, agree-path}
use Rattle.book64.specs.Here.{deliver_of, withdraw_of}
use Rattle.session.specs.declared.Session.{Session}
use Rattle.session.specs.View.{book_of, Good}
use Rattle.session.specs.Laws.{one-session}
use Rattle.stream.specs.Changes.{Change, renewed, delivered, withdrawn, kept, StandsFor, Leaves, leaves_renewed, leaves_delivered, leaves_withdrawn, leaves_kept}

unfoldable pub book_after : Book → Change → Book
book_after book (renewed new) = new
book_after book (delivered p column) = (deliver_of book p column).book
book_after book (withdrawn p) = (withdraw_of book p).book
book_after book kept = book

pub leaves_after : {s t : Session} {change : Change} → Leaves s change t → Good s → StandsFor (book_after (book_of s) change) t
unfolding book_after
leaves_after (leaves_renewed new) good = new
leaves_after (leaves_delivered by) good = by good
leaves_after (leaves_withdrawn by) good = by good
leaves_after (leaves_kept e) good = record { good = subst Good (sym e) good; same = agree-path (ap book_of e) }

pub one_left : {s t u : Session} {change : Change} → Good s → Leaves s change t → Leaves s change u → t ≡ u
one_left {s} {t} {u} good a b =
    one-session t u (leaves_after a good).good (leaves_after b good).good (agree_trans (leaves_after a good).same (agree-sym (leaves_after b good).same))
