-- What the contracts of writing and of opening a capture say together, of whatever code meets them.
--
--   write-then-open      writing a good session, where it is accepted, and then opening what was written gives that session
--   open-then-write      opening an accepted capture and then writing into a buffer of its size is accepted, and gives its bytes again exactly if its
--                        records are in place order
--   refused-fresh        a refused opening hands back a new session of rate 39 with an empty doubtful list
use Rattle.std.specs.Prelude.{true, ◌≡◌, List, [], ◌↔◌, ℕ, length}
use Rattle.std.proofs.Common.{sym, ap, ◌∙◌}
use Rattle.refusals.specs.Refusal.{accepted}
use Rattle.lists.specs.Distinct.{below}
use Rattle.book64.specs.Modem64.{modem64}
use Rattle.book.specs.Book.{Outcome, Filled}
use Rattle.book.specs.Columns.{agree-sym, agree_trans, agree-path}
use Rattle.book64.specs.captures.Capture.{capture_of}
use Rattle.book64.specs.captures.Writing.{write_of}
use Rattle.book64.specs.captures.CaptureOpening.{records_in, open_capture_of}
use Rattle.book64.specs.captures.CaptureCases.{capture-refused}
use Rattle.book.specs.rows.PlaceOrder.{InPlaceOrder, order-agree}
use Rattle.book64.proofs.captures.RoundTrip.{write-whole, written-opened}
use Rattle.book64.proofs.captures.WritingLaws.{writing-alike}
use Rattle.book64.specs.Here.{ordered}
use Rattle.session.specs.declared.Session.{Session}
use Rattle.session.specs.View.{new_session, book_of, Good}
use Rattle.session.specs.Calls.{Ending, refused_with, Opening}
use Rattle.session.specs.Laws.{good-proper, refused-opens, one-session}
use Rattle.capture.specs.Calls.{Writing}

pub write-then-open : (s : Session) (before after : List ℕ) (r : ℕ) (o : Ending) → Good s → Writing s before r after → r ≡ accepted
    → Opening (open_capture_of after) o → (o.refusal ≡ accepted) × (o.session ≡ s)
write-then-open s before after r o good w n d = (
  d.number ∙ ap (λ (x : Outcome). x.number) again,
  one-session o.session s d.good good
      (agree_trans d.book
      (agree_trans (agree-path (ap (λ (x : Outcome). x.book) again))
      (order-agree modem64 (book_of s) (good-proper s good) (write-whole (book_of s) before written).1))),
)
  where
    written : (write_of (book_of s) before).number ≡ accepted
    written = sym (w.number good) ∙ n

    again : open_capture_of after ≡ record { number = accepted; book = ordered (book_of s) }
    again = ap open_capture_of (w.bytes good) ∙ Rattle.book64.proofs.captures.RoundTrip.write-then-open (book_of s) before (good-proper s good) written

pub open-then-write : (bytes before after : List ℕ) (r : ℕ) (o : Ending) → below 256 bytes ≡ true → Opening (open_capture_of bytes) o
    → o.refusal ≡ accepted → length before ≡ length bytes → Writing o.session before r after
    → (r ≡ accepted) × ((after ≡ bytes) ↔ InPlaceOrder (records_in bytes))
open-then-write bytes before after r o b d n e w =
    let opened : (open_capture_of bytes).number ≡ accepted = sym d.number ∙ n in
    let again : write_of (book_of o.session) before ≡ record { number = accepted; bytes = capture_of (open_capture_of bytes).book } =
    writing-alike d.book before ∙ Rattle.book64.proofs.captures.RoundTrip.open-then-write bytes before b opened e in
    let written : after ≡ capture_of (open_capture_of bytes).book = w.bytes d.good ∙ ap (λ (f : Filled). f.bytes) again in
    let order = written-opened bytes b opened in (
      w.number d.good ∙ ap (λ (f : Filled). f.number) again,
      (λ same. order.0 (sym written ∙ same), λ rises. written ∙ order.1 rises),
    )

pub refused-fresh : (bytes : List ℕ) (o : Ending) → Opening (open_capture_of bytes) o → (o.refusal ≡ accepted → ⊥) → o.session ≡ new_session 39 []
unfolding refused_with
refused-fresh bytes o d n =
    let k : ℕ = (open_capture_of bytes).number in
    one-session o.session (new_session 39 []) d.good (refused-opens k).good
    (agree_trans d.book
    (agree_trans (agree-path (ap (λ (x : Outcome). x.book) (capture-refused bytes (λ e. n (d.number ∙ e))))) (agree-sym (refused-opens k).book)))
