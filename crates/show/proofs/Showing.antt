-- From the book's answers to the text: the two cases of opening and the two of closing.
--
--   opened-refused, opened-accepted   what opening answers, as lines
--   closed-alike         books that agree have the same lines
--   closed-refused, closed-accepted   what closing answers, as lines
--   shows-refused, shows-closed       what a session's closing answers, as lines
--   known-short          a known rate is at most 64
--   zeros-take           the first of some zeros are zeros
--   appended-within      a text ends within its buffer
use mathlib.Core.Bool.{true}
use mathlib.Core.Path.{◌≡◌, refl, sym, ap, ap₂, ◌∙◌}
use mathlib.Core.List.{List, ◌∷◌, ◌++◌}
use Prim.Native.Nat.{ℕ, zero, suc, ◌+◌, ◌≤◌}
use native.Mathlib.Nat.{le_of_suc-le-suc, not-suc-le-zero}
use native.Mathlib.Omega.{arith}
use lib.ListN.{length, take, replicate, length-take}
use lib.Seq.{length-take-le}
use borrow.Author.Tests.{eq-eqb, ne_eqb}
use Rattle.refusals.specs.Refusal.{accepted}
use Rattle.code.specs.Encoding.{known_rate}
use Rattle.code.specs.Rates.{known-bounds}
use Rattle.book64.specs.Modem64.{modem64}
use Rattle.book.specs.Book.{Book, Outcome}
use Rattle.book.specs.Columns.{Agree}
use Rattle.book.specs.closing.Closing.{Closed}
use Rattle.book.proofs.sentences.Sentences.{closing-alike}
use Rattle.book64.specs.Here.{report_length, close_of}
use Rattle.session.specs.declared.Session.{Session}
use Rattle.calls.specs.Held as Fields
use Rattle.session.specs.View.{book_of, Good}
use Rattle.session.specs.Answering.{Closing}
use Rattle.text.specs.Text.{heading_of, message_line, refused_line}
use Rattle.text.specs.Appended.{Appended}
use Rattle.show.specs.Shown.{answer_lines, closed_lines, opened_lines}

pub opened-refused : (o : Outcome) → (o.number ≡ accepted → ⊥) → opened_lines o ≡ refused_line o.number
unfolding opened_lines
opened-refused o h = rw (ne_eqb o.number accepted h)

pub opened-accepted : (o : Outcome) → o.number ≡ accepted → opened_lines o ≡ closed_lines o.book
unfolding opened_lines
opened-accepted o h = rw (eq-eqb o.number accepted h)

pub closed-alike : {a b : Book} → Agree a b → closed_lines a ≡ closed_lines b
unfolding closed_lines answer_lines
closed-alike {a} {b} same = cc (closing-alike modem64 same (replicate a.rate 0) (replicate report_length 0), same.same_rate, same.same_list)

pub closed-refused : (book : Book) (c : Closed) → (c.number ≡ accepted → ⊥) → answer_lines book c ≡ refused_line c.number
unfolding answer_lines
closed-refused book c h = rw (ne_eqb c.number accepted h)

pub closed-accepted : (book : Book) (c : Closed) → c.number ≡ accepted
    → answer_lines book c ≡ heading_of book.rate (length book.doubtful) c.report ++ message_line c.message
unfolding answer_lines
closed-accepted book c h = rw (eq-eqb c.number accepted h)

module _ (s : Session) (message report message' report' : List ℕ) (r : ℕ) (closing : Closing s message report r message' report')
    (good : Good s) (zeros : message ≡ replicate s.rate 0) (blank : report ≡ replicate report_length 0) where
  -- what the book's closing answers into these buffers
  closed : Closed
  closed = close_of (book_of s) message report

  lines : closed_lines (book_of s) ≡ answer_lines (book_of s) closed
  unfolding closed_lines Fields.book_of closed
  lines = ap₂ (λ (m t : List ℕ). answer_lines (book_of s) (close_of (book_of s) m t)) (sym zeros) (sym blank)

  number : r ≡ closed.number
  unfolding closed
  number = closing.number good

  pub shows-refused : (r ≡ accepted → ⊥) → refused_line r ≡ closed_lines (book_of s)
  shows-refused h =
      ap refused_line number ∙ sym (closed-refused (book_of s) closed (λ e. h (number ∙ e))) ∙ sym lines

  heading : heading_of s.rate s.doubt report' ≡ heading_of (book_of s).rate (length (book_of s).doubtful) closed.report
  unfolding Fields.book_of closed
  heading =
      ap₂ (heading_of s.rate)
      (sym (length-take-le s.doubt s.doubtful (omega (arith, good.doubt_fits, good.list_room))))
      (closing.report_bytes good)

  pub shows-closed : r ≡ accepted → heading_of s.rate s.doubt report' ++ message_line message' ≡ closed_lines (book_of s)
  shows-closed h =
      ap₂ (λ (a b : List ℕ). a ++ message_line b) heading message-there
      ∙ sym (closed-accepted (book_of s) closed (sym number ∙ h)) ∙ sym lines
    where
      message-there : message' ≡ closed.message
      message-there = unfold closed in closing.message_bytes good

pub known-short : (rate : ℕ) → known_rate rate ≡ true → rate ≤ 64
known-short rate known = omega (arith, known-bounds rate known)

pub zeros-take : (k n : ℕ) → k ≤ n → take {A = ℕ} k (replicate n 0) ≡ replicate k 0
zeros-take zero n h = refl
zeros-take (suc k) zero h = absurd (not-suc-le-zero h)
zeros-take (suc k) (suc n) h = ap (λ (l : List ℕ). 0 ∷ l) (zeros-take k n (le_of_suc-le-suc h))

pub appended-within : {before text after : List ℕ} {r : ℕ} → Appended before 0 text r after → r ≤ length after
appended-within {before} {text} {after} {r} p = omega (arith, p.end, ap length p.there, length-take r after)
