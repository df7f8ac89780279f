-- The calls of the modem of 64 places (`book` Calls): beside deliveries, withdrawals and closings it has interpolant readings and capture writings.
--
--   others64             what the book answers to them: other-alike, other-kept, other-sized, other-blank
--   first_lent, second_lent   the buffers as they are lent
--   answer book call     what the book answers to a call
--   after book call      the book after it: only an accepted delivery or withdrawal changes it
--   answers, after_all    the same of a list of calls, each of which finds the book that the call before it left
use Rattle.std.specs.Prelude.{true, ◌≡◌, refl, List, ◌≢◌, ℕ, eqb, length}
use Rattle.refusals.specs.Refusal.{accepted, wrong_size, too_blank}
use Rattle.interpolant.specs.LeastQ.{reading_length}
use Rattle.book.specs.Book.{Book, Filled}
use Rattle.book.specs.Columns.{Agree}
use Rattle.book64.specs.captures.Capture.{capture_length}
use Rattle.book64.specs.captures.Writing.{write_of}
use Rattle.book64.proofs.captures.WritingLaws.{writing-alike, write_kept, write-sized}
use Rattle.book64.specs.readings.Reading.{read_of}
use Rattle.book64.proofs.readings.ReadingLaws.{read_kept, read-sized}
use Rattle.book64.proofs.readings.ReadingSentences.{reading-alike}
use Rattle.book64.specs.Modem64.{modem64}
use Rattle.book64.specs.Here.{some_missing, Proper}
use Rattle.book.specs.calls.Calls as any
use Rattle.book.specs.calls.Calls.{Answer, Others}
use Rattle.book.proofs.calls.CallLaws.{none-of-three}
use Rattle.book64.specs.calls.Calls.{Other, read, write, Call}

abbrev lent_to : Other → List ℕ
lent_to (read out) = out
lent_to (write out) = out

abbrev asked_of : Book → Other → Filled
asked_of book (read out) = read_of book out
asked_of book (write out) = write_of book out

pub other-alike : {a b : Book} → Agree a b → (x : Other) → asked_of a x ≡ asked_of b x
other-alike same (read out) = reading-alike same out
other-alike same (write out) = writing-alike same out

pub other-kept : (book : Book) (x : Other) → (asked_of book x).number ≢ accepted → (asked_of book x).bytes ≡ lent_to x
other-kept book (read out) = read_kept book out
other-kept book (write out) = write_kept book out

pub other-sized : (book : Book) (x : Other) → Proper book → length (asked_of book x).bytes ≡ length (lent_to x)
other-sized book (read out) proper = read-sized book out
other-sized book (write out) proper = write-sized book out proper

pub other-blank : (book : Book) (x : Other) → (asked_of book x).number ≢ too_blank
unfolding read_of write_of
other-blank book (read out) n =
    let refused : Filled = record { number = wrong_size; bytes = out } in
    none-of-three (λ (f : Filled). f.number) too_blank (eqb (length out) reading_length) true _ refused refused n refl refl refl
other-blank book (write out) n =
    none-of-three (λ (f : Filled). f.number) too_blank (eqb (length out) (capture_length (length book.doubtful))) (some_missing book.row) _ _ _ n
    refl refl refl

abbrev pub others64 : Others modem64 Other
others64 =
    record {
      lent = lent_to;
      asked = asked_of;
      asked_alike = λ same x. other-alike same x;
      asked_kept = other-kept;
      asked_sized = other-sized;
      asked_blank = other-blank;
    }

abbrev pub first_lent : Call → List ℕ
first_lent call = any.first_lent others64 call

abbrev pub second_lent : Call → List ℕ
second_lent call = any.second_lent others64 call

abbrev pub answer : Book → Call → Answer
answer book call = any.answer others64 book call

abbrev pub after : Book → Call → Book
after book call = any.after others64 book call

abbrev pub answers : Book → List Call → List Answer
answers book calls = any.answers others64 book calls

abbrev pub after_all : Book → List Call → Book
after_all book calls = any.after_all others64 book calls
