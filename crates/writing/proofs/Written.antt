-- The cases of writing: each answers as the book of a good session does.
use mathlib.Core.Bool.{true, false, not}
use mathlib.Core.Path.{◌≡◌, refl, sym, ap, ◌∙◌}
use mathlib.Core.List.{List, ◌++◌}
use Prim.Native.Nat.{ℕ, ◌<◌}
use native.Mathlib.Omega.{arith}
use lib.ListN.{length, take}
use Rattle.refusals.specs.Refusal.{accepted, wrong_size, place_missing}
use Rattle.lists.specs.Listed.{listed-ext}
use Rattle.soft.specs.Doubt.{most_doubt}
use Rattle.book64.specs.Modem64.{modem64}
use Rattle.book.specs.Book.{Entry, Filled}
use Rattle.book64.specs.captures.Capture.{row_bytes, capture_length, capture_of}
use Rattle.book.specs.rows.PlaceOrder.{record_of}
use Rattle.book.specs.rows.PlaceOrder as Ordering
use Rattle.book64.proofs.captures.RoundTrip.{write-size, write-missing, write-accepted}
use Rattle.book64.specs.Here.{places, width, some_missing, in_place_order}
use Rattle.session.specs.declared.Session.{Session}
use Rattle.session.specs.View.{entry_at, all_taken, book_of, Good}
use Rattle.session.specs.Laws.{list_length}
use Rattle.session.specs.Table.{columns-table, missing-taken}
use Rattle.calls.specs.Held as Fields
use Rattle.calls.specs.HeldLaws.{table-column, column_fits}
use Rattle.capture.specs.Calls.{head_bytes, row_of, Writing}

number : Filled → ℕ
number f = f.number

bytes : Filled → List ℕ
bytes f = f.bytes

module _ (s : Session) (before : List ℕ) where
  -- a session record that was built by hand
  pub writing-long : most_doubt < s.doubt → Writing s before wrong_size before
  writing-long h =
      record {
        number = λ good. absurd (omega (arith, good.doubt_fits));
        bytes = λ good. absurd (omega (arith, good.doubt_fits));
        kept = λ n. refl;
        size = refl;
      }

  pub writing-size : (length before ≡ capture_length s.doubt → ⊥) → Writing s before wrong_size before
  unfolding number bytes
  writing-size h =
      record {
        number = λ good. sym (ap number (write-size (book_of s) before (other good)));
        bytes = λ good. sym (ap bytes (write-size (book_of s) before (other good)));
        kept = λ n. refl;
        size = refl;
      }
    where
      other : Good s → length before ≡ capture_length (length (book_of s).doubtful) → ⊥
      other good e = h (e ∙ ap capture_length (list_length s good))

  module _ (sized : length before ≡ capture_length s.doubt) where
    fits : Good s → length before ≡ capture_length (length (book_of s).doubtful)
    fits good = sized ∙ ap capture_length (sym (list_length s good))

    pub writing-missing : all_taken s.taken ≡ false → Writing s before place_missing before
    unfolding number bytes
    writing-missing e =
        record {
          number = λ good. sym (ap number (write-missing (book_of s) before (fits good) (missing good)));
          bytes = λ good. sym (ap bytes (write-missing (book_of s) before (fits good) (missing good)));
          kept = λ n. refl;
          size = refl;
        }
      where
        missing : Good s → some_missing (book_of s).row ≡ true
        missing good = missing-taken s good ∙ ap not e

    -- the row that was written is the book's, in place order
    same_row : Good s → row_of s.costs places ≡ in_place_order (book_of s).row
    unfolding row_of Fields.entry_at Ordering.in_place_order Ordering.record_of
    same_row good =
        listed-ext places (entry_at s.costs) (record_of modem64 (book_of s).row)
        (λ p h.
        let column = table-column width p s.costs (column_fits modem64 s.costs p good.table_room h)
        ∙ ap (λ (f : ℕ → List ℕ). f p) (sym (columns-table s good)) in
        ap (λ (c : List ℕ). record { place = p; column = c }) column)

    whole-capture : Good s
        → head_bytes s.rate (take s.doubt s.doubtful) ++ row_bytes (row_of s.costs places) ≡ capture_of (book_of s)
    unfolding head_bytes capture_of Fields.book_of
    whole-capture good = ap (λ (r : List Entry). head_bytes s.rate (take s.doubt s.doubtful) ++ row_bytes r) (same_row good)

    pub writing-accepted : (after : List ℕ) → length after ≡ length before → all_taken s.taken ≡ true
        → after ≡ head_bytes s.rate (take s.doubt s.doubtful) ++ row_bytes (row_of s.costs places)
        → Writing s before accepted after
    unfolding number bytes
    writing-accepted after long e f =
        record {
          number = λ good. sym (ap number (write-accepted (book_of s) before (fits good) (present good)));
          bytes = λ good. f ∙ whole-capture good ∙ sym (ap bytes (write-accepted (book_of s) before (fits good) (present good)));
          kept = λ n. absurd (n refl);
          size = long;
        }
      where
        present : Good s → some_missing (book_of s).row ≡ false
        present good = missing-taken s good ∙ ap not e
