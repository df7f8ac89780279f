-- Sessions of a modem, whatever struct keeps their fields: what the struct keeps is what Held has, no more and no less.
--
--   Keeping S            the values of S keep the fields of a session: `held` reads them, and `made` is the value that keeps given ones
--   fields               the fields themselves do
--   one_kept             values that keep the same fields are equal
--   book_of s             the book that the fields of s stand for (Held)
--   Good s               what holds of every session from opening (Held)
--   book-taken, column-there, good-proper, one-session   what HeldLaws says of good fields, of the values that keep them
use Rattle.std.specs.Prelude.{true, false, ◌≡◌, refl, ℕ, get_or}
use Rattle.std.proofs.Common.{sym, ap, ◌∙◌}
use Rattle.std.proofs.Math.Option.{some}
use Rattle.lists.specs.Block.{block}
use Rattle.book.specs.Model.{Model, width}
use Rattle.book.specs.Book.{Book, column_in, taken}
use Rattle.book.specs.Columns.{Agree}
use Rattle.book.specs.rows.RowLaws.{Proper}
use Rattle.calls.specs.Held as Fields
use Rattle.calls.specs.Held.{Held}
use Rattle.calls.specs.HeldLaws as laws

pub record Keeping (S : Type 0) : Type 0 where
  pub held : S → Held
  pub made : Held → S
  pub held_made : (h : Held) → held (made h) ≡ h
  pub made_held : (s : S) → made (held s) ≡ s

abbrev pub fields : Keeping Held
fields = record { held = λ h. h; made = λ h. h; held_made = λ h. refl; made_held = λ h. refl }

pub one_kept : {S : Type 0} (K : Keeping S) {s t : S} → K.held s ≡ K.held t → s ≡ t
one_kept K {s} {t} e = sym (K.made_held s) ∙ ap K.made e ∙ K.made_held t

module _ (𝓓 : Model) {S : Type 0} (K : Keeping S) where
  abbrev pub book_of : S → Book
  book_of s = Fields.book_of 𝓓 (K.held s)

  abbrev pub Good : S → Type 0
  Good s = Fields.Good 𝓓 (K.held s)

  module _ (s : S) (good : Good s) where
    pub book-taken : (p : ℕ) → taken (book_of s).row p ≡ get_or (K.held s).taken p false
    book-taken = laws.book-taken 𝓓 (K.held s) good

    pub column-there : (p : ℕ) → get_or (K.held s).taken p false ≡ true
        → column_in (book_of s).row p ≡ some (block (width 𝓓) p (K.held s).costs)
    column-there = laws.column-there 𝓓 (K.held s) good

    pub good-proper : Proper 𝓓 (book_of s)
    good-proper = laws.good-proper 𝓓 (K.held s) good

  pub one-session : (s t : S) → Good s → Good t → Agree (book_of s) (book_of t) → s ≡ t
  one-session s t a b same = one_kept K (laws.one_held 𝓓 (K.held s) (K.held t) a b same)
