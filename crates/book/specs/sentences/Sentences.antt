-- What document 01's sentences about the book of a session speak of. The sentences stand in proofs/, each a theorem of the book of every modem.
--
--   tests_of book        the test words
--   blanks_in book        b, how many places are blank, where none is missing: a missing place reads as a column of zeros and would count
--   IsNear book T m      the codeword of the message m is near: of the places that are not blank it differs from some test word in at most T
--   Dearer book m n      the codeword of n has a larger total than that of m, or an equal total and n is the larger message
--   HasMargin book T m d   a runner-up: a near codeword other than that of m, of the least total among these, and its total is that of m and d
--   IsAnswer book T c    the message of a near codeword, every other near codeword is dearer; a margin, absent exactly if no other codeword is near, and d
--                        exactly if there is a runner-up at d; and the report is that message's, with that margin
--   Closes book c        the four sentences about closing together
use Rattle.std.specs.Prelude.{◌≡◌, ◌↔◌, ◌≢◌, ◌⊎◌, ℕ, ◌+◌, ◌<◌, ◌≤◌}
use mathlib.Core.List.{List, Memᴰ}
use Rattle.std.proofs.Math.Option.{Option, none, some}
use Rattle.refusals.specs.Refusal.{accepted, place_missing, none_near, too_blank}
use Rattle.lists.specs.Words.{Word, Lex}
use Rattle.soft.specs.Blank.{open_at, blanks_of}
use Rattle.soft.specs.TestWord.{test_words}
use Rattle.soft.specs.Total.{total_of, differing_in}
use Rattle.family.specs.Encoding.{encode_of}
use Rattle.near.specs.Near.{blank_limit}
use Rattle.near.specs.Reach.{Reach}
use Rattle.book.specs.Model.{Model, places, width}
use Rattle.book.specs.Book.{Book}
use Rattle.book.specs.Columns.{columns_of}
use Rattle.book.specs.Entries.{Missing}
use Rattle.book.specs.closing.Closing.{Closed, margin_for, report_for}

module _ (𝓓 : Model) where
  open 𝓓 use {member}

  -- ---- closing

  module _ (book : Book) where
    -- the test words, by the row's columns and the doubtful list
    unfoldable pub tests_of : List (List ℕ)
    tests_of = test_words (places 𝓓) (columns_of 𝓓 book.row) book.doubtful

    abbrev pub blanks_in : ℕ
    blanks_in = blanks_of (places 𝓓) (columns_of 𝓓 book.row)

    -- the total cost of the codeword of a message, by the row's columns
    unfoldable pub total_for : List ℕ → ℕ
    total_for m = total_of (places 𝓓) (columns_of 𝓓 book.row) (encode_of member book.rate m)

    pub record IsNear (T : ℕ) (m : List ℕ) : Type 0 where
      pub word : Word (width 𝓓) book.rate m
      pub test : List ℕ
      pub tested : Memᴰ test tests_of
      pub few : differing_in (open_at (columns_of 𝓓 book.row)) (places 𝓓) (encode_of member book.rate m) test ≤ T

    abbrev pub Dearer : List ℕ → List ℕ → Type 0
    Dearer m n = (total_for m < total_for n) ⊎ ((total_for m ≡ total_for n) × Lex m n)

    pub record HasMargin (T : ℕ) (m : List ℕ) (d : ℕ) : Type 0 where
      pub rival : List ℕ
      pub near : IsNear T rival
      pub other : rival ≢ m
      pub least : (n : List ℕ) → IsNear T n → n ≢ m → total_for rival ≤ total_for n
      pub margin : total_for m + d ≡ total_for rival

    pub record IsAnswer (T : ℕ) (c : Closed) : Type 0 where
      pub number : c.number ≡ accepted
      pub near : IsNear T c.message
      pub others : (n : List ℕ) → IsNear T n → n ≢ c.message → Dearer c.message n
      pub margin : Option ℕ
      pub absent : (margin ≡ none) ↔ ((n : List ℕ) → IsNear T n → n ≡ c.message)
      pub present : (d : ℕ) → (margin ≡ some d) ↔ HasMargin T c.message d
      pub margin_there : margin_for 𝓓 book.rate (columns_of 𝓓 book.row) book.doubtful c.message ≡ margin
      pub report : c.report ≡ report_for 𝓓 book.rate (columns_of 𝓓 book.row) book.doubtful c.message

  -- the four sentences of what closing answers: 'there a closing with no place missing but too many blank gives 12', and 'with b blank places T is the
  -- largest number with 2T + b < 64 − M − 6' (document 02)
  pub record Closes (book : Book) (c : Closed) : Type 0 where
    pub early : (c.number ≡ place_missing) ↔ ((p : ℕ) × Missing 𝓓 book.row p)
    pub too-blank : ((p : ℕ) → Missing 𝓓 book.row p → ⊥) → (c.number ≡ too_blank) ↔ (blank_limit member book.rate < blanks_in book)
    pub none-near : ((p : ℕ) → Missing 𝓓 book.row p → ⊥) → {T : ℕ} → Reach member book.rate (blanks_in book) T
        → (c.number ≡ none_near) ↔ ((m : List ℕ) → IsNear book T m → ⊥)
    pub otherwise : ((p : ℕ) → Missing 𝓓 book.row p → ⊥) → {T : ℕ} → Reach member book.rate (blanks_in book) T → c.number ≢ none_near
        → IsAnswer book T c
