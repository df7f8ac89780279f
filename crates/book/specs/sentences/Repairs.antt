-- What closing makes of a message that was sent: when it gives it back, when it gives nothing dearer, when it gives nothing else, and when it refuses.
--
--   wrong_of n columns doubtful word   the wrong places: settled ones, of n, that are not blank and at which the word's symbol is not the best symbol
--   FewWrong k columns doubtful T m   m is a message; at each doubtful place that is not blank its codeword has the best or the second symbol, and at
--                        most T settled places are wrong
--   not_best k columns m  at how many places that are not blank the codeword of m has not the best symbol; not-best-changed: the changed places of its
--                        report; none-wrong: 0 where it has the best symbol at all of them
--   Repaired k columns doubtful m c   the call accepts and gives the message m with its report
--   Sure k columns doubtful m c   so it does, and there is no margin: the report says that no other codeword is near
--   NoDearer k columns doubtful m c   the call accepts; the total of what it gives is at most that of m, and where the totals are equal the message
--                        given is m or smaller
--   RefusedAs n message report c   the call is refused with the number n, and the buffers are as they were
--   Never k columns doubtful m message report c   the call gives the message m with its report, or says 'none near' and leaves the buffers as they were
--   Alone k columns doubtful T m   m is a message; with e wrong places, d doubtful ones that are not blank and b blank ones, e + d + T + b < n − M
--   TooFar k columns T m more than T places that are not blank have not the sent symbol as their best one, but so few that no other codeword can be near
--                        then: with M, T and the blank places they are less than all places
--
-- T is always the one that the blank places leave (Reach): there is none if they are too many. Of tables and bit values TableRepairs says the same.
--
-- From here to the code: the contract of `close` is `Closing` in `session`, whose number, message and report are those of `closeOf` of the session's
-- book. `closes-only`, `closes-alone`, `closes-never`, `closes-absent`, `closes-repaired`, `closes-refused` and `closes-found` are the same of whatever
-- answers as closing does (`Closes`), so also of closing after any list of calls.
use Rattle.std.proofs.Math.Bool.{Bool, true, not}
use Rattle.std.specs.Prelude.{◌&&◌, ◌≡◌, ◌⊎◌, length}
use mathlib.Core.List.{List, Memᴰ}
use Rattle.std.proofs.Math.Option.{none}
use Prim.Native.Nat.{ℕ, ◌+◌, ◌-◌, ◌<◌, ◌≤◌}
use Rattle.refusals.specs.Refusal.{accepted, none_near}
use Rattle.lists.specs.Count.{count}
use Rattle.lists.specs.Distinct.{among}
use Rattle.lists.specs.Words.{Word, Lex}
use Rattle.soft.specs.Blank.{open_at, blanks_of}
use Rattle.soft.specs.TestWord.{Offered, best_word}
use Rattle.soft.specs.Total.{symbol_at, changed_at, total_of, differing_in}
use Rattle.family.specs.Encoding.{encode_of}
use Rattle.near.specs.Near.{m_of}
use Rattle.near.specs.Rivals.{doubled, FewDoubtful}
use Rattle.book.specs.Model.{Model, places, width}
use Rattle.book.specs.Book.{Book}
use Rattle.book.specs.Columns.{columns_of}
use Rattle.book.specs.closing.Closing.{Closed, margin_for, report_for}
use Rattle.book.specs.closing.ClosingLaws.{Kept}
use Rattle.book.specs.closing.Report.{runner_in}

abbrev pub wrong_at : (ℕ → List ℕ) → List ℕ → List ℕ → ℕ → Bool
wrong_at columns doubtful word p = not (among p doubtful) && changed_at columns word p

unfoldable pub wrong_of : ℕ → (ℕ → List ℕ) → List ℕ → List ℕ → ℕ
wrong_of n columns doubtful word = count n (wrong_at columns doubtful word)

module _ (𝓓 : Model) where
  open 𝓓 use {member}

  -- ---- few wrong places

  pub record FewWrong (k : ℕ) (columns : ℕ → List ℕ) (doubtful : List ℕ) (T : ℕ) (m : List ℕ) : Type 0 where
    pub word : Word (width 𝓓) k m
    pub at_doubtful : (p : ℕ) → Memᴰ p doubtful → open_at columns p ≡ true → Offered columns p (symbol_at (encode_of member k m) p)
    pub at_settled : wrong_of (places 𝓓) columns doubtful (encode_of member k m) ≤ T

  abbrev pub FewWrongIn : Book → ℕ → List ℕ → Type 0
  FewWrongIn book = FewWrong book.rate (columns_of 𝓓 book.row) book.doubtful

  -- ---- what a call makes of it

  abbrev pub not_best : ℕ → (ℕ → List ℕ) → List ℕ → ℕ
  not_best k columns m = differing_in (open_at columns) (places 𝓓) (encode_of member k m) (best_word (places 𝓓) columns)

  pub record Repaired (k : ℕ) (columns : ℕ → List ℕ) (doubtful m : List ℕ) (c : Closed) : Type 0 where
    pub number : c.number ≡ accepted
    pub message : c.message ≡ m
    pub report : c.report ≡ report_for 𝓓 k columns doubtful m

  pub record NoDearer (k : ℕ) (columns : ℕ → List ℕ) (doubtful m : List ℕ) (c : Closed) : Type 0 where
    pub number : c.number ≡ accepted
    pub total : total_of (places 𝓓) columns (encode_of member k c.message) ≤ total_of (places 𝓓) columns (encode_of member k m)
    pub tie : total_of (places 𝓓) columns (encode_of member k c.message) ≡ total_of (places 𝓓) columns (encode_of member k m) → (c.message ≡ m) ⊎ Lex c.message m
    pub report : c.report ≡ report_for 𝓓 k columns doubtful c.message

  pub record TooFar (k : ℕ) (columns : ℕ → List ℕ) (T : ℕ) (m : List ℕ) : Type 0 where
    pub word : Word (width 𝓓) k m
    pub far : T < not_best k columns m
    pub alone : not_best k columns m + T + m_of member k + blanks_of (places 𝓓) columns < places 𝓓

  pub record RefusedAs (n : ℕ) (message report : List ℕ) (c : Closed) : Type 0 where
    pub number : c.number ≡ n
    pub kept : Kept message report c

  pub record Alone (k : ℕ) (columns : ℕ → List ℕ) (doubtful : List ℕ) (T : ℕ) (m : List ℕ) : Type 0 where
    pub word : Word (width 𝓓) k m
    pub alone : wrong_of (places 𝓓) columns doubtful (encode_of member k m) + length (doubled columns doubtful) + T + blanks_of (places 𝓓) columns
        < places 𝓓 - m_of member k

  pub record Sure (k : ℕ) (columns : ℕ → List ℕ) (doubtful m : List ℕ) (c : Closed) : Type 0 where
    pub repaired : Repaired k columns doubtful m c
    pub absent : margin_for 𝓓 k columns doubtful m ≡ none
    pub absent_byte : runner_in 𝓓 c.report ≡ 0

  abbrev pub Never : ℕ → (ℕ → List ℕ) → List ℕ → List ℕ → List ℕ → List ℕ → Closed → Type 0
  Never k columns doubtful m message report c = Repaired k columns doubtful m c ⊎ RefusedAs none_near message report c

  abbrev pub RepairedIn : Book → List ℕ → Closed → Type 0
  RepairedIn book = Repaired book.rate (columns_of 𝓓 book.row) book.doubtful

  abbrev pub NoDearerIn : Book → List ℕ → Closed → Type 0
  NoDearerIn book = NoDearer book.rate (columns_of 𝓓 book.row) book.doubtful

  abbrev pub AloneIn : Book → ℕ → List ℕ → Type 0
  AloneIn book = Alone book.rate (columns_of 𝓓 book.row) book.doubtful

  abbrev pub SureIn : Book → List ℕ → Closed → Type 0
  SureIn book = Sure book.rate (columns_of 𝓓 book.row) book.doubtful

  abbrev pub NeverIn : Book → List ℕ → List ℕ → List ℕ → Closed → Type 0
  NeverIn book = Never book.rate (columns_of 𝓓 book.row) book.doubtful

  abbrev pub FewDoubtfulIn : Book → ℕ → Type 0
  FewDoubtfulIn book = FewDoubtful member book.rate (columns_of 𝓓 book.row) book.doubtful
