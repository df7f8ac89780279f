-- Machines: lists of calls on sessions of any kind, beside a book of any kind that says what each call answers.
--
--   answers_by answer after book calls   what the book answers to a list of calls, each of which finds the book that the call before it left
--   after_by after book calls   the book after them
--   Each Fits calls      each of the calls fits
--   accepted_by accepts after book calls   those of the calls that the book accepts, each of which finds the book that the call before it left
--   Run Step s calls given t   the calls, each a step from the session that the one before it left, are given these answers, and the session t is left
--   Likeness Same answer after   books that are the same in the sense of Same answer every call alike, and are the same after it
--   AsBook Good book_of Same answer after s call a t   the answer is that of the book of s, and t is good and stands for the book after the call
use Rattle.std.specs.Prelude.{Bool, cond, ◌≡◌}
use mathlib.Core.List.{List, [], ◌∷◌}

unfoldable pub answers_by : {B C A : Type 0} → (B → C → A) → (B → C → B) → B → List C → List A
answers_by answer after book [] = []
answers_by answer after book (call ∷ calls) = answer book call ∷ answers_by answer after (after book call) calls

module _ {B C : Type 0} (after : B → C → B) where
  unfoldable pub after_by : B → List C → B
  after_by book [] = book
  after_by book (call ∷ calls) = after_by (after book call) calls

pub data Each {C : Type 0} (Fits : C → Type 0) : List C → Type 0 where
  fit_nil : Each Fits []
  fit_cons : {call : C} {calls : List C} → Fits call → Each Fits calls → Each Fits (call ∷ calls)

-- ---- leaving calls out

module _ {B C : Type 0} (accepts : B → C → Bool) (after : B → C → B) where
  unfoldable pub accepted_by : B → List C → List C
  accepted_by book [] = []
  accepted_by book (call ∷ calls) =
      cond (accepts book call) (call ∷ accepted_by (after book call) calls) (accepted_by (after book call) calls)

pub data Run {S C A : Type 0} (Step : S → C → A → S → Type 0) : S → List C → List A → S → Type 0 where
  done : {s : S} → Run Step s [] [] s
  next : {s t u : S} {call : C} {a : A} {calls : List C} {given : List A} → Step s call a t → Run Step t calls given u
      → Run Step s (call ∷ calls) (a ∷ given) u

pub record Likeness {B C A : Type 0} (Same : B → B → Type 0) (answer : B → C → A) (after : B → C → B) : Type 0 where
  pub same_refl : (a : B) → Same a a
  pub same_sym : {a b : B} → Same a b → Same b a
  pub same_trans : {a b c : B} → Same a b → Same b c → Same a c
  pub same_answer : {a b : B} → Same a b → (call : C) → answer a call ≡ answer b call
  pub same_after : {a b : B} → Same a b → (call : C) → Same (after a call) (after b call)

pub record AsBook {S B C A : Type 0} (Good : S → Type 0) (book_of : S → B) (Same : B → B → Type 0) (answer : B → C → A) (after : B → C → B) (s : S)
    (call : C) (a : A) (t : S) : Type 0 where
  pub answered : a ≡ answer (book_of s) call
  pub good : Good t
  pub book : Same (book_of t) (after (book_of s) call)
