-- What the tree answers for one test word, in the form of the engine's call.
--
--   codeword_in a          the codeword of an answer, or the bytes of a lent buffer as it was
--   branch_in f            'none near', where nothing is found; else the codeword found
--   alone_of rate word blanks    what the tree finds for the word alone with these blank places: its columns are blank there, and the word's symbols are their
--                         best ones (agreement Faded)
--   branch_of rate word blanks   the same in the form of a call
--   beside_of n rate word blanks   the same beside the engine's number n, where its checks passed; else nothing
--   shown_of b             the number and the codeword, or the buffer as it was; 255 where the tree is not asked
--   beside-passed, beside-refused   its two cases
--   branch-agrees         'for every rate, test word and list of blank places': where the checks pass, number and codeword are the engine's
use Rattle.std.specs.Prelude.{Option, Some, None, Result, Ok, Err, cond, ◌||◌, ◌≡◌, refl, List, ◌≢◌, ◌⊎◌, ℕ, eqb, length, replicate}
use Rattle.std.proofs.Common.{sym, ◌∙◌, inl, inr, arith}
use borrow.Author.Tests.{eq-eqb, ne_eqb}
use Rattle.refusals.specs.Refusal.{accepted, none_near}
use Rattle.refusals.specs.Numbers.{number_of}
use Rattle.refusals.specs.declared.Refusal.{Refusal}
use Rattle.refusals.specs.declared.Refusal.TheVariants.{NoneNear as NoneNearby}
use Rattle.answer.specs.declared.Answer.{Answer}
use Rattle.answer.specs.declared.Answer.TheVariants.{NoneNear, Near}
use Rattle.answers.specs.declared.Finding.{Finding}
use Rattle.chase.specs.Call.{nearest_of}
use Rattle.book64.specs.Here.{places}
use Rattle.book64.specs.engine.Engine.{engine_of}
use Rattle.book64.specs.engine.EngineLaws.{EnginePassed, engine-nobody}
use Rattle.agreement.specs.Agreement.{Agrees}
use Rattle.agreement.specs.Both.{undoubted}
use Rattle.agreement.specs.Faded.{faded_costs, engine-tree}

-- what a lent buffer holds before a call
abbrev pub lent_buffer : List ℕ
lent_buffer = replicate places 238

abbrev pub codeword_in : Result (List ℕ) Refusal → List ℕ
codeword_in (Ok codeword) = codeword
codeword_in (Err refusal) = lent_buffer

-- by the answer
unfoldable pub branch_by : Answer → List ℕ → Result (List ℕ) Refusal
branch_by NoneNear codeword = Err NoneNearby
branch_by (Near t d) codeword = Ok codeword

unfoldable pub branch_in : Finding → Result (List ℕ) Refusal
branch_in f = branch_by f.answer f.codeword

abbrev pub alone_of : ℕ → List ℕ → List ℕ → Finding
alone_of rate word blanks = nearest_of rate (faded_costs blanks word) undoubted 0

unfoldable pub branch_of : ℕ → List ℕ → List ℕ → Result (List ℕ) Refusal
branch_of rate word blanks = branch_in (alone_of rate word blanks)

unfoldable pub beside_of : ℕ → ℕ → List ℕ → List ℕ → Option (Result (List ℕ) Refusal)
beside_of n rate word blanks = cond (eqb n accepted || eqb n none_near) (Some (branch_of rate word blanks)) None

abbrev pub shown_of : Option (Result (List ℕ) Refusal) → ℕ × List ℕ
shown_of (Some answer) = (number_of answer, codeword_in answer)
shown_of None = (255, lent_buffer)

module _ (n rate : ℕ) (word blanks : List ℕ) where
  pub beside-passed : (n ≡ accepted) ⊎ (n ≡ none_near) → beside_of n rate word blanks ≡ Some (branch_of rate word blanks)
  unfolding beside_of
  beside-passed (inl e) = rw (eq-eqb n accepted e)
  beside-passed (inr e) = rw (ne_eqb n accepted (λ z. omega arith), eq-eqb n none_near e)

  pub beside-refused : n ≢ accepted → n ≢ none_near → beside_of n rate word blanks ≡ None
  unfolding beside_of
  beside-refused d e = rw (ne_eqb n accepted d, ne_eqb n none_near e)

pub branch-agrees : (rate : ℕ) (word blanks q : List ℕ) → EnginePassed rate word blanks (length lent_buffer) (length q)
    → ((engine_of rate word blanks lent_buffer q).number ≡ number_of (branch_of rate word blanks))
    × ((engine_of rate word blanks lent_buffer q).codeword ≡ codeword_in (branch_of rate word blanks))
unfolding branch_of branch_in branch_by
branch-agrees rate word blanks q P = go (alone_of rate word blanks).answer refl
  where
    A : Agrees (engine_of rate word blanks lent_buffer q) (alone_of rate word blanks)
    A = engine-tree rate word blanks lent_buffer q P

    go : (a : Answer) → (alone_of rate word blanks).answer ≡ a
        → ((engine_of rate word blanks lent_buffer q).number ≡ number_of (branch_by a (alone_of rate word blanks).codeword))
        × ((engine_of rate word blanks lent_buffer q).codeword ≡ codeword_in (branch_by a (alone_of rate word blanks).codeword))
    go NoneNear e = let n = A.nobody.1 e in (n, (engine-nobody rate word blanks lent_buffer q P n).1)
    go (Near t d) e = let n = A.somebody.1 (λ z. other (sym e ∙ z)) in (n, A.same n)
      where
        other : Near t d ≡ NoneNear → ⊥
        other z = let y : ◌≡◌ {A = ℕ} 0 1 = cc in omega arith
