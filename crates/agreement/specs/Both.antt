-- What engine and tree find together, as one function calls them.
--
--   undoubted         no place is doubtful: the doubtful places of a search that is given none
--   BothAgree …       the engine answers as its contract says; the tree finds what the test words of the costs find, none of their places doubtful; and where
--                     the engine's checks pass, the costs are 1,024, their blank columns are those of the list, and the word has their best symbol at
--                     every place that is not blank, the two agree
--   asked-alone       of such costs the tree may be asked
--   both-agree        so it is with whatever meets the contracts of `engine::eliminate` and of `chase::nearest`
use Rattle.std.specs.Prelude.{◌≡◌, List, ℕ, ◌*◌, ◌<◌, length, get_or, replicate, true}
use Rattle.std.proofs.Common.{sym, subst, arith}
use Rattle.soft.specs.Column.{symbols, column_of}
use Rattle.soft.specs.Doubt.{most_doubt}
use Rattle.soft.specs.TestWord.{best_at}
use Rattle.refusals.specs.Numbers.{number_of}
use Rattle.near.specs.Tree.{places_nil}
use Rattle.chase.specs.Call.{Asked, nearest_of}
use Rattle.book64.specs.Here.{places}
use Rattle.book64.specs.engine.Engine.{eliminated, engine_of, unblanked_by}
use Rattle.book64.specs.engine.EngineLaws.{EnginePassed}
use Rattle.book64.specs.engine.Single.{BlankAt, same_number}
use Rattle.agreement.specs.Agreement.{Agrees, engine-nearest}
use Rattle.agreement.specs.declared.Both.{Both}

abbrev pub undoubted : List ℕ
undoubted = replicate most_doubt 0

pub record BothAgree (rate : ℕ) (costs word blanks codeword q : List ℕ) (r : Both) (codeword' q' : List ℕ) : Type 0 where
  pub answers : eliminated (number_of r.answer) codeword' q' ≡ engine_of rate word blanks codeword q
  pub finds : r.found ≡ nearest_of rate costs undoubted 0
  pub agree : EnginePassed rate word blanks (length codeword) (length q) → length costs ≡ places * symbols → BlankAt blanks (column_of symbols costs)
      → ((p : ℕ) → p < places → unblanked_by blanks p ≡ true → get_or word p 0 ≡ best_at (column_of symbols costs) p)
      → Agrees (eliminated (number_of r.answer) codeword' q') r.found

pub asked-alone : {rate : ℕ} {word blanks : List ℕ} {codeword q : ℕ} → EnginePassed rate word blanks codeword q → (costs : List ℕ)
    → length costs ≡ places * symbols → BlankAt blanks (column_of symbols costs) → (doubtful : List ℕ) → Asked rate costs doubtful 0
asked-alone {blanks = blanks} P costs size blank doubtful =
    record {
      known = P.known;
      size = size;
      few = omega arith;
      fit = places_nil;
      few_blank = omega (arith, P.few, same_number blanks P.fit (column_of symbols costs) blank);
    }

pub both-agree : (rate : ℕ) (costs word blanks codeword q : List ℕ) (r : Both) (codeword' q' : List ℕ)
    → eliminated (number_of r.answer) codeword' q' ≡ engine_of rate word blanks codeword q → r.found ≡ nearest_of rate costs undoubted 0
    → BothAgree rate costs word blanks codeword q r codeword' q'
both-agree rate costs word blanks codeword q r codeword' q' e f =
    record {
      answers = e;
      finds = f;
      agree = λ P size blank best.
          subst (λ c. Agrees c r.found) (sym e)
          (engine-nearest rate word blanks codeword q P costs blank best undoubted (asked-alone P costs size blank undoubted) f);
    }
