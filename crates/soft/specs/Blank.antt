-- Blank places (erasures): those whose column has all its costs equal. Nothing is known there.
--
--   blank_at columns p      place p is blank; open_at: it is not, and counts
--   blanks_of n columns     b, how many of the n places are blank
--   unblanked counts ps    the places of a list that count, in its order
--   flags_of n columns      a flag for each of n places: 1 where it is not blank
--   flag_at flags p         the flag of place p is 1; past the last there is none
use Rattle.std.specs.Prelude.{Bool, not, cond, List, [], ◌∷◌, ℕ, eqb, get_or}
use Rattle.lists.specs.Count.{bit, count}
use Rattle.lists.specs.Listed.{listed}
use Rattle.soft.specs.Column.{is_blank}

abbrev pub blank_at : (ℕ → List ℕ) → ℕ → Bool
blank_at columns p = is_blank (columns p)

abbrev pub open_at : (ℕ → List ℕ) → ℕ → Bool
open_at columns p = not (is_blank (columns p))

unfoldable pub blanks_of : ℕ → (ℕ → List ℕ) → ℕ
blanks_of n columns = count n (blank_at columns)

unfoldable pub unblanked : (ℕ → Bool) → List ℕ → List ℕ
unblanked counts [] = []
unblanked counts (p ∷ ps) = cond (counts p) (p ∷ unblanked counts ps) (unblanked counts ps)

unfoldable pub flags_of : ℕ → (ℕ → List ℕ) → List ℕ
flags_of n columns = listed n (λ p. bit (open_at columns p))

abbrev pub flag_at : List ℕ → ℕ → Bool
flag_at flags p = eqb (get_or flags p 0) 1
