-- The class at which a step is made, of eight, by what stepping has for any number of classes.
--
--   lead_at, Nonzero, none, one, chosen-one   as they stand there
--   Chosen n ds leads p  of the classes below n, p is the first of least lead among those of non-zero discrepancy; or p is 8 and there is none
--   pivot_of ds leads best r   the class chosen so far, or class r where its discrepancy is not zero and its lead is less
unfoldable pub use Rattle.stepping.specs.Choice.{lead_at}
pub use Rattle.stepping.specs.Choice.{Nonzero, none, one, chosen-one}
use Rattle.std.specs.Prelude.{List, ℕ}
use Rattle.stepping.specs.Choice as Stepping

abbrev pub Chosen : ℕ → List ℕ → List ℕ → ℕ → Type 0
Chosen n ds leads p = Stepping.Chosen 8 n ds leads p

abbrev pub pivot_of : List ℕ → List ℕ → ℕ → ℕ → ℕ
pivot_of ds leads best r = Stepping.pivot_of 8 ds leads best r
