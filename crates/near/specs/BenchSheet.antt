-- Document 01's bench sheet, C1 to C10: one table of tests, each over the definitions that contracts cite, and one theorem that all pass.
--
--   bench_sheet      the ten lines, in order
--   all_pass        the theorem: every line passes
--   AllPass tests   every test of a table passes
use Rattle.std.specs.Prelude.{Bool, true, List, [], ◌∷◌, ℕ, zero, suc, ◌<◌, T, eqb, length, get_or}
use Rattle.std.proofs.Common.{le_of_suc-le-suc, not-suc-le-zero}
use Rattle.galois.specs.Gf16.{times}
use Rattle.galois.specs.Binary as Binary
use Rattle.code.specs.Bench.{case3, case4, case5, case6, case7, case8, c3, c4, c5, c6, c7, c8}
use Rattle.soft.specs.Bench.{case9, case10}
use Rattle.soft.proofs.Bench.{c9, c10}

-- 2 × 9 = 1
unfoldable pub case1 : Bool
case1 = eqb (times 2 9) 1

-- 7 × 7 = 6
unfoldable pub case2 : Bool
case2 = eqb (times 7 7) 6

abbrev pub bench_sheet : List Bool
bench_sheet = case1 ∷ case2 ∷ case3 ∷ case4 ∷ case5 ∷ case6 ∷ case7 ∷ case8 ∷ case9 ∷ case10 ∷ []

-- every test of a table passes
pub data AllPass : List Bool → Type 0 where
  none_left : AllPass []
  and_then : {b : Bool} {tests : List Bool} → T b → AllPass tests → AllPass (b ∷ tests)

c1 : T case1
unfolding case1 Binary.times Binary.shift_add Binary.xtime
c1 = tt

c2 : T case2
unfolding case2 Binary.times Binary.shift_add Binary.xtime
c2 = tt

pub all_pass : AllPass bench_sheet
all_pass =
    and_then c1
    (and_then c2 (and_then c3 (and_then c4 (and_then c5 (and_then c6 (and_then c7 (and_then c8 (and_then c9 (and_then c10 none_left)))))))))
