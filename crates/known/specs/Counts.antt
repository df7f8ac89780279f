-- The counts of two branches together.
--
--   tests_fit     they fit 16 bits: a tree of at most twelve doubtful places has at most 4,096 test words
use Rattle.std.specs.Prelude.{ℕ, ◌+◌, ◌^◌, ◌≤◌}
use Rattle.std.proofs.Common.{arith}
use Rattle.soft.specs.Doubt.{most_doubt}
use Rattle.search.specs.Counting as Family

pub tests_fit : (a b n : ℕ) → n ≤ most_doubt → a ≤ 2 ^ n → b ≤ 2 ^ n → a + b ≤ 65535
tests_fit a b n h p q = omega (arith, Family.tests_fit most_doubt a b n h p q)
