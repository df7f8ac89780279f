-- How seldom noise alone is taken for a codeword, in whole numbers.
--
--   choose n i        of n places so many sets of i
--   within t          of the words of 64 symbols so many are at most t places from one of them: the sum of C(64, i) 15^i for i up to t
--   Seldom k c        what lies within T of each of the 16^k codewords of rate k is together at most one in 10^c of all 16^64 words
use Rattle.std.specs.Prelude.{ℕ, zero, suc, ◌+◌, ◌-◌, ◌*◌, ◌/◌, ◌^◌, ◌≤◌}
use Rattle.soft.specs.Column.{places}
use Rattle.near.specs.Here.{reach_of}

unfoldable pub choose : ℕ → ℕ → ℕ
choose n zero = 1
choose n (suc i) = choose n i * (n - i) / (i + 1)

unfoldable pub within : ℕ → ℕ
within zero = 1
within (suc t) = within t + choose places (suc t) * 15 ^ suc t

unfoldable pub Seldom : ℕ → ℕ → Type 0
Seldom k c = within (reach_of k 0) * 10 ^ c ≤ 16 ^ (places - k)
