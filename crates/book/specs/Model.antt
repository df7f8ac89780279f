-- A modem of the family: what document 01 fixes for one. The book, what it answers and the laws of that are stated for every modem.
--
--   Model              its member of the family; the known rates, each of which can be worked with; the largest doubt, which is also the length of the
--                      longest doubtful list, and as many places are there beside the blank ones that a known rate allows; the rate that a refused opening
--                      hands back, a known one; how many bytes the report has for each count of places; and that no count, total or number of test
--                      words is too large for its bytes
--   places 𝓓, width 𝓓  how many places there are, and how many costs a column has: one for each symbol
--   modem64            document 01's: GF(16) with w = 4, so 64 places and sixteen costs; rates 6 to 52, a doubt of at most 12, rate 39 after a refusal,
--                      and a byte for each count
use Rattle.std.specs.Prelude.{Bool, true, ◌≡◌, ℕ, ◌+◌, ◌*◌, ◌^◌, ◌<◌, ◌≤◌}
use Rattle.soft.specs.Column.{ceiling}
use Rattle.family.specs.Member.{Member}
use Rattle.family.specs.Member as Family
use Rattle.near.specs.Near.{blank_limit}
use Rattle.near.specs.Reach.{Workable}

pub record Model : Type 0 where
  pub member : Member
  pub known : ℕ → Bool
  pub workable : (k : ℕ) → known k ≡ true → Workable member k
  pub most_doubt : ℕ
  pub doubt_fits : (k : ℕ) → known k ≡ true → most_doubt + blank_limit member k ≤ Family.places member
  pub first : ℕ
  pub first_known : known first ≡ true
  pub wide : ℕ
  pub counts_fit : Family.places member < 256 ^ wide
  pub totals_fit : Family.places member * ceiling < 256 ^ 4
  pub tests_fit : 2 ^ most_doubt < 256 ^ 2

module _ (𝓓 : Model) where
  abbrev pub places : ℕ
  places = Family.places 𝓓.member

  abbrev pub width : ℕ
  width = Family.symbols 𝓓.member
