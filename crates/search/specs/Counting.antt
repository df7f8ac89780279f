-- The steps of counting the test words near a known codeword: how many places differ, how many choices there are, and the count below a node. For every
-- member.
--
--   distance-small      two words differ in no more places than there are
--   choose-fits, choices-fit, choose-times   the choices at few places are few
--   counted-far, counted-every, counted-some, agreed-left   the cases of counting below a node: none is near, all are, or some
--   tests_fit           the counts of two branches together
use Rattle.std.specs.Prelude.{Bool, true, false, ◌≡◌, refl, List, ◌≢◌, ℕ, ◌+◌, ◌-◌, ◌*◌, ◌%◌, ◌^◌, ◌<◌, ◌≤◌, length}
use Rattle.std.proofs.Common.{sym, ap, ◌∙◌, subst, mul-le-mul, mul-le-mul_right, mod-eq_of_lt, arith, pow_mono, pow-add}
use Rattle.std.proofs.Math.Pow.{pow-lt}
use Rattle.lists.specs.Count.{bit}
use Rattle.lists.specs.Choices.{choose_of, choices_of, choose-few, choices-few}
use Rattle.soft.specs.Blank.{flag_at}
use Rattle.soft.specs.Column.{column_of}
use Rattle.soft.specs.ColumnLaws.{second-other, column-length}
use Rattle.soft.specs.TestWord.{best_at, second_at}
use Rattle.soft.specs.Total.{differing_in}
use Rattle.soft.specs.TotalLaws.{differing-le, differing-fewer}
use Rattle.galois.specs.BinaryField.{one-lt}
use Rattle.family.specs.Member.{Member, places, symbols}
use Rattle.near.specs.Near.{reach_of}
use Rattle.near.specs.Written.{agreeing_in}
use Rattle.near.specs.Choices.{closest_test, choices-left, choices-far, choices-some, choices-every}
use Rattle.search.specs.Known.{WithinOf}

pub distance-small : (𝓜 : Member) (counts : ℕ → Bool) (u v : List ℕ) → differing_in counts (places 𝓜) u v ≤ places 𝓜
distance-small 𝓜 counts u v = omega (arith, differing-fewer counts (places 𝓜) u v, differing-le (places 𝓜) u v)

-- the choices at so few places are few
module _ (most m i : ℕ) (few : m ≤ most) where
  pub choose-fits : choose_of m i ≤ 2 ^ most
  choose-fits = let h : 2 ^ m ≤ 2 ^ most = pow_mono few in omega (arith, choose-few m i)

  pub choices-fit : choices_of m i ≤ 2 ^ most
  choices-fit = let h : 2 ^ m ≤ 2 ^ most = pow_mono few in omega (arith, choices-few m i)

  pub choose-times : (k : ℕ) → k ≤ most → choose_of m i * k ≤ 2 ^ most * most
  choose-times k h = mul-le-mul choose-fits h

-- a tree of at most so many doubtful places has no more test words
pub tests_fit : (most a b n : ℕ) → n ≤ most → a ≤ 2 ^ n → b ≤ 2 ^ n → a + b ≤ 2 ^ most + 2 ^ most
tests_fit most a b n h p q = let few : 2 ^ n ≤ 2 ^ most = pow_mono h in omega arith

-- a shift by so few bits loses none
shifted : (a m k w : ℕ) → a ≤ 2 ^ m → m + k < w → a * 2 ^ k % 2 ^ w ≡ a * 2 ^ k
shifted a m k w h l = mod-eq_of_lt (omega (arith, mul-le-mul_right (2 ^ k) h, pow-add 2 m k, pow-lt l))

-- the three cases of counting below a node
module _ (𝓜 : Member) (k b : ℕ) (counts costs c word ps : List ℕ) (left : ℕ) (long : length c ≡ places 𝓜) (size : length word ≡ places 𝓜) (left_is : length ps ≡ left)
    (nearest : List ℕ) (nearest-is : nearest ≡ closest_test (places 𝓜) (column_of (symbols 𝓜) costs) c word ps) (r d : ℕ) (r-is : r ≡ reach_of 𝓜 k b)
    (d-is : d ≡ differing_in (flag_at counts) (places 𝓜) c nearest) where
  other : (p : ℕ) → second_at (column_of (symbols 𝓜) costs) p ≢ best_at (column_of (symbols 𝓜) costs) p
  other p = second-other (column_of (symbols 𝓜) costs p) (omega (arith, column-length (symbols 𝓜) costs p, one-lt 𝓜.gf))

  abbrev Counted : ℕ → Type 0
  Counted n = WithinOf 𝓜 k counts b (column_of (symbols 𝓜) costs) c word ps left n

  apart : d ≡ differing_in (flag_at counts) (places 𝓜) c (closest_test (places 𝓜) (column_of (symbols 𝓜) costs) c word ps)
  apart = d-is ∙ ap (differing_in (flag_at counts) (places 𝓜) c) nearest-is

  pub counted-far : r < d → Counted 0
  counted-far far =
      choices-far 𝓜 (flag_at counts) (reach_of 𝓜 k b) (column_of (symbols 𝓜) costs) other c (omega arith) word ps size left r d _ left_is r-is apart refl far

  module _ (m : ℕ) (m-is : m ≡ agreeing_in (places 𝓜) (flag_at counts) c nearest ps) (near : d ≤ r) where
    agreed : m ≡ agreeing_in (places 𝓜) (flag_at counts) c (closest_test (places 𝓜) (column_of (symbols 𝓜) costs) c word ps) ps
    agreed = m-is ∙ ap (λ u. agreeing_in (places 𝓜) (flag_at counts) c u ps) nearest-is

    pub agreed-left : m ≤ left
    agreed-left =
        choices-left 𝓜 (flag_at counts) (reach_of 𝓜 k b) (column_of (symbols 𝓜) costs) other c (omega arith) word ps size left r d m left_is r-is apart agreed

    pub counted-every : m ≤ r - d → (w : ℕ) → left < w → Counted (1 * 2 ^ left % 2 ^ w)
    counted-every spare w h =
        subst Counted (sym (shifted 1 0 left w (omega arith) (omega arith) ∙ omega arith))
        (choices-every 𝓜 (flag_at counts) (reach_of 𝓜 k b) (column_of (symbols 𝓜) costs) other c (omega arith) word ps size left r d m left_is r-is apart agreed near spare)

    pub counted-some : (n : ℕ) → n ≡ choices_of m (r - d) → (w : ℕ) → left < w → Counted (n * 2 ^ (left - m) % 2 ^ w)
    counted-some n n-is w h =
        subst Counted (sym (ap (λ a. a * 2 ^ (left - m) % 2 ^ w) n-is ∙ shifted (choices_of m (r - d)) m (left - m) w (choices-few m (r - d)) (omega (arith, agreed-left))))
        (choices-some 𝓜 (flag_at counts) (reach_of 𝓜 k b) (column_of (symbols 𝓜) costs) other c (omega arith) word ps size left r d m left_is r-is apart agreed near)
