-- The blank places as they are handed down to functions, for every member: a flag for each place, and how many are blank.
--
--   OpenFlags k columns counts b   the flags are 1 at the places that are not blank in the columns, b are blank, and no more than the rate allows
--   reach-flagged, limit-flagged   T and the limit of keys by b are those of the columns
--   repairs-flagged             T wrong places of those that are not blank can be repaired
--   differing-flagged           two words differ in as many of the places flagged as of those that are not blank
--   blank-number, flags-marked  so it is with the flags of a list of costs and their number
use Rattle.std.specs.Prelude.{not, ◌≡◌, List, ℕ, ◌*◌, ◌≤◌, length}
use Rattle.std.proofs.Common.{ap, ◌∙◌, subst, mul-le-mul_right, arith}
use Rattle.lists.specs.Count.{count}
use Rattle.soft.specs.Blank.{open_at, flag_at, flags_of}
use Rattle.soft.specs.BlankLaws.{flags-blanks, flags-open, column-none}
use Rattle.soft.specs.Column.{column_of}
use Rattle.soft.specs.Total.{differing_in}
use Rattle.family.specs.Member.{Member, places, symbols}
use Rattle.near.specs.Near.{blank_limit, reach_of}
use Rattle.near.specs.Reach.{Workable, Repairable, reach_in, repairs-open}
use Rattle.near.specs.Interpolated.{limit_of}
use Rattle.search.specs.Open.{blanks_in, limit_in}

pub record OpenFlags (𝓜 : Member) (k : ℕ) (columns : ℕ → List ℕ) (counts : List ℕ) (b : ℕ) : Type 0 where
  pub flags : flag_at counts ≡ open_at columns
  pub number : b ≡ blanks_in 𝓜 columns
  pub few : b ≤ blank_limit 𝓜 k

module _ {𝓜 : Member} {k : ℕ} {columns : ℕ → List ℕ} {counts : List ℕ} {b : ℕ} (marked : OpenFlags 𝓜 k columns counts b) where
  pub reach-flagged : reach_of 𝓜 k b ≡ reach_in 𝓜 k columns
  reach-flagged = ap (reach_of 𝓜 k) marked.number

  pub limit-flagged : limit_of 𝓜 (reach_of 𝓜 k b) k ≡ limit_in 𝓜 k columns
  limit-flagged = ap (λ n. limit_of 𝓜 (reach_of 𝓜 k n) k) marked.number

  pub repairs-flagged : Workable 𝓜 k → Repairable 𝓜 (open_at columns) (reach_in 𝓜 k columns) k
  repairs-flagged rate = repairs-open 𝓜 rate columns (subst (λ n. n ≤ blank_limit 𝓜 k) marked.number marked.few)

  pub differing-flagged : (u v : List ℕ) → differing_in (flag_at counts) (places 𝓜) u v ≡ differing_in (open_at columns) (places 𝓜) u v
  differing-flagged u v = ap (λ on. differing_in on (places 𝓜) u v) marked.flags

-- the flags of a list of costs
module _ (𝓜 : Member) (costs counts : List ℕ) (flags-is : counts ≡ flags_of (places 𝓜) (column_of (symbols 𝓜) costs)) (b : ℕ)
    (b-is : b ≡ count (places 𝓜) (λ p. not (flag_at counts p))) where
  pub blank-number : b ≡ blanks_in 𝓜 (column_of (symbols 𝓜) costs)
  blank-number =
      b-is ∙ ap (λ (l : List ℕ). count (places 𝓜) (λ p. not (flag_at l p))) flags-is ∙ flags-blanks (places 𝓜) (column_of (symbols 𝓜) costs)

  pub flags-marked : (k : ℕ) → length costs ≡ places 𝓜 * symbols 𝓜 → (l : ℕ) → l ≡ blank_limit 𝓜 k → b ≤ l
      → OpenFlags 𝓜 k (column_of (symbols 𝓜) costs) counts b
  flags-marked k size l l-is few =
      record {
        flags = ap flag_at flags-is ∙ flags-open (places 𝓜) (column_of (symbols 𝓜) costs) (λ p h. column-none (symbols 𝓜) costs p (omega (arith, size, mul-le-mul_right (symbols 𝓜) h)));
        number = blank-number;
        few = omega (arith, l-is);
      }
