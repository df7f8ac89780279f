-- The class at which a step is made: of least lead among those whose discrepancy is not zero, and the first of these. For any number of classes.
--
--   lead_at leads r       the lead of class r
--   Nonzero ds r         the discrepancy of class r is not zero
--   Chosen most n ds leads p  of the classes below n, p is the first of least lead among those of non-zero discrepancy; or p is most and there is none
--   chosen-one           two classes so chosen are one
--   pivot_of most ds leads best r   the class chosen so far, or class r where its discrepancy is not zero and its lead is less
--   Lowest n leads best, lowest-is   a class of least lead: the one chosen where every class counts
use Rattle.std.specs.Prelude.{◌≡◌, List, ◌≢◌, cond, ℕ, ◌<◌, ◌≤◌, eqb, leb, get_or, replicate}
use Rattle.std.proofs.Common.{sym, ◌∙◌, arith}
use Rattle.std.proofs.Math.Decide.{dec_lt}
use Rattle.std.proofs.lemmas.List.{get_or-replicate}
use Rattle.lists.specs.Smallest.{Smallest}

unfoldable pub lead_at : List ℕ → ℕ → ℕ
lead_at leads r = get_or leads r 0

pub record Nonzero (ds : List ℕ) (r : ℕ) : Type 0 where
  pub nonzero : get_or ds r 0 ≢ 0

pub data Chosen (most n : ℕ) (ds leads : List ℕ) (p : ℕ) : Type 0 where
  none : p ≡ most → ((r : ℕ) → r < n → get_or ds r 0 ≡ 0) → Chosen most n ds leads p
  one : Smallest n (Nonzero ds) (lead_at leads) p → ((r : ℕ) → r < p → Nonzero ds r → lead_at leads p < lead_at leads r) → Chosen most n ds leads p

module _ {most n : ℕ} {ds leads : List ℕ} {p q : ℕ} where
  pub chosen-one : Chosen most n ds leads p → Chosen most n ds leads q → p ≡ q
  chosen-one (none e h) (none f g) = e ∙ sym f
  chosen-one (none e h) (one t b) = absurd (t.passes.nonzero (h q t.within))
  chosen-one (one s a) (none f g) = absurd (s.passes.nonzero (g p s.within))
  chosen-one (one s a) (one t b) = go (dec_lt p q) (dec_lt q p)
    where
      go : Dec (p < q) → Dec (q < p) → p ≡ q
      go (yes l) d = absurd (omega (arith, b p l s.passes, s.least q t.within t.passes))
      go (no l) (yes m) = absurd (omega (arith, a q m t.passes, t.least p s.within s.passes))
      go (no l) (no m) = omega arith

unfoldable pub pivot_of : ℕ → List ℕ → List ℕ → ℕ → ℕ → ℕ
pivot_of most ds leads best r =
    cond (eqb (get_or ds r 0) 0) best (cond (leb most best) r (cond (leb (lead_at leads best) (lead_at leads r)) best r))

-- ---- every class counts
pub record Lowest (n : ℕ) (leads : List ℕ) (best : ℕ) : Type 0 where
  pub within : best < n
  pub least : (r : ℕ) → r < n → lead_at leads best ≤ lead_at leads r

pub lowest-is : {most : ℕ} (n : ℕ) (leads : List ℕ) (best : ℕ) → 0 < n → Chosen most n (replicate n 1) leads best → Lowest n leads best
lowest-is n leads best pos (none e h) = absurd (omega (arith, get_or-replicate {A = ℕ} n 0 1 0 pos, h 0 pos))
lowest-is n leads best pos (one s f) =
    record {
      within = s.within;
      least = λ r l. s.least r l (record { nonzero = λ z. absurd (omega (arith, get_or-replicate {A = ℕ} n r 1 0 l, z)) });
    }
