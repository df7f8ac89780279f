-- Keys that put the places of a table in the order of doubt: a place with a smaller key is ahead. Those of blank places are from a bound on, which
-- no other key reaches, so a blank place is ahead of none that is not.
--
--   far_of n                such a bound for n places with gaps up to the ceiling
--   entry_of keys p         the key of place p in a list
--   KeyOf n far columns p key   the key of place p, of n places
--   Keyed n far columns keys    the keys of all of them
--   Apart n far keys       no two places that are not blank share a key
--   chosen_with far d key rank   a place with this key and so many ahead of it is not blank, and fewer than d are ahead
--   chosen_by n far d keys q     the same of place q, by the keys
--   chosen_of n far d keys  the places chosen, rising
--   below_by n t keys       how many places have a gap below t, which is the key's quotient by n
--   rank-ahead             of a place that is not blank, the keys below its own are counted by the places ahead
--   chosen-few, chosen-doubtful   so the places chosen are the doubtful ones
--   below-gaps             up to a threshold that the bound allows these are not blank, and the places with such a gap
--   chosen-closest         so the places chosen with their number, 1 at least and the maximum at most, are the doubtful ones by the threshold
use Rattle.std.specs.Prelude.{Bool, ◌&&◌, ◌≡◌, refl, List, ℕ, ◌+◌, ◌*◌, ◌/◌, ◌<◌, ◌≤◌, get_or}
use Rattle.std.proofs.Math.Bool.{true, false}
use Rattle.std.proofs.Math.Path.{sym, ap}
use Rattle.std.proofs.Common.{ap₂, ◌∙◌, div-lt_iff_lt-mul, arith}
use Rattle.std.proofs.Math.Nat.{div-eq_of_lt-le}
use Rattle.std.proofs.Math.Decide.{dec_le}
use Rattle.std.proofs.Math.Dec.{ltb}
use borrow.Author.Tests.{lt-ltb, le-ltb}
use Rattle.lists.specs.Count.{count, count-ext, kept, kept-ext}
use Rattle.lists.specs.Rank.{rank_of}
use Rattle.soft.specs.Blank.{open_at}
use Rattle.soft.specs.Column.{ceiling}
use Rattle.soft.specs.Doubt.{ahead_of, few_ahead, gap_at, smallest, doubtful_of}
use Rattle.soft.specs.DoubtLaws.{ahead-rank}
use Rattle.soft.specs.Ranks.{rank-in}
use Rattle.soft.specs.Threshold.{closest_of, below_of, clamp_of, doubt_below}
use Rattle.soft.specs.ThresholdLaws.{closest-doubtful}

abbrev pub far_of : ℕ → ℕ
far_of n = (ceiling + 1) * n

abbrev pub entry_of : List ℕ → ℕ → ℕ
entry_of keys p = get_or keys p 0

pub record KeyOf (n far : ℕ) (columns : ℕ → List ℕ) (p key : ℕ) : Type 0 where
  pub ordered : open_at columns p ≡ true → (key ≡ gap_at columns p * n + p) × (key < far)
  pub behind : open_at columns p ≡ false → far ≤ key

pub record Keyed (n far : ℕ) (columns : ℕ → List ℕ) (keys : List ℕ) : Type 0 where
  pub at : (p : ℕ) → p < n → KeyOf n far columns p (entry_of keys p)

pub record Apart (n far : ℕ) (keys : List ℕ) : Type 0 where
  pub apart : (p q : ℕ) → p < n → q < n → entry_of keys p < far → entry_of keys p ≡ entry_of keys q → p ≡ q

abbrev pub chosen_with : ℕ → ℕ → ℕ → ℕ → Bool
chosen_with far d key rank = ltb key far && ltb rank d

abbrev pub chosen_by : ℕ → ℕ → ℕ → List ℕ → ℕ → Bool
chosen_by n far d keys q = chosen_with far d (entry_of keys q) (rank_of (entry_of keys) n q)

unfoldable pub chosen_of : ℕ → ℕ → ℕ → List ℕ → List ℕ
chosen_of n far d keys = kept n (chosen_by n far d keys)

unfoldable pub below_by : ℕ → ℕ → List ℕ → ℕ
below_by n t keys = count n (λ p. ltb (entry_of keys p / n) t)

module _ {n far : ℕ} {columns : ℕ → List ℕ} {keys : List ℕ} (K : Keyed n far columns keys) where
  -- a key below the bound is that of a place that is not blank
  key_below : (p : ℕ) → p < n → entry_of keys p < far → entry_of keys p ≡ gap_at columns p * n + p
  key_below p l h = go (open_at columns p) refl
    where
      go : (b : Bool) → open_at columns p ≡ b → entry_of keys p ≡ gap_at columns p * n + p
      go true e = ((K.at p l).ordered e).0
      go false e = absurd (omega (arith, (K.at p l).behind e))

  pub rank-ahead : (q : ℕ) → q < n → open_at columns q ≡ true → rank_of (entry_of keys) n q ≡ ahead_of n (open_at columns) (gap_at columns) q
  rank-ahead q l o =
      sym
      (ahead-rank n (gap_at columns) (open_at columns) q l
      ∙ rank-in (open_at columns) (λ p. gap_at columns p * n + p) (entry_of keys) n (λ p k e. ((K.at p k).ordered e).0)
      (λ p r k h b e. omega (arith, ((K.at r h).ordered e).0, ((K.at r h).ordered e).1, (K.at p k).behind b)) q l o)

  pub chosen-few : (d q : ℕ) → q < n → chosen_by n far d keys q ≡ few_ahead n d (open_at columns) (gap_at columns) q
  chosen-few d q l = go (open_at columns q) refl
    where
      go : (b : Bool) → open_at columns q ≡ b → chosen_by n far d keys q ≡ few_ahead n d (open_at columns) (gap_at columns) q
      go true e =
          ap₂ (λ (a b : Bool). a && b) (lt-ltb (entry_of keys q) far ((K.at q l).ordered e).1 ∙ sym e) (ap (λ r. ltb r d) (rank-ahead q l e))
      go false e =
          ap (λ b. b && ltb (rank_of (entry_of keys) n q) d) (le-ltb (entry_of keys q) far ((K.at q l).behind e))
          ∙ sym (ap (λ b. b && ltb (ahead_of n (open_at columns) (gap_at columns) q) d) e)

  pub chosen-doubtful : (d : ℕ) → chosen_of n far d keys ≡ doubtful_of n d columns
  unfolding chosen_of smallest doubtful_of
  chosen-doubtful d = kept-ext n (chosen_by n far d keys) (few_ahead n d (open_at columns) (gap_at columns)) (chosen-few d)

  pub below-gaps : (t : ℕ) → t * n ≤ far → below_by n t keys ≡ below_of n t (open_at columns) (gap_at columns)
  unfolding below_by below_of
  below-gaps t h =
      count-ext n (λ p. ltb (entry_of keys p / n) t) (λ p. open_at columns p && ltb (gap_at columns p) t) (λ p l. at p l (open_at columns p) refl)
    where
      at : (p : ℕ) → p < n → (b : Bool) → open_at columns p ≡ b → ltb (entry_of keys p / n) t ≡ (open_at columns p && ltb (gap_at columns p) t)
      at p l true e =
          let k = (K.at p l).ordered e in
          ap (λ g. ltb g t) (div-eq_of_lt-le n (omega arith) (omega arith)) ∙ sym (ap (λ b. b && ltb (gap_at columns p) t) e)
      at p l false e =
          le-ltb (entry_of keys p / n) t (beyond (dec_le t (entry_of keys p / n))) ∙ sym (ap (λ b. b && ltb (gap_at columns p) t) e)
        where
          beyond : Dec (t ≤ entry_of keys p / n) → t ≤ entry_of keys p / n
          beyond (yes a) = a
          beyond (no a) = absurd (omega (arith, (K.at p l).behind e, (div-lt_iff_lt-mul {k = n} {x = entry_of keys p} {y = t} (omega arith)).0 (omega arith)))

  pub chosen-closest : (t m c : ℕ) → t * n ≤ far → c ≡ clamp_of m (below_by n t keys) → chosen_of n far c keys ≡ closest_of n t m columns
  unfolding doubt_below
  chosen-closest t m c h e =
      chosen-doubtful c ∙ ap (λ d. doubtful_of n d columns) (e ∙ ap (clamp_of m) (below-gaps t h)) ∙ sym (closest-doubtful n t m columns)
