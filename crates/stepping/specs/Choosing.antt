-- One more class: what becomes of the class chosen so far, for any number of classes.
--
--   chosen-start         before the first class
--   better-zero, better-first, better-keeps, better-takes   the class after the next, by its three tests
--   better-chosen        it is chosen among one class more
use Rattle.std.specs.Prelude.{◌≡◌, refl, List, ◌≢◌, ℕ, ◌+◌, ◌<◌, ◌≤◌, get_or}
use Rattle.std.proofs.Common.{le_of_lt, le_trans, add-one, arith}
use Rattle.std.proofs.Math.Decide.{dec_le, ℕ_discrete}
use borrow.Author.Tests.{eq-eqb, ne_eqb, le-leb, lt-leb}
use Rattle.lists.specs.Smallest.{smallest-kept, smallest-replaced, below_suc}
use Rattle.stepping.specs.Choice.{lead_at, Chosen, none, one, pivot_of}

module _ (most : ℕ) (ds leads : List ℕ) where
  pub chosen-start : Chosen most 0 ds leads most
  chosen-start = none refl (λ r l. absurd (omega arith))

  module _ {r best : ℕ} where
    -- its discrepancy is zero
    chosen-zero : get_or ds r 0 ≡ 0 → Chosen most r ds leads best → Chosen most (r + 1) ds leads best
    chosen-zero z (none e h) = rw add-one (none e (λ k l. below_suc (λ k. get_or ds k 0 ≡ 0) l z (h k)))
    chosen-zero z (one s f) = rw add-one (one (smallest-kept s (λ p. absurd (p.nonzero z))) f)

    -- it is the first
    chosen-first : get_or ds r 0 ≢ 0 → most ≤ best → r < most → Chosen most r ds leads best → Chosen most (r + 1) ds leads r
    chosen-first n a b (none e h) =
        rw add-one (one (smallest-replaced (record { nonzero = n }) (λ k l p. absurd (p.nonzero (h k l)))) (λ k l p. absurd (p.nonzero (h k l))))
    chosen-first n a b (one s f) = absurd (omega (arith, s.within))

    chosen-keeps : best < most → lead_at leads best ≤ lead_at leads r → Chosen most r ds leads best → Chosen most (r + 1) ds leads best
    chosen-keeps a b (none e h) = absurd (omega arith)
    chosen-keeps a b (one s f) = rw add-one (one (smallest-kept s (λ p. b)) f)

    chosen-takes : get_or ds r 0 ≢ 0 → best < most → lead_at leads r < lead_at leads best → Chosen most r ds leads best
        → Chosen most (r + 1) ds leads r
    chosen-takes n a b (none e h) = absurd (omega arith)
    chosen-takes n a b (one s f) =
        rw add-one
        (one (smallest-replaced (record { nonzero = n }) (λ k l p. le_trans (le_of_lt b) (s.least k l p))) (λ k l p. le_trans b (s.least k l p)))

  -- the three tests
  module _ (best r : ℕ) where
    pub better-zero : get_or ds r 0 ≡ 0 → pivot_of most ds leads best r ≡ best
    unfolding pivot_of
    better-zero z = simp (eq-eqb _ _ z)

    pub better-first : get_or ds r 0 ≢ 0 → most ≤ best → pivot_of most ds leads best r ≡ r
    unfolding pivot_of
    better-first n a = simp (ne_eqb _ _ n, le-leb _ _ a)

    pub better-keeps : get_or ds r 0 ≢ 0 → best < most → lead_at leads best ≤ lead_at leads r → pivot_of most ds leads best r ≡ best
    unfolding pivot_of
    better-keeps n a b = simp (ne_eqb _ _ n, lt-leb _ _ a, le-leb _ _ b)

    pub better-takes : get_or ds r 0 ≢ 0 → best < most → lead_at leads r < lead_at leads best → pivot_of most ds leads best r ≡ r
    unfolding pivot_of
    better-takes n a b = simp (ne_eqb _ _ n, lt-leb _ _ a, lt-leb _ _ b)

    pub better-chosen : r < most → Chosen most r ds leads best → Chosen most (r + 1) ds leads (pivot_of most ds leads best r)
    better-chosen l h = go (ℕ_discrete (get_or ds r 0) 0) (dec_le most best) (dec_le (lead_at leads best) (lead_at leads r))
      where
        go : Dec (get_or ds r 0 ≡ 0) → Dec (most ≤ best) → Dec (lead_at leads best ≤ lead_at leads r) → Chosen most (r + 1) ds leads (pivot_of most ds leads best r)
        go (yes z) b c = rw (better-zero z) (chosen-zero z h)
        go (no z) (yes b) c = rw (better-first z b) (chosen-first z b l h)
        go (no z) (no b) (yes c) = rw (better-keeps z (omega arith) c) (chosen-keeps (omega arith) c h)
        go (no z) (no b) (no c) =
            let g : lead_at leads r < lead_at leads best = omega arith in
            rw (better-takes z (omega arith) g) (chosen-takes z (omega arith) g h)
