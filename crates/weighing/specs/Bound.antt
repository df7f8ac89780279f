-- A bound above the d least keys, found by rounds: each takes the least key that is not below the bound, and puts the bound behind it.
--
--   below_at keys b p       the key of place p is below b
--   key_from far b keys p   the key of place p, but far where it is below b
--   past_of far key         the bound behind a key; behind far, where no key is left, it is far
--   from-below, from-above, past-key, past-far   the definitions case by case
--   Bound n far keys d b   d of n keys are below b, or all that are below far, where these are fewer
--   bound-start            no key is below 0
--   bound-next             a round takes one key more, where no two are equal
--   bound-far              no round takes more, where none is left
--   bound-chosen           the places whose keys are below the bound are those with fewer than d ahead of them,
--   chosen-below           so they are the ones chosen
use Rattle.std.proofs.Math.Bool.{Bool}
use Rattle.std.specs.Prelude.{cond, ◌&&◌, ◌≡◌, List, ◌≢◌, ◌⊎◌}
use Rattle.std.proofs.Common.{sym, ap, ◌∙◌, subst, inl, inr, ⊎_elim, arith, ltb→lt, lt→ltb, lt-ltb, le-ltb}
use Prim.Native.Nat.{ℕ, ◌+◌, ◌<◌, ◌≤◌}
use Rattle.std.proofs.Math.Decide.{dec_lt}
use Rattle.std.proofs.Math.Dec.{ltb}
use Rattle.lists.specs.Count.{bit, count, count_none, count-mono, count-strict, count-but, kept, kept-ext}
use Rattle.lists.specs.Distinct.{and_both}
use Rattle.lists.specs.Least.{least_of, least-le, least_at}
use Rattle.lists.specs.Rank.{rank_of}
use Rattle.weighing.specs.Keys.{entry_of, Apart, chosen_by, chosen_of}

abbrev pub below_at : List ℕ → ℕ → ℕ → Bool
below_at keys b p = ltb (entry_of keys p) b

abbrev pub from_bound : ℕ → ℕ → ℕ → ℕ
from_bound far b key = cond (ltb key b) far key

abbrev pub key_from : ℕ → ℕ → List ℕ → ℕ → ℕ
key_from far b keys p = from_bound far b (entry_of keys p)

abbrev pub past_of : ℕ → ℕ → ℕ
past_of far key = cond (ltb key far) (key + 1) far

pub record Bound (n far : ℕ) (keys : List ℕ) (d b : ℕ) : Type 0 where
  pub within : b ≤ far
  pub few : count n (below_at keys b) ≤ d
  pub all : (count n (below_at keys b) ≡ d) ⊎ ((p : ℕ) → p < n → entry_of keys p < far → entry_of keys p < b)

pub from-below : (far b key : ℕ) → key < b → from_bound far b key ≡ far
from-below far b key h = ap (λ t. cond t far key) (lt-ltb key b h)

pub from-above : (far b key : ℕ) → b ≤ key → from_bound far b key ≡ key
from-above far b key h = ap (λ t. cond t far key) (le-ltb key b h)

pub past-key : (far key : ℕ) → key < far → past_of far key ≡ key + 1
past-key far key h = ap (λ t. cond t (key + 1) far) (lt-ltb key far h)

pub past-far : (far key : ℕ) → far ≤ key → past_of far key ≡ far
past-far far key h = ap (λ t. cond t (key + 1) far) (le-ltb key far h)

module _ (n far : ℕ) (keys : List ℕ) where
  pub bound-start : Bound n far keys 0 0
  bound-start =
      let none : count n (below_at keys 0) ≡ 0 = count_none n (below_at keys 0) (λ p l. le-ltb (entry_of keys p) 0 (omega arith)) in
      record { within = omega arith; few = omega arith; all = inl none }

  pub bound-far : {d b : ℕ} (e : ℕ) → Bound n far keys d b → b ≡ far → d ≤ e → Bound n far keys e b
  bound-far e B q l = record { within = B.within; few = omega (arith, B.few); all = inr (λ p k h. omega arith) }

  module _ {d b : ℕ} (A : Apart n far keys) (B : Bound n far keys d b) where
    abbrev least : ℕ
    least = least_of far n (key_from far b keys)

    -- no key lies between the bound and the least
    between : (p : ℕ) → p < n → b ≤ entry_of keys p → least ≤ entry_of keys p
    between p l h = omega (arith, least-le far (key_from far b keys) n p l, from-above far b (entry_of keys p) h)

    -- none is left
    none : far ≤ least → Bound n far keys (d + 1) far
    none h =
        record {
          within = omega arith;
          few =
              omega (
                arith,
                B.few,
                count-mono n (below_at keys far) (below_at keys b)
                    (λ p l t. lt→ltb (entry_of keys p) b (passed p l (ltb→lt (entry_of keys p) far t) (dec_lt (entry_of keys p) b))),
              );
          all = inr (λ p l k. k);
        }
      where
        passed : (p : ℕ) → p < n → entry_of keys p < far → Dec (entry_of keys p < b) → entry_of keys p < b
        passed p l k (yes t) = t
        passed p l k (no t) = absurd (omega (arith, between p l (omega arith)))

    -- the least is the key of a place i, and of no other
    one : (i : ℕ) → i < n → key_from far b keys i ≡ least → least < far → Bound n far keys (d + 1) (least + 1)
    one i l e h =
        record {
          within = omega arith;
          few = omega (arith, B.few, more);
          all = ⊎_elim (λ (q : count n (below_at keys b) ≡ d). inl (omega (arith, more))) (λ f. absurd (omega (arith, here, f i l (omega (arith, here))))) B.all;
        }
      where
        at : Dec (entry_of keys i < b) → (b ≤ entry_of keys i) × (entry_of keys i ≡ least)
        at (yes t) = absurd (omega (arith, from-below far b (entry_of keys i) t))
        at (no t) = (omega arith, omega (arith, from-above far b (entry_of keys i) (omega arith)))

        here : (b ≤ entry_of keys i) × (entry_of keys i ≡ least)
        here = at (dec_lt (entry_of keys i) b)

        other : (k : ℕ) → k < n → k ≢ i → Dec (entry_of keys k < b) → below_at keys (least + 1) k ≡ below_at keys b k
        other k g q (yes t) = lt-ltb (entry_of keys k) (least + 1) (omega (arith, here)) ∙ sym (lt-ltb (entry_of keys k) b t)
        other k g q (no t) =
            le-ltb (entry_of keys k) (least + 1) (beyond (dec_lt least (entry_of keys k))) ∙ sym (le-ltb (entry_of keys k) b (omega arith))
          where
            beyond : Dec (least < entry_of keys k) → least + 1 ≤ entry_of keys k
            beyond (yes m) = omega arith
            beyond (no m) =
                absurd (q (sym (A.apart i k l g (omega (arith, here)) (omega (arith, here, between k g (omega arith))))))

        more : count n (below_at keys (least + 1)) ≡ count n (below_at keys b) + 1
        more =
            omega (
              arith,
              count-but n i (below_at keys (least + 1)) (below_at keys b) l (λ k g q. other k g q (dec_lt (entry_of keys k) b)),
              ap bit (lt-ltb (entry_of keys i) (least + 1) (omega (arith, here))),
              ap bit (le-ltb (entry_of keys i) b (omega (arith, here))),
            )

    pub bound-next : (key r : ℕ) → key ≡ least → r ≡ past_of far key → Bound n far keys (d + 1) r
    bound-next key r e q = subst (Bound n far keys (d + 1)) (sym (q ∙ ap (past_of far) e)) (go (dec_lt least far))
      where
        go : Dec (least < far) → Bound n far keys (d + 1) (past_of far least)
        go (yes h) = let t = least_at far (key_from far b keys) n h in rw (past-key far least h) (one t.0 t.1 t.2 h)
        go (no h) = rw (past-far far least (omega arith)) (none (omega arith))

  module _ {d b : ℕ} (B : Bound n far keys d b) where
    pub bound-chosen : (q : ℕ) → q < n → chosen_by n far d keys q ≡ below_at keys b q
    unfolding rank_of
    bound-chosen q l = go (dec_lt (entry_of keys q) b) (dec_lt (entry_of keys q) far)
      where
        ahead : ℕ → Bool
        ahead p = ltb (entry_of keys p) (entry_of keys q)

        -- a place below the bound has fewer than d ahead of it
        fewer : entry_of keys q < b → count n ahead < d
        fewer h =
            omega (
              arith,
              B.few,
              count-strict n q ahead (below_at keys b)
                  (λ p k t. lt→ltb (entry_of keys p) b (omega (arith, ltb→lt (entry_of keys p) (entry_of keys q) t)))
                  l (λ t. omega (arith, ltb→lt (entry_of keys q) (entry_of keys q) t)) (lt→ltb (entry_of keys q) b h),
            )

        -- one behind it has d or more
        enough : b ≤ entry_of keys q → entry_of keys q < far → d ≤ count n ahead
        enough h k =
            ⊎_elim
            (λ (e : count n (below_at keys b) ≡ d).
            omega (
              arith,
              e,
              count-mono n (below_at keys b) ahead
                  (λ p k t. lt→ltb (entry_of keys p) (entry_of keys q) (omega (arith, ltb→lt (entry_of keys p) b t))),
            ))
            (λ f. absurd (omega (arith, f q l k))) B.all

        go : Dec (entry_of keys q < b) → Dec (entry_of keys q < far) → (ltb (entry_of keys q) far && ltb (count n ahead) d) ≡ below_at keys b q
        go (yes h) k =
            and_both (ltb (entry_of keys q) far) (ltb (count n ahead) d) (lt-ltb (entry_of keys q) far (omega (arith, B.within)))
            (lt-ltb (count n ahead) d (fewer h))
            ∙ sym (lt-ltb (entry_of keys q) b h)
        go (no h) (yes k) =
            ap (λ t. t && ltb (count n ahead) d) (lt-ltb (entry_of keys q) far k) ∙ le-ltb (count n ahead) d (enough (omega arith) k)
            ∙ sym (le-ltb (entry_of keys q) b (omega arith))
        go (no h) (no k) =
            ap (λ t. t && ltb (count n ahead) d) (le-ltb (entry_of keys q) far (omega arith)) ∙ sym (le-ltb (entry_of keys q) b (omega arith))

    pub chosen-below : chosen_of n far d keys ≡ kept n (below_at keys b)
    unfolding chosen_of
    chosen-below = kept-ext n (chosen_by n far d keys) (below_at keys b) bound-chosen
