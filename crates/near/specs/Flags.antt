-- The doubtful places as they are given, and the flags of the others, for any number of places.
--
--   are_places n ps        the test of a list's places: all below n, and different
--   Flagged n counts ps flags   the settled places that count have the flag 1, the doubtful ones, ps, have 0, and those that do not count not 1
--   flag-all, flag-start, flag-turn   the flags where no place is named and all count, or those that flags say; and with one more place named
--   place-small           a place of the list is below n
--   places-turn           one more place passes the test, if it is below n and its flag is 1
--   places-above, places-again   no list with a place that is not below n passes it, or with a place that is named already
use Rattle.std.specs.Prelude.{Bool, true, false, ◌&&◌, ◌≡◌, ◌≢◌, ◌⊎◌, ℕ, ◌+◌, ◌%◌, ◌<◌, ◌≤◌, length, get_or, drop, set, replicate}
use Rattle.std.proofs.Math.Bool.{false≢true}
use Rattle.std.proofs.Math.Path.{refl, ap, subst}
use Rattle.std.proofs.Common.{sym, ap₂, ◌∙◌, inl, inr, mod-eq_of_lt, add-one, length-set, take-append-drop, take-take, get_or-set_same, get_or-set_other, eq-eqb, eqb-true}
use mathlib.Core.List.Memᴰ
use mathlib.Core.List.{List, [], ◌∷◌, ◌++◌, Memᴰ}
use Rattle.std.proofs.Math.Decide.{ℕ_discrete}
use native.Mathlib.Omega.{arith}
use Rattle.std.proofs.Math.ListN.{take, length-take}
use Rattle.std.proofs.lemmas.List.{length-replicate, get_or-replicate}
use Rattle.std.proofs.Math.Seq.{take-suc, get_or-take}
use Rattle.lists.specs.Distinct.{among-member, not-among, below, below-append, below_one, below_at, distinct, distinct_snoc, distinct-before, and_left, and_right, and_both}
use Rattle.soft.specs.Blank.{flag_at}
use Rattle.soft.specs.Total.{everywhere}
use Rattle.near.specs.Tree.{Places, places-at}
use Rattle.near.specs.Left.{left-cons}

module _ (n : ℕ) where
  unfoldable pub are_places : List ℕ → Bool
  are_places ps = below n ps && distinct ps

  pub record Flagged (counts : ℕ → Bool) (ps flags : List ℕ) : Type 0 where
    pub size : length flags ≡ n
    pub on : (p : ℕ) → p < n → counts p ≡ true → ¬ Memᴰ p ps → get_or flags p 0 ≡ 1
    pub off : (p : ℕ) → Memᴰ p ps → get_or flags p 0 ≡ 0
    pub blank : (p : ℕ) → counts p ≡ false → get_or flags p 0 ≢ 1

fails : (b : Bool) → (b ≡ true → ⊥) → b ≡ false
fails true n = absurd (n refl)
fails false n = refl

pub flag-all : {n : ℕ} (doubtful : List ℕ) → Flagged n everywhere (take 0 doubtful) (replicate n 1)
flag-all {n} doubtful =
    record {
      size = length-replicate n 1;
      on = λ p h c o. get_or-replicate n p 1 0 h;
      off = λ p m. absurd (Memᴰ.not-nil m);
      blank = λ p c. absurd (false≢true (sym c));
    }

pub flag-start : {n : ℕ} (counts doubtful : List ℕ) → length counts ≡ n → Flagged n (flag_at counts) (take 0 doubtful) counts
flag-start {n} counts doubtful long =
    record {
      size = long;
      on = λ p h c o. eqb-true (get_or counts p 0) 1 c;
      off = λ p m. absurd (Memᴰ.not-nil m);
      blank = λ p c e. false≢true (sym c ∙ eq-eqb (get_or counts p 0) 1 e);
    }

pub flag-turn : {n : ℕ} {counts : ℕ → Bool} (doubtful out : List ℕ) (i : ℕ) → i < length doubtful → get_or doubtful i 0 < n
    → Flagged n counts (take i doubtful) out → Flagged n counts (take (i + 1) doubtful) (set out (get_or doubtful i 0 % n) 0)
flag-turn {n} {counts} doubtful out i h small F =
    record {
      size = length-set out (x % n) 0 ∙ F.size;
      on = λ p b c o. get_or-set_other out (x % n) p 0 0 (λ e. o (at-end (e ∙ same))) ∙ F.on p b c (λ m. o (earlier m));
      off = λ p m. cases p (Memᴰ.append_cases (take i doubtful) (subst (Memᴰ p) longer m)) (ℕ_discrete p (x % n));
      blank = λ p c. dim p c (ℕ_discrete p (x % n));
    }
  where
    x : ℕ
    x = get_or doubtful i 0

    same : x % n ≡ x
    same = mod-eq_of_lt small

    longer : take (i + 1) doubtful ≡ take i doubtful ++ (x ∷ [])
    longer = ap (λ j. take j doubtful) (add-one i) ∙ take-suc doubtful i 0 h

    at-end : {p : ℕ} → p ≡ x → Memᴰ p (take (i + 1) doubtful)
    at-end {p} e = subst (Memᴰ p) (sym longer) (Memᴰ.append_right (take i doubtful) (Memᴰ.head e))

    earlier : {p : ℕ} → Memᴰ p (take i doubtful) → Memᴰ p (take (i + 1) doubtful)
    earlier {p} m = subst (Memᴰ p) (sym longer) (Memᴰ.append_left (x ∷ []) m)

    here : (p : ℕ) → p ≡ x % n → get_or (set out (x % n) 0) p 0 ≡ 0
    here p e = ap (λ q. get_or (set out (x % n) 0) q 0) e ∙ get_or-set_same out (x % n) 0 0 (omega (arith, F.size, same, small))

    cases : (p : ℕ) → Memᴰ p (take i doubtful) ⊎ Memᴰ p (x ∷ []) → Dec (p ≡ x % n) → get_or (set out (x % n) 0) p 0 ≡ 0
    cases p m (yes e) = here p e
    cases p (inl m) (no e) = get_or-set_other out (x % n) p 0 0 e ∙ F.off p m
    cases p (inr m) (no e) = absurd (e (Memᴰ.eq_of_singleton m ∙ sym same))

    dim : (p : ℕ) → counts p ≡ false → Dec (p ≡ x % n) → get_or (set out (x % n) 0) p 0 ≢ 1
    dim p c (yes e) z = omega (arith, here p e)
    dim p c (no e) z = F.blank p c (sym (get_or-set_other out (x % n) p 0 0 e) ∙ z)

pub place-small : {n : ℕ} (doubtful : List ℕ) (doubt i : ℕ) {size : ℕ} → length doubtful ≡ size → doubt ≤ size → i < doubt → Places n (take doubt doubtful)
    → get_or doubtful i 0 < n
place-small {n} doubtful doubt i l h b P =
    subst (λ x. x < n) (get_or-take doubt doubtful i 0 b) (places-at P i (omega (arith, length-take doubt doubtful)))

-- ---- the loop that names one place after the other
module _ (doubtful : List ℕ) (i : ℕ) where
  abbrev x : ℕ
  x = get_or doubtful i 0

  abbrev l : List ℕ
  l = take i doubtful

  -- the place stands behind those that are named
  split : (doubt : ℕ) {size : ℕ} → length doubtful ≡ size → doubt ≤ size → i < doubt → take doubt doubtful ≡ take i doubtful ++ (x ∷ drop (i + 1) (take doubt doubtful))
  split doubt long few h =
      sym (take-append-drop i (take doubt doubtful))
      ∙ ap₂ (λ a b. a ++ b) (take-take i doubt doubtful (omega arith)) (left-cons doubtful doubt i long few h)

  module _ {n : ℕ} where
    pub places-turn : (flags : List ℕ) → i < length doubtful → x < n → (get_or flags x 0 ≡ 0 → ⊥) → Flagged n everywhere (take i doubtful) flags → are_places n (take i doubtful) ≡ true
        → Flagged n everywhere (take (i + 1) doubtful) (set flags x 0) × (are_places n (take (i + 1) doubtful) ≡ true)
    unfolding are_places
    places-turn flags h small fresh F e = (
      subst (λ y. Flagged n everywhere (take (i + 1) doubtful) (set flags y 0)) (mod-eq_of_lt small) (flag-turn doubtful flags i h small F),
      ap (are_places n) (ap (λ j. take j doubtful) (add-one i) ∙ take-suc doubtful i 0 h)
          ∙ and_both (below n (l ++ (x ∷ []))) (distinct (l ++ (x ∷ [])))
          (below-append n l (x ∷ []) ∙ and_both (below n l) (below n (x ∷ [])) (and_left (below n l) (distinct l) e) (below_one n x small))
          (distinct_snoc l x (and_right (below n l) (distinct l) e) (not-among x l (λ m. fresh (F.off x m)))),
    )

    module _ (doubt : ℕ) {size : ℕ} (long : length doubtful ≡ size) (few : doubt ≤ size) (h : i < doubt) where
      pub places-above : n ≤ x → are_places n (take doubt doubtful) ≡ false
      unfolding are_places
      places-above a =
          fails (are_places n (take doubt doubtful))
          (λ e.
          omega (
            arith,
            below_at n (take doubt doubtful) i (and_left (below n (take doubt doubtful)) (distinct (take doubt doubtful)) e)
                (omega (arith, length-take doubt doubtful)),
            get_or-take doubt doubtful i 0 h,
          ))

      pub places-again : (flags : List ℕ) → x < n → get_or flags x 0 ≡ 0 → Flagged n everywhere (take i doubtful) flags → are_places n (take doubt doubtful) ≡ false
      unfolding are_places
      places-again flags small named F =
          fails (are_places n (take doubt doubtful))
          (λ e.
          let d = subst (λ m. distinct m ≡ true) (split doubt long few h) (and_right (below n (take doubt doubtful)) (distinct (take doubt doubtful)) e) in
          let o = distinct-before (take i doubtful) x (drop (i + 1) (take doubt doubtful)) d in
          omega (arith, named, F.on x small refl (λ m. false≢true (sym o ∙ among-member m))))
