-- Laws of blank places.
--
--   blank-same             a column is blank exactly if any two of its costs are equal
--   ceiling-blank          a column whose best cost is at the ceiling is blank: no cost is larger
--   count-both             those that pass a test and those that do not are all
--   open-count             the places that are not blank and the blank ones are all
--   bit-flag, flag-listed, flags-listed   the flags of a test say what it says, and nowhere behind the n
--   flags-length, flags-at  a flag for each place says whether it is not blank,
--   flags-blanks           so many of them are not 1 as places are blank
--   flags-open             and they say it at every place, where those behind the n are blank
--   column-none            a column read off behind a list of costs is blank
--   unblanked-nil, unblanked-in, unblanked-out, unblanked-snoc   the definition step by step
--   unblanked-member       a place of those that count is in the list, and counts; member-unblanked: and the other way round
--   unblanked-length       they are no more than the list has; unblanked-split: with those that do not count they are as many
--   unblanked-different    different places stay different
use Rattle.std.specs.Prelude.{Bool, ◌≡◌, ◌↔◌, ℕ, zero, suc, ◌+◌, ◌*◌, ◌<◌, ◌≤◌, T, eqb}
use Rattle.std.proofs.Math.Bool.{true, false, not, cond, not-not}
use Rattle.std.proofs.Math.Path.{refl, ap, fun_ext}
use Rattle.std.proofs.Common.{sym, ap₂, ◌∙◌, subst, ⊎_elim, arith, eqb→eq, eq-eqb}
use mathlib.Core.List.Memᴰ
use mathlib.Core.List.{List, [], ◌∷◌, ◌++◌, Memᴰ}
use Rattle.std.proofs.Math.Decide.{dec_lt}
use Rattle.std.proofs.Math.ListN.{length, get_or-eq_default}
use Rattle.lists.specs.Count.{bit, count, count-nil, count-suc, count-ext}
use Rattle.lists.specs.Every.{every, every-at, every_true, true-T}
use Rattle.lists.specs.Listed.{listed, listed-length, listed_at}
use Rattle.lists.specs.Different.{Different, different_nil, different_cons}
use Rattle.soft.specs.Column.{ceiling, cost_of, column_of, best_of, is_blank}
use Rattle.soft.specs.ColumnLaws.{best-least, column-length, cost-column}
use Rattle.soft.specs.Blank.{blank_at, open_at, blanks_of, unblanked, flags_of, flag_at}

abbrev alike : List ℕ → ℕ → Bool
alike column s = eqb (cost_of column s) (cost_of column 0)

pub blank-same : (column : List ℕ)
    → (is_blank column ≡ true) ↔ ((s t : ℕ) → s < length column → t < length column → cost_of column s ≡ cost_of column t)
unfolding is_blank
blank-same column = (same, blank)
  where
    same : every (length column) (alike column) ≡ true → (s t : ℕ) → s < length column → t < length column → cost_of column s ≡ cost_of column t
    same e s t ls lt =
        let a = every-at (length column) (alike column) (true-T (every (length column) (alike column)) e) in
        eqb→eq (cost_of column s) (cost_of column 0) (a s ls) ∙ sym (eqb→eq (cost_of column t) (cost_of column 0) (a t lt))

    blank : ((s t : ℕ) → s < length column → t < length column → cost_of column s ≡ cost_of column t) → every (length column) (alike column) ≡ true
    blank h = every_true (length column) (alike column) (λ s l. eq-eqb (cost_of column s) (cost_of column 0) (h s 0 l (omega arith)))

pub ceiling-blank : (column : List ℕ) → 1 < length column → ((s : ℕ) → s < length column → cost_of column s ≤ ceiling)
    → cost_of column (best_of column) ≡ ceiling → is_blank column ≡ true
ceiling-blank column two most e = (blank-same column).1 (λ s t ls lt. at s ls ∙ sym (at t lt))
  where
    at : (s : ℕ) → s < length column → cost_of column s ≡ ceiling
    at s l = omega (arith, most s l, best-least column two s l)

pub opposite : (b : Bool) → bit (not b) + bit b ≡ 1
opposite true = refl
opposite false = refl

pub count-both : (n : ℕ) (f : ℕ → Bool) → count n f + count n (λ p. not (f p)) ≡ n
count-both zero f = omega (arith, count-nil f, count-nil (λ p. not (f p)))
count-both (suc n) f = omega (arith, count-both n f, count-suc n f, count-suc n (λ p. not (f p)), opposite (f n))

pub open-count : (n : ℕ) (columns : ℕ → List ℕ) → count n (open_at columns) + blanks_of n columns ≡ n
unfolding blanks_of
open-count n columns = omega (arith, count-both n (blank_at columns))

pub bit-flag : (b : Bool) → eqb (bit b) 1 ≡ b
bit-flag true = refl
bit-flag false = refl

module _ (n : ℕ) (f : ℕ → Bool) where
  abbrev flags : List ℕ
  flags = listed n (λ p. bit (f p))

  pub flag-listed : (p : ℕ) → p < n → flag_at flags p ≡ f p
  flag-listed p l = ap (λ x. eqb x 1) (listed_at n p (λ q. bit (f q)) 0 l) ∙ bit-flag (f p)

  pub flags-listed : ((p : ℕ) → n ≤ p → f p ≡ false) → flag_at flags ≡ f
  flags-listed behind = fun_ext (λ p. at p (dec_lt p n))
    where
      at : (p : ℕ) → Dec (p < n) → flag_at flags p ≡ f p
      at p (yes l) = flag-listed p l
      at p (no l) =
          let b : length flags ≤ p = omega (arith, listed-length n (λ q. bit (f q))) in
          ap (λ x. eqb x 1) (get_or-eq_default flags 0 b) ∙ sym (behind p (omega arith))

pub flags-length : (n : ℕ) (columns : ℕ → List ℕ) → length (flags_of n columns) ≡ n
unfolding flags_of
flags-length n columns = listed-length n (λ p. bit (open_at columns p))

pub flags-at : (n : ℕ) (columns : ℕ → List ℕ) (p : ℕ) → p < n → flag_at (flags_of n columns) p ≡ open_at columns p
unfolding flags_of
flags-at n columns p l = flag-listed n (open_at columns) p l

pub flags-open : (n : ℕ) (columns : ℕ → List ℕ) → ((p : ℕ) → n ≤ p → is_blank (columns p) ≡ true) → flag_at (flags_of n columns) ≡ open_at columns
unfolding flags_of
flags-open n columns behind = flags-listed n (open_at columns) (λ p h. ap not (behind p h))

-- so the flags that are not 1 are those of the blank places
pub flags-blanks : (n : ℕ) (columns : ℕ → List ℕ) → count n (λ p. not (flag_at (flags_of n columns) p)) ≡ blanks_of n columns
unfolding blanks_of
flags-blanks n columns =
    count-ext n (λ p. not (flag_at (flags_of n columns) p)) (blank_at columns)
    (λ p l. ap not (flags-at n columns p l) ∙ not-not (is_blank (columns p)))

-- a column read off behind the costs is blank
pub column-none : (q : ℕ) (costs : List ℕ) (p : ℕ) → length costs ≤ p * q → is_blank (column_of q costs p) ≡ true
column-none q costs p h =
    (blank-same (column_of q costs p)).1 (λ s t ls lt. zero-at s ls ∙ sym (zero-at t lt))
  where
    zero-at : (s : ℕ) → s < length (column_of q costs p) → cost_of (column_of q costs p) s ≡ 0
    zero-at s l =
        let b : length costs ≤ p * q + s = omega arith in
        cost-column q costs p s (omega (arith, column-length q costs p)) ∙ get_or-eq_default costs 0 b

module _ (counts : ℕ → Bool) where
  pub unblanked-nil : unblanked counts [] ≡ []
  unfolding unblanked
  unblanked-nil = refl

  pub unblanked-in : (p : ℕ) (ps : List ℕ) → counts p ≡ true → unblanked counts (p ∷ ps) ≡ p ∷ unblanked counts ps
  unfolding unblanked
  unblanked-in p ps e = ap (λ b. cond b (p ∷ unblanked counts ps) (unblanked counts ps)) e

  pub unblanked-out : (p : ℕ) (ps : List ℕ) → counts p ≡ false → unblanked counts (p ∷ ps) ≡ unblanked counts ps
  unfolding unblanked
  unblanked-out p ps e = ap (λ b. cond b (p ∷ unblanked counts ps) (unblanked counts ps)) e

  pub unblanked-snoc : (ps : List ℕ) (q : ℕ) → unblanked counts (ps ++ (q ∷ [])) ≡ unblanked counts ps ++ cond (counts q) (q ∷ []) []
  unblanked-snoc [] q = go (counts q) refl
    where
      go : (b : Bool) → counts q ≡ b → unblanked counts (q ∷ []) ≡ unblanked counts [] ++ cond b (q ∷ []) []
      go true e = unblanked-in q [] e ∙ ap (λ l. q ∷ l) unblanked-nil ∙ sym (ap (λ (l : List ℕ). l ++ (q ∷ [])) unblanked-nil)
      go false e = unblanked-out q [] e ∙ unblanked-nil ∙ sym (ap (λ (l : List ℕ). l ++ []) unblanked-nil)
  unblanked-snoc (p ∷ ps) q = go (counts p) refl (unblanked-snoc ps q)
    where
      go : (b : Bool) → counts p ≡ b → unblanked counts (ps ++ (q ∷ [])) ≡ unblanked counts ps ++ cond (counts q) (q ∷ []) []
          → unblanked counts (p ∷ (ps ++ (q ∷ []))) ≡ unblanked counts (p ∷ ps) ++ cond (counts q) (q ∷ []) []
      go true e ih =
          unblanked-in p (ps ++ (q ∷ [])) e ∙ ap (λ l. p ∷ l) ih
          ∙ sym (ap (λ (l : List ℕ). l ++ cond (counts q) (q ∷ []) []) (unblanked-in p ps e))
      go false e ih =
          unblanked-out p (ps ++ (q ∷ [])) e ∙ ih ∙ sym (ap (λ (l : List ℕ). l ++ cond (counts q) (q ∷ []) []) (unblanked-out p ps e))

  pub unblanked-member : (ps : List ℕ) (p : ℕ) → Memᴰ p (unblanked counts ps) → Memᴰ p ps × (counts p ≡ true)
  unblanked-member [] p m = absurd (Memᴰ.not-nil (subst (Memᴰ p) unblanked-nil m))
  unblanked-member (q ∷ ps) p m = go (counts q) refl (unblanked-member ps p)
    where
      go : (b : Bool) → counts q ≡ b → (Memᴰ p (unblanked counts ps) → Memᴰ p ps × (counts p ≡ true))
          → Memᴰ p (q ∷ ps) × (counts p ≡ true)
      go true e ih =
          ⊎_elim (λ (i : p ≡ q). (Memᴰ.head i, ap counts i ∙ e)) (λ n. (Memᴰ.tail (ih n).0, (ih n).1))
          (Memᴰ.cases_cons (subst (Memᴰ p) (unblanked-in q ps e) m))
      go false e ih = let n = ih (subst (Memᴰ p) (unblanked-out q ps e) m) in (Memᴰ.tail n.0, n.1)

  pub member-unblanked : (ps : List ℕ) (p : ℕ) → Memᴰ p ps → counts p ≡ true → Memᴰ p (unblanked counts ps)
  member-unblanked [] p m c = absurd (Memᴰ.not-nil m)
  member-unblanked (q ∷ ps) p m c = go (counts q) refl (member-unblanked ps p)
    where
      go : (b : Bool) → counts q ≡ b → (Memᴰ p ps → counts p ≡ true → Memᴰ p (unblanked counts ps)) → Memᴰ p (unblanked counts (q ∷ ps))
      go true e ih =
          subst (Memᴰ p) (sym (unblanked-in q ps e))
          (⊎_elim (λ i. Memᴰ.head i) (λ n. Memᴰ.tail (ih n c)) (Memᴰ.cases_cons m))
      go false e ih =
          subst (Memᴰ p) (sym (unblanked-out q ps e))
          (⊎_elim (λ (i : p ≡ q). absurd (clash (sym e ∙ ap counts (sym i) ∙ c))) (λ n. ih n c) (Memᴰ.cases_cons m))
        where
          clash : false ≡ true → ⊥
          clash f = subst (λ b. T (not b)) f tt

  pub unblanked-length : (ps : List ℕ) → length (unblanked counts ps) ≤ length ps
  unblanked-length [] = omega (arith, ap length unblanked-nil)
  unblanked-length (p ∷ ps) = go (counts p) refl (unblanked-length ps)
    where
      go : (b : Bool) → counts p ≡ b → length (unblanked counts ps) ≤ length ps → length (unblanked counts (p ∷ ps)) ≤ length (p ∷ ps)
      go true e ih = omega (arith, ap length (unblanked-in p ps e))
      go false e ih = omega (arith, ap length (unblanked-out p ps e))

  pub unblanked-split : (ps : List ℕ) → length (unblanked counts ps) + length (unblanked (λ p. not (counts p)) ps) ≡ length ps
  unfolding unblanked
  unblanked-split [] = refl
  unblanked-split (p ∷ ps) = go (counts p) (unblanked-split ps)
    where
      go : (b : Bool) → length (unblanked counts ps) + length (unblanked (λ q. not (counts q)) ps) ≡ length ps
          → length (cond b (p ∷ unblanked counts ps) (unblanked counts ps))
          + length (cond (not b) (p ∷ unblanked (λ q. not (counts q)) ps) (unblanked (λ q. not (counts q)) ps)) ≡ length (p ∷ ps)
      go true ih = omega (arith, ih)
      go false ih = omega (arith, ih)

  pub unblanked-different : {ps : List ℕ} → Different ps → Different (unblanked counts ps)
  unblanked-different different_nil = subst Different (sym unblanked-nil) different_nil
  unblanked-different (different_cons {a = p} {l = ps} fresh d) = go (counts p) refl (unblanked-different d)
    where
      go : (b : Bool) → counts p ≡ b → Different (unblanked counts ps) → Different (unblanked counts (p ∷ ps))
      go true e ih = subst Different (sym (unblanked-in p ps e)) (different_cons (λ m. fresh (unblanked-member ps p m).0) ih)
      go false e ih = subst Different (sym (unblanked-out p ps e)) ih
