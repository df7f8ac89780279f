-- A test of every byte by their bits together; a list that is filled so far; and the ways to a coefficient, for every member.
use mathlib.Core.Bool.{Bool, true, false}
use mathlib.Core.Path.{◌≡◌, refl, sym, ap, ap₂, ◌∙◌, subst}
use mathlib.Core.List.{List}
use Prim.Native.Nat.{ℕ, ◌+◌, ◌-◌, ◌*◌, ◌/◌, ◌%◌, ◌^◌, ◌<◌, ◌≤◌}
use native.Mathlib.Decide.{dec_lt}
use native.Mathlib.Omega.{arith}
use lib.Bits.{bit_or, or_lt, or_add_and, and_le_l, and_le_r}
use lib.ListN.{length, get_or, drop, replicate, get_or-replicate, get_or-eq_default}
use lib.Pow.{pow_pos}
use lib.Seq.{get_or-append-add, get_or-drop}
use lib.Dec.{ltb}
use borrow.Author.Count.{below_more}
use borrow.Author.Tests.{lt-ltb, le-ltb}
use Rattle.lists.specs.Every.{T_true, true-T}
use Rattle.lists.specs.Filled.{Filled, filled-read, filled-length}
use Rattle.lists.specs.Listed.{listed, listed_by, listed-length}
use Rattle.lists.specs.Words.{all_below, all_below-at, all_below-from}
use Rattle.hermitian.specs.Present.{Present, genus, present-large}
use Rattle.hermitian.specs.Orders.{rank, rank-large}
use Rattle.family.specs.Member.{Member}
use Rattle.family.specs.Evaluation.{coefficient_of, coefficient-present, coefficient-missing}

-- the bits of the bytes passed, together: no less than each of them, and a number of k bits if each is one
pub record Passed (k : ℕ) (l : List ℕ) (i all : ℕ) : Type 0 where
  pub above : (j : ℕ) → j < i → get_or l j 0 ≤ all
  pub below : ((j : ℕ) → j < i → get_or l j 0 < 2 ^ k) → all < 2 ^ k

or_above : (a b : ℕ) → (a ≤ bit_or a b) × (b ≤ bit_or a b)
or_above a b = (omega (arith, or_add_and a b, and_le_r a b), omega (arith, or_add_and a b, and_le_l a b))

module _ (k : ℕ) (l : List ℕ) where
  pub passed_start : Passed k l 0 0
  passed_start = record { above = λ j h. absurd (omega arith); below = λ h. pow_pos k }

  pub passed-turn : (i all : ℕ) → Passed k l i all → Passed k l (i + 1) (bit_or all (get_or l i 0))
  passed-turn i all t =
      record {
        above = below_more _ i (λ j h. omega (arith, t.above j h, (or_above all (get_or l i 0)).0)) (or_above all (get_or l i 0)).1;
        below = λ h. or_lt k all (get_or l i 0) (t.below (λ j b. h j (omega arith))) (h i (omega arith));
      }

  pub all-symbols : (i all : ℕ) → length l ≤ i → all < 2 ^ k → Passed k l i all → true ≡ all_below (2 ^ k) l
  all-symbols i all h b t = sym (T_true (all_below (2 ^ k) l) (all_below-from (2 ^ k) l (λ j g. omega (arith, t.above j (omega arith)))))

  pub no_symbol : (i all : ℕ) → i ≤ length l → 2 ^ k ≤ all → Passed k l i all → false ≡ all_below (2 ^ k) l
  no_symbol i all h b t = go (all_below (2 ^ k) l) refl
    where
      go : (b : Bool) → all_below (2 ^ k) l ≡ b → false ≡ b
      go true e = absurd (omega (arith, t.below (λ j g. all_below-at (2 ^ k) l (true-T (all_below (2 ^ k) l) e) j (omega arith))))
      go false e = refl

  -- so the test of all bytes together is that of every byte
  pub symbols-below : (i all : ℕ) → i ≡ length l → Passed k l i all → ltb all (2 ^ k) ≡ all_below (2 ^ k) l
  symbols-below i all e t = go (dec_lt all (2 ^ k))
    where
      go : Dec (all < 2 ^ k) → ltb all (2 ^ k) ≡ all_below (2 ^ k) l
      go (yes b) = lt-ltb all (2 ^ k) b ∙ all-symbols i all (omega arith) b t
      go (no b) = le-ltb all (2 ^ k) (omega arith) ∙ no_symbol i all (omega arith) (omega arith) t

-- ---- a message as a function
pub filled-to : {l out : List ℕ} {f : ℕ → ℕ} {i n : ℕ} → i ≡ n → Filled l f i out → Filled l f n out
filled-to {l} {out} {f} e t = subst (λ k. Filled l f k out) e t

-- a list that is filled up to i, where its rule gives what stood there before
pub filled-rest : {l out : List ℕ} {f : ℕ → ℕ} {i : ℕ} (n : ℕ) → length l ≡ n → Filled l f i out → ((k : ℕ) → i ≤ k → k < n → f k ≡ get_or l k 0) → out ≡ listed n f
filled-rest {l} {out} {f} {i} n e t rest = listed_by 0 n out f (filled-length 0 t ∙ e) (λ k h. at k h (dec_lt k i))
  where
    at : (k : ℕ) → k < n → Dec (k < i) → get_or out k 0 ≡ f k
    at k h (yes b) = filled-read 0 t k b
    at k h (no b) =
        let s : k ≡ length (listed i f) + (k - i) = omega (arith, listed-length i f) in
        let r : i + (k - i) ≡ k = omega arith in
        ap₂ (λ (a : List ℕ) (j : ℕ). get_or a j 0) t.stored s ∙ get_or-append-add (listed i f) (drop i l) (k - i) 0 ∙ get_or-drop i l (k - i) 0
        ∙ ap (λ j. get_or l j 0) r ∙ sym (rest k (omega arith) h)

module _ (𝓜 : Member) (m : List ℕ) (o : ℕ) where
  open 𝓜 use {w}

  pub missing-coefficient : o / w < o % w → 0 ≡ coefficient_of 𝓜 m o
  missing-coefficient h = sym (coefficient-missing 𝓜 m o (omega arith))

  pub symbol-coefficient : {t : ℕ} → Present w o → t ≡ rank w o → get_or m t 0 ≡ coefficient_of 𝓜 m o
  symbol-coefficient h e = ap (λ k. get_or m k 0) e ∙ sym (coefficient-present 𝓜 m o h)

-- from w(w − 1) on no order is missing: the symbol stands genus places before its order
pub large-coefficient : (𝓜 : Member) (m : List ℕ) (o : ℕ) → 𝓜.w * (𝓜.w - 1) ≤ o → get_or m (o - genus 𝓜.w) 0 ≡ coefficient_of 𝓜 m o
large-coefficient 𝓜 m o h =
    symbol-coefficient 𝓜 m o (present-large 𝓜.w 𝓜.wide o h) (omega (arith, rank-large 𝓜.w 𝓜.wide o h))

-- and behind the last symbol stand zeros
pub large-beyond : (𝓜 : Member) (n : ℕ) (m : List ℕ) (o : ℕ) → 𝓜.w * (𝓜.w - 1) ≤ o → length m + genus 𝓜.w ≤ o → o < n
    → coefficient_of 𝓜 m o ≡ get_or (replicate n 0) o 0
large-beyond 𝓜 n m o h l b = sym (large-coefficient 𝓜 m o h) ∙ get_or-eq_default m 0 (omega arith) ∙ sym (get_or-replicate n o 0 0 b)
