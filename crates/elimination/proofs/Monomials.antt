-- Powers of planes, monomials by them, and the rows of terms.
use mathlib.Core.Bool.{Bool, false, true≢false}
use mathlib.Core.Path.{◌≡◌, sym, ap, ap₂, ◌∙◌, subst}
use mathlib.Core.List.{List}
use mathlib.Core.Logic.{◌≢◌}
use Prim.Native.Nat.{ℕ, ◌+◌, ◌-◌, ◌*◌, ◌/◌, ◌%◌, ◌<◌, ◌≤◌}
use native.Mathlib.Numerals.{add-one}
use native.Mathlib.Decide.{ℕ_discrete}
use native.Mathlib.Omega.{arith}
use lib.Dec.{leb}
use borrow.Author.Tests.{le-leb, leb-true}
use Rattle.algebra.specs.Power.{pow, pow-nil, pow-suc}
use Rattle.galois.specs.Field16.{K16, to_f-zero, to_f-one}
use Rattle.hermitian.specs.Present.{Present}
use Rattle.hermitian.specs.Value.{monomial}
use Rattle.hermitian.specs.Keys.{IsKey, key-even, key-odd, even-key, odd-key}
use Rattle.family.specs.Member.{m16, px, py}
use Rattle.planes.specs.Arrays.{element_at, Carries, symbols_of, spread_of, spread-carries, product_of, product-element}
use Rattle.planes.specs.Rows.{value_at, joined_of, whole-joined, slope-joined}
use Rattle.values.specs.Eliminating.{Reduced, reduced-plain, reduced-z}
use Rattle.parts.specs.Parts.{values_of}
use Rattle.elimination.specs.Terms.{monomial_at, PowerOf, Tests, TermRow}
open K16 use {◌⊗◌, 𝟘}

-- ---- powers
pub power-start : (base : List ℕ) {out : List ℕ} → out ≡ spread_of 1 → PowerOf base 0 out
power-start base e =
    record {
      carries = λ v h. record { lanes = λ p l. ap (λ a. element_at a p) e ∙ (spread-carries 1).lanes p l ∙ to_f-one ∙ sym (pow-nil K16 (v p)) };
    }

pub power-turn : (base out : List ℕ) (i : ℕ) {next : List ℕ} → next ≡ product_of out base → PowerOf base i out → PowerOf base (i + 1) next
power-turn base out i e P =
    record {
      carries = λ v h.
          record {
            lanes = λ p l.
                ap (λ a. element_at a p) e ∙ product-element out base p ∙ ap₂ (λ a b. a ⊗ b) ((P.carries v h).lanes p l) (h.lanes p l)
                ∙ sym (ap (pow K16 (v p)) (add-one i) ∙ pow-suc K16 (v p) i);
          };
    }

pub power-end : (base out : List ℕ) {i n : ℕ} → i ≤ n → n ≤ i → PowerOf base i out → PowerOf base n out
power-end base out {i} {n} a b P =
    let e : i ≡ n = omega arith in
    subst (λ k. PowerOf base k out) e P

pub monomial-made : (order : ℕ) {x y a b r : List ℕ} → Carries (px m16) x → Carries (py m16) y → PowerOf x (order / 4 - order % 4) a → PowerOf y (order % 4) b
    → r ≡ product_of a b → Carries (monomial_at order) r
unfolding monomial
monomial-made order {x} {y} {a} {b} {r} X Y A B e =
    record {
      lanes = λ p l.
          ap (λ v. element_at v p) e ∙ product-element a b p
          ∙ ap₂ (λ u v. u ⊗ v) ((A.carries (px m16) X).lanes p l) ((B.carries (py m16) Y).lanes p l);
    }

-- ---- keys
pub le-tests : (a b : ℕ) → Tests (a ≤ b) (leb a b)
le-tests a b = record { holds = leb-true a b; fails = λ e h. true≢false (sym (le-leb a b h) ∙ e) }

module _ (key m : ℕ) where
  pub even-tests : {b : Bool} → key % 2 ≡ 0 → Tests (Present 4 (key / 2)) b → Tests (IsKey 4 m key) b
  even-tests z t = record { holds = λ e. even-key z (t.holds e); fails = λ e k. t.fails e (key-even z k) }

  pub low-tests : key % 2 ≢ 0 → key / 2 < m → Tests (IsKey 4 m key) false
  low-tests z l = record { holds = λ e. absurd (true≢false (sym e)); fails = λ e k. omega (arith, (key-odd z k).0) }

  pub odd-tests : {b : Bool} → key % 2 ≢ 0 → m ≤ key / 2 → Tests (Present 4 (key / 2 - m)) b → Tests (IsKey 4 m key) b
  odd-tests z l t = record { holds = λ e. odd-key z l (t.holds e); fails = λ e k. t.fails e (key-odd z k).1 }

-- ---- rows
module _ (M key : ℕ) (symbols : List ℕ) where
  pub term-plain : (values : List ℕ) {zeros row : List ℕ} → key % 2 ≡ 0 → Carries (monomial_at (key / 2)) values → zeros ≡ spread_of 0 → row ≡ joined_of values zeros
      → TermRow M key symbols row
  term-plain values {zeros} {row} even C z e =
      record {
        plain_whole = λ t p l. ap (λ v. value_at 0 v p) e ∙ whole-joined values zeros p ∙ C.lanes p l;
        plain_slope = λ t p l.
            ap (λ v. value_at 1 v p) e ∙ slope-joined values zeros p ∙ ap (λ v. element_at v p) z ∙ (spread-carries 0).lanes p l ∙ to_f-zero;
        z_whole = λ t. absurd (t even);
        z_slope = λ t. absurd (t even);
      }

  pub term-z : (values : List ℕ) {product row : List ℕ} → key % 2 ≢ 0 → Carries (monomial_at (key / 2 - M)) values → product ≡ product_of symbols values
      → row ≡ joined_of product values → TermRow M key symbols row
  term-z values {product} {row} odd C ep e =
      record {
        plain_whole = λ t. absurd (odd t);
        plain_slope = λ t. absurd (odd t);
        z_whole = λ t p l.
            ap (λ v. value_at 0 v p) e ∙ whole-joined product values p ∙ ap (λ v. element_at v p) ep ∙ product-element symbols values p
            ∙ ap (λ b. element_at symbols p ⊗ b) (C.lanes p l);
        z_slope = λ t p l. ap (λ v. value_at 1 v p) e ∙ slope-joined product values p ∙ C.lanes p l;
      }

  -- elimination begins with it, where the symbols are a word's
  pub term-begins : IsKey 4 M key → (row : List ℕ) → TermRow M key symbols row → (word flags : List ℕ) → Carries (symbols_of word) symbols
      → Reduced m16 M word flags key 0 (values_of row)
  unfolding values_of
  term-begins term row T word flags carried = go (ℕ_discrete (key % 2) 0)
    where
      go : Dec (key % 2 ≡ 0) → Reduced m16 M word flags key 0 (values_of row)
      go (yes z) =
          let e : 2 * (key / 2) ≡ key = omega arith in
          subst (λ k. Reduced m16 M word flags k 0 (values_of row)) e
          (reduced-plain m16 M word flags (key / 2) (key-even z term) (T.plain_whole z) (T.plain_slope z))
      go (no z) =
          let o = key-odd z term in
          let e : 2 * (key / 2 - M + M) + 1 ≡ key = omega (arith, o.0) in
          subst (λ k. Reduced m16 M word flags k 0 (values_of row)) e
          (reduced-z m16 M word flags (key / 2 - M) o.1
          (λ p l. T.z_whole z p l ∙ ap (λ a. a ⊗ monomial_at (key / 2 - M) p) (carried.lanes p l)) (T.z_slope z))
