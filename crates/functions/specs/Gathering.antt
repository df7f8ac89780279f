-- The two loops that read coefficients off values, for every member: over the powers of y, then over all x. Each turn adds a term of a sum.
--
--   Fibre values dual j r      r holds at lane x·w + j the sum over the places with x of value times dual, and 0 at the others with this x
--   Entry sums dual x r        r holds at lane o lane x·w + o % w times the dual
--   FibresTo, fibres-start, fibres-turn, fibres-end    the sums over the fibres against the powers of y passed
--   FibresFrom, from_start, from-turn, from_end    the same from the highest power of y down, where the lanes of those left are 0
--   dual-lowest, dual-higher   the duals so met: y^(w − 1) and 1 for j = 0, y^(w − 1 − j) for the others
--   GatheredTo, gathered-start, gathered-turn, gathered-end    the sums over the x passed
--   coefficients-by            so the numbers at the lanes are the coefficients of the function whose values were given
use Rattle.std.specs.Prelude.{◌≡◌, List, ℕ, suc, ◌+◌, ◌-◌, ◌*◌, ◌%◌, ◌<◌, ◌≤◌, get_or}
use Rattle.std.proofs.Math.Path.{sym, ap, ap₂}
use Rattle.std.proofs.Common.{◌∙◌}
use Rattle.std.proofs.Math.Decide.{ℕ_discrete}
use native.Mathlib.Omega.{arith}
use Rattle.lists.specs.Listed.{listed, listed-ext}
use Rattle.algebra.specs.Field.{add-zero, zero-add, zero-mul, one-mul}
use Rattle.algebra.specs.Sum.{sum, sum-nil, sum-suc, sum-ext, sum-single}
use Rattle.algebra.specs.Power.{pow}
use Rattle.algebra.specs.Coefficients.{unit, unit-at, unit-off}
use Rattle.algebra.specs.Dual.{dual}
use Rattle.galois.specs.BinaryField.{GF, K, size, to_f, to_f-injective}
use Rattle.family.specs.Member.{Member, places, py}
use Rattle.family.specs.Points.{place-below}
use Rattle.functions.specs.Duals.{fibre_at, FibreSums, x_dual, Gathered, coefficient_at, coefficient_at-lt, coefficients_of, coefficients-read}

module _ (𝓜 : Member) where
  open 𝓜 use {gf, w}
  open K gf use {◌⊕◌, ◌⊗◌, 𝟘, 𝟙}

  pub record Fibre (values dual : ℕ → GF gf) (j : ℕ) (r : ℕ → GF gf) : Type 0 where
    pub lanes : (x k : ℕ) → x < size gf → k < w → r (x * w + k) ≡ unit (K gf) j k ⊗ sum (K gf) w (λ i. values (x * w + i) ⊗ dual (x * w + i))

  pub record Entry (sums dual : ℕ → GF gf) (x : ℕ) (r : ℕ → GF gf) : Type 0 where
    pub lanes : (o : ℕ) → o < places 𝓜 → r o ≡ sums (x * w + o % w) ⊗ dual o

  -- ---- over the powers of y
  module _ (values : ℕ → GF gf) where
    pub record FibresTo (n : ℕ) (out : ℕ → GF gf) : Type 0 where
      pub lanes : (x k : ℕ) → x < size gf → k < w → out (x * w + k) ≡ sum (K gf) n (λ j. unit (K gf) j k ⊗ fibre_at 𝓜 values j x)

    pub fibres-start : (out : ℕ → GF gf) → ((p : ℕ) → p < places 𝓜 → out p ≡ 𝟘) → FibresTo 0 out
    fibres-start out z = record { lanes = λ x k hx hk. z (x * w + k) (place-below 𝓜 x k hx hk) ∙ sym (sum-nil (K gf) _) }

    pub fibres-turn : (j : ℕ) (out duals add next : ℕ → GF gf) → FibresTo j out
        → ((p : ℕ) → p < places 𝓜 → duals p ≡ dual (K gf) (w - 1) j (py 𝓜 p)) → Fibre values duals j add
        → ((p : ℕ) → p < places 𝓜 → next p ≡ out p ⊕ add p) → FibresTo (suc j) next
    unfolding fibre_at
    fibres-turn j out duals add next t d f e =
        record {
          lanes = λ x k hx hk.
              e (x * w + k) (place-below 𝓜 x k hx hk)
              ∙ ap₂ (λ u v. u ⊕ v) (t.lanes x k hx hk)
              (f.lanes x k hx hk
              ∙ ap (λ s. unit (K gf) j k ⊗ s) (sum-ext (K gf) w _ _ (λ r l. ap (λ v. values (x * w + r) ⊗ v) (d (x * w + r) (place-below 𝓜 x r hx l)))))
              ∙ sym (sum-suc (K gf) j _);
        }

    pub fibres-end : (out : ℕ → GF gf) → FibresTo w out → FibreSums 𝓜 values out
    fibres-end out t =
        record {
          lanes = λ x k hx hk.
              t.lanes x k hx hk
              ∙ sum-single (K gf) w k _ hk (λ j l d. ap (λ u. u ⊗ fibre_at 𝓜 values j x) (unit-off (K gf) j k (λ q. d (sym q))) ∙ zero-mul (K gf) _)
              ∙ ap (λ u. u ⊗ fibre_at 𝓜 values k x) (unit-at (K gf) k) ∙ one-mul (K gf) _;
        }

    -- ---- and from the highest of them down
    pub record FibresFrom (n : ℕ) (out : ℕ → GF gf) : Type 0 where
      pub done : (x k : ℕ) → x < size gf → k < w → n ≤ k → out (x * w + k) ≡ fibre_at 𝓜 values k x
      pub left : (x k : ℕ) → x < size gf → k < w → k < n → out (x * w + k) ≡ 𝟘

    pub from_start : (out : ℕ → GF gf) → ((p : ℕ) → p < places 𝓜 → out p ≡ 𝟘) → FibresFrom w out
    from_start out z = record { done = λ x k hx hk l. absurd (omega arith); left = λ x k hx hk l. z (x * w + k) (place-below 𝓜 x k hx hk) }

    pub from-turn : (j : ℕ) (out duals add next : ℕ → GF gf) → FibresFrom (suc j) out
        → ((p : ℕ) → p < places 𝓜 → duals p ≡ dual (K gf) (w - 1) j (py 𝓜 p)) → Fibre values duals j add
        → ((p : ℕ) → p < places 𝓜 → next p ≡ out p ⊕ add p) → FibresFrom j next
    unfolding fibre_at
    from-turn j out duals add next t d f e =
        record {
          done = λ x k hx hk l. here x k hx hk l (ℕ_discrete k j);
          left = λ x k hx hk l.
              e (x * w + k) (place-below 𝓜 x k hx hk)
              ∙ ap₂ (λ u v. u ⊕ v) (t.left x k hx hk (omega arith)) (nothing x k hx hk (λ (q : k ≡ j). absurd (omega arith))) ∙ add-zero (K gf) 𝟘;
        }
      where
        nothing : (x k : ℕ) → x < size gf → k < w → (k ≡ j → ⊥) → add (x * w + k) ≡ 𝟘
        nothing x k hx hk n = f.lanes x k hx hk ∙ ap (λ u. u ⊗ sum (K gf) w (λ i. values (x * w + i) ⊗ duals (x * w + i))) (unit-off (K gf) j k n) ∙ zero-mul (K gf) _

        here : (x k : ℕ) → x < size gf → k < w → j ≤ k → Dec (k ≡ j) → next (x * w + k) ≡ fibre_at 𝓜 values k x
        here x k hx hk l (yes q) =
            e (x * w + k) (place-below 𝓜 x k hx hk)
            ∙ ap₂ (λ u v. u ⊕ v) (t.left x k hx hk (omega arith))
            (f.lanes x k hx hk
            ∙ ap (λ u. u ⊗ sum (K gf) w (λ i. values (x * w + i) ⊗ duals (x * w + i))) (ap (unit (K gf) j) q ∙ unit-at (K gf) j) ∙ one-mul (K gf) _
            ∙ sum-ext (K gf) w _ _ (λ r b. ap (λ v. values (x * w + r) ⊗ v) (d (x * w + r) (place-below 𝓜 x r hx b))))
            ∙ zero-add (K gf) _
            ∙ ap (λ i. fibre_at 𝓜 values i x) (sym q)
        here x k hx hk l (no n) =
            e (x * w + k) (place-below 𝓜 x k hx hk)
            ∙ ap₂ (λ u v. u ⊕ v) (t.done x k hx hk (omega arith)) (nothing x k hx hk n) ∙ add-zero (K gf) _

    pub from_end : (out : ℕ → GF gf) → FibresFrom 0 out → FibreSums 𝓜 values out
    from_end out t = record { lanes = λ x k hx hk. t.done x k hx hk (omega arith) }

  pub dual-lowest : (y : GF gf) → dual (K gf) (w - 1) 0 y ≡ pow (K gf) y (w - 1) ⊕ 𝟙
  unfolding dual
  dual-lowest y = let e : w - 1 - 0 ≡ w - 1 = omega arith in ap₂ (λ n u. pow (K gf) y n ⊕ u) e (unit-at (K gf) 0)

  pub dual-higher : (j : ℕ) (y : GF gf) → 0 < j → dual (K gf) (w - 1) j y ≡ pow (K gf) y (w - 1 - j)
  unfolding dual
  dual-higher j y h =
      ap (λ u. pow (K gf) y (w - 1 - j) ⊕ u) (unit-off (K gf) 0 j (λ (e : j ≡ 0). absurd (omega arith))) ∙ add-zero (K gf) _

  -- ---- over x
  module _ (sums : ℕ → GF gf) where
    pub record GatheredTo (n : ℕ) (out : ℕ → GF gf) : Type 0 where
      pub lanes : (o : ℕ) → o < places 𝓜 → out o ≡ sum (K gf) n (λ x. sums (x * w + o % w) ⊗ to_f gf (x_dual 𝓜 o x))

    pub gathered-start : (out : ℕ → GF gf) → ((o : ℕ) → o < places 𝓜 → out o ≡ 𝟘) → GatheredTo 0 out
    gathered-start out z = record { lanes = λ o h. z o h ∙ sym (sum-nil (K gf) _) }

    pub gathered-turn : (x : ℕ) (out duals add next : ℕ → GF gf) → GatheredTo x out
        → ((o : ℕ) → o < places 𝓜 → duals o ≡ to_f gf (x_dual 𝓜 o x)) → Entry sums duals x add
        → ((o : ℕ) → o < places 𝓜 → next o ≡ out o ⊕ add o) → GatheredTo (suc x) next
    gathered-turn x out duals add next t d f e =
        record {
          lanes = λ o h.
              e o h ∙ ap₂ (λ u v. u ⊕ v) (t.lanes o h) (f.lanes o h ∙ ap (λ v. sums (x * w + o % w) ⊗ v) (d o h)) ∙ sym (sum-suc (K gf) x _);
        }

    pub gathered-end : (out : ℕ → GF gf) → GatheredTo (size gf) out → Gathered 𝓜 sums out
    gathered-end out t = record { lanes = t.lanes }

  -- ---- the whole, where the lanes are kept as numbers
  pub coefficients-by : (values sums out : ℕ → GF gf) (v : List ℕ) (number : ℕ → ℕ) → FibreSums 𝓜 values sums → Gathered 𝓜 sums out
      → ((p : ℕ) → p < places 𝓜 → values p ≡ to_f gf (get_or v p 0)) → ((o : ℕ) → o < places 𝓜 → out o ≡ to_f gf (number o)) → ((o : ℕ) → number o < size gf)
      → listed (places 𝓜) number ≡ coefficients_of 𝓜 v
  unfolding coefficients_of
  coefficients-by values sums out v number f g held shown small =
      listed-ext (places 𝓜) number (coefficient_at 𝓜 v) (λ o h.
      to_f-injective gf _ _ (small o) (coefficient_at-lt 𝓜 v o) (sym (shown o h) ∙ coefficients-read 𝓜 values sums f v held out g o h))
