-- Bench sheet, R7, of the definition: readings of a new session, and after place 0, settled, with best symbol 0.
--
--   reading-new         the reading of a new session: byte 0 is 1, the rest 0; the least Q is 1
--   reading-place-0     after place 0, settled, with best symbol 0: byte 4 is 1, the rest 0; the least Q is x
use Rattle.std.specs.Prelude.{cond, ◌≡◌, refl, [], ◌∷◌, ℕ, ◌+◌, ◌-◌, ◌*◌, ◌/◌, ◌%◌, ◌≤◌}
use Rattle.std.proofs.Common.{sym, ap, ◌∙◌, subst, arith, lit≤, eq-eqb, ne_eqb}
use mathlib.Core.List.Memᴰ
use Rattle.std.proofs.Math.Decide.{dec_le, ℕ_discrete}
use Rattle.lists.specs.Listed.{listed, listed-ext}
use Rattle.algebra.specs.Power.{pow-one}
use Rattle.algebra.specs.Coefficients.{Lead, unit, unit-at, unit-off, lead-unit}
use Rattle.algebra.specs.Subspace.{common-start}
use Rattle.algebra.specs.Least.{Least}
use Rattle.galois.specs.Field16.{GF, K16, value, value-zero, value-one, to_f-zero}
use Rattle.hermitian.specs.Keys.{IsKey, is_key, plain, times_z}
use Rattle.hermitian.specs.Interpolant.{interpolant-unit, interpolant-lead}
use Rattle.hermitian.specs.Interpolation.{Value}
use Rattle.hermitian.specs.Frobenius.{value-power, constant-nowhere}
use Rattle.code.specs.Nodes.{sample_at, ThroughNodes}
use Rattle.interpolant.specs.LeastQ.{reading_length, reading_of}
use Rattle.interpolant.specs.Reading.{byte_of}
use Rattle.interpolant.proofs.Reading.{byte_of-plain, byte_of-z, reading-least}
use Rattle.interpolant.specs.Bench.{one_at, place_zero}
open K16 use {𝟘}

one_at-there : (j i : ℕ) → i ≡ j → one_at j i ≡ 1
unfolding one_at
one_at-there j i e = ap (λ b. cond b 1 0) (eq-eqb i j e)

one_at-off : (j i : ℕ) → (i ≡ j → ⊥) → one_at j i ≡ 0
unfolding one_at
one_at-off j i n = ap (λ b. cond b 1 0) (ne_eqb i j n)

-- the bytes of a Q that is one monomial without z
bytes-monomial : (M j : ℕ) → j ≤ 64 → (i : ℕ) → byte_of M (unit K16 (2 * j)) i ≡ one_at j i
bytes-monomial M j h i = go (dec_le i 64) (ℕ_discrete i j)
  where
    go : Dec (i ≤ 64) → Dec (i ≡ j) → byte_of M (unit K16 (2 * j)) i ≡ one_at j i
    go (yes l) (yes e) =
        byte_of-plain M (unit K16 (2 * j)) i l ∙ ap (λ k. value (unit K16 (2 * j) (2 * k))) e ∙ ap value (unit-at K16 (2 * j)) ∙ value-one
        ∙ sym (one_at-there j i e)
    go (yes l) (no n) =
        byte_of-plain M (unit K16 (2 * j)) i l ∙ ap value (unit-off K16 (2 * j) (2 * i) (λ (e : 2 * i ≡ 2 * j). n (omega arith))) ∙ value-zero
        ∙ sym (one_at-off j i n)
    go (no l) (yes e) = absurd (omega arith)
    go (no l) (no n) =
        let e : i ≡ 65 + (i - 65) = omega arith in
        ap (byte_of M (unit K16 (2 * j))) e ∙ byte_of-z M (unit K16 (2 * j)) (i - 65)
        ∙ ap value (unit-off K16 (2 * j) (2 * (i - 65 + M) + 1) (λ (e : 2 * (i - 65 + M) + 1 ≡ 2 * j). absurd (omega arith))) ∙ value-zero
        ∙ sym (one_at-off j i n)

least-new : (M : ℕ) → Least K16 (ThroughNodes M []) (unit K16 0) 0
least-new M =
    record {
      member = common-start K16 (unit K16 0) (interpolant-unit K16 4 M (is_key (plain 0) (lit≤ tt) refl));
      leads = lead-unit K16 0;
      monic = unit-at K16 0;
      least = λ d m w g. omega arith;
    }

pub reading-new : (M : ℕ) → reading_of M [] ≡ listed reading_length (one_at 0)
reading-new M = reading-least M [] (least-new M) ∙ listed-ext reading_length _ _ (λ i l. bytes-monomial M 0 (lit≤ tt) i)

x-there : (M : ℕ) → Value K16 4 M (sample_at place_zero) (unit K16 8) 𝟘
x-there M = subst (Value K16 4 M (sample_at place_zero) (unit K16 8)) (pow-one K16 _ ∙ to_f-zero) (value-power K16 4 (lit≤ tt) M (sample_at place_zero) 1)

-- the only term before x is 1, which vanishes nowhere
least-place-0 : (M : ℕ) → 4 ≤ M → Least K16 (ThroughNodes M (place_zero ∷ [])) (unit K16 8) 8
least-place-0 M h =
    record {
      member =
          record {
            member = interpolant-unit K16 4 M (is_key (plain 4) (lit≤ tt) refl);
            vanishes = λ s m. subst (λ r. Value K16 4 M (sample_at r) (unit K16 8) 𝟘) (sym (Memᴰ.eq_of_singleton m)) (x-there M);
          };
      leads = lead-unit K16 8;
      monic = unit-at K16 8;
      least = λ d m w g. go d m w g (interpolant-lead K16 4 M w.member g);
    }
  where
    small : (d : ℕ → GF) (m o : ℕ) → ThroughNodes M (place_zero ∷ []) d → Lead K16 d m → o % 4 ≤ o / 4 → m ≡ 2 * o → Dec (8 ≤ m) → 8 ≤ m
    small d m o w g p e (yes l) = l
    small d m o w g p e (no l) =
        let z : m ≡ 0 = omega arith in
        absurd (constant-nowhere K16 4 (lit≤ tt) M (sample_at place_zero) (subst (Lead K16 d) z g) (w.vanishes place_zero (Memᴰ.head refl)))

    go : (d : ℕ → GF) (m : ℕ) → ThroughNodes M (place_zero ∷ []) d → Lead K16 d m → IsKey 4 M m → 8 ≤ m
    go d m w g (is_key (plain o) p e) = small d m o w g p e (dec_le 8 m)
    go d m w g (is_key (times_z o) p e) = omega arith

pub reading-place-0 : (M : ℕ) → 4 ≤ M → reading_of M (place_zero ∷ []) ≡ listed reading_length (one_at 4)
reading-place-0 M h = reading-least M (place_zero ∷ []) (least-place-0 M h) ∙ listed-ext reading_length _ _ (λ i l. bytes-monomial M 4 (lit≤ tt) i)
