-- The least Q through a word gives the function near it: the decoding theorem on keys.
--
--   near-held          where a function is within T of the word, some Q through it has its lead up to the limit, and with z (an odd key);
--                      a word without such a Q has no function near it
--   near-least         so there is a least Q,
--   least-limit        its lead is up to the limit
--   decided-with_z      any Q through the word whose weight, half its lead, and T are less than the places has its lead with z,
--   decided-quotient   it has Q0 = f·Q1,
--   decided-repairs    and division of Q0 by Q1 from the top finds f
--   least-with_z, least-repairs   so it is of the least Q, where so many wrong values can be repaired
use Rattle.std.specs.Prelude.{List, ◌≡◌, length, get_or}
use Rattle.std.proofs.Common.{ap, ◌∙◌, subst}
use Rattle.std.proofs.Math.Logic.{⊎_elim}
use Prim.Native.Nat.{ℕ, suc, ◌+◌, ◌-◌, ◌*◌, ◌/◌, ◌%◌, ◌<◌, ◌≤◌}
use native.Mathlib.Omega.{arith}
use Rattle.lists.specs.Member.{member-at, at-member}
use Rattle.algebra.specs.Field.{Field, add-cancel}
use Rattle.algebra.specs.Coefficients.{Lead, below-mono, zero-or-lead}
use Rattle.algebra.specs.Weighted.{weighted-is}
use Rattle.algebra.specs.Least.{Least, least-exists}
use Rattle.hermitian.specs.Orders.{order_of}
use Rattle.hermitian.specs.Ring.{Fn}
use Rattle.hermitian.specs.Product.{product, below-product}
use Rattle.hermitian.specs.Points.{Points}
use Rattle.hermitian.specs.Decoding.{Radius, Near, Vanishes, PassesThrough}
use Rattle.hermitian.proofs.Decoding.{radius-decides, decoding, plain-zero, interpolant}
use Rattle.hermitian.specs.Division.{quotient, division}
use Rattle.hermitian.specs.Keys.{plain, times_z, IsKey, is_key}
use Rattle.hermitian.specs.Interpolant.{without_z, with_z, joined, lead-joined, fn-without_z, fn_with_z, below-without_z, below-with_z, interpolant-lead}
use Rattle.hermitian.specs.Interpolation.{Sample, Through, through-joined, through-space, through-basis}
use Rattle.hermitian.specs.Repair.{limit, x_at, y_at, z_at}

module _ {F : Type 0} (K : Field F) (w M : ℕ) {P : Type 0} (sample : P → Sample K w) (d : P) (ps : List P) where
  -- a Q on keys and its two parts vanish together
  through_passes : {c : ℕ → F} → Through K w M sample ps c
      → PassesThrough K w (length ps) (x_at K w M sample d ps) (y_at K w M sample d ps) (z_at K w M sample d ps) (without_z K c) (with_z K M c)
  through_passes h i l =
      let e = h.vanishes (get_or ps i d) (member-at ps d i l) in
      record { value = e.at1; val_with_z = e.value1; val_plain = weighted-is K (add-cancel K _ _ e.total) e.value0 }

  passes-through : {q r : ℕ → F} → Fn K w q → Fn K w r
      → PassesThrough K w (length ps) (x_at K w M sample d ps) (y_at K w M sample d ps) (z_at K w M sample d ps) q r → Through K w M sample ps (joined K M q r)
  passes-through {q} {r} f g h =
      through-joined K w M sample f g
      (λ p m.
      let t = at-member d m in
      let e = subst (λ p. Vanishes K w (sample p).x (sample p).y (sample p).z q r) t.2 (h t.0 t.1) in
      (e.value, e.val_with_z, e.val_plain))

  module _ (two : 2 ≤ w) (p : Points K w (length ps) (x_at K w M sample d ps) (y_at K w M sample d ps)) {T : ℕ} {f : ℕ → F}
      (near : Near K w M T (length ps) (x_at K w M sample d ps) (y_at K w M sample d ps) (z_at K w M sample d ps) f) where
    pub near-held : (c : ℕ → F) × (l : ℕ) × Through K w M sample ps c × Lead K c l × (l ≤ limit w M T) × (l % 2 ≡ 1)
    unfolding limit
    near-held =
        let I = interpolant K w two p near in
        let q : ℕ → F = product K w (suc M) f I.0 in
        ⊎_elim (λ z. absurd (I.3.1 (z I.3.0)))
        (λ t. (
          joined K M q I.0,
          2 * (t.0 + M) + 1,
          passes-through I.1.fn_plain I.1.fn_with_z I.2,
          lead-joined K M (below-mono K (omega arith) (below-product K w (suc M) near.fn t.2.above)) t.2,
          omega (arith, t.1),
          omega arith,
        ))
        (zero-or-lead K (suc (order_of w T)) I.1.order_with_z)

    -- so there is a least one
    pub near-least : (c : ℕ → F) × (l : ℕ) × Least K (Through K w M sample ps) c l
    near-least =
        let B = through-basis K w M two sample (limit w M T) ps in
        let t = near-held in
        least-exists K B.2 (omega arith) (through-space K w M two sample ps) t.2 t.3 t.4

    pub least-limit : {c : ℕ → F} {l : ℕ} → Least K (Through K w M sample ps) c l → l ≤ limit w M T
    least-limit h =
        let t = near-held in
        omega (arith, t.4, h.least t.0 t.1 t.2 t.3)

    -- a Q whose weight leaves more places than T decides which function is near
    module _ {c : ℕ → F} {l : ℕ} (through : Through K w M sample ps c) (leads : Lead K c l) (decides : l / 2 + T < length ps) where
      -- the weight is that of a term with z at least
      held-equal : M ≤ l / 2 → without_z K c ≡ product K w (suc M) f (with_z K M c)
      held-equal h =
          decoding K w two p near {L = l / 2 - M} (omega (arith, decides))
          (record {
            fn_plain = fn-without_z K w M through.member;
            fn_with_z = fn_with_z K w M through.member;
            order_plain = below-without_z K w M (suc (l / 2 - M + M)) (omega arith) leads.above;
            order_with_z = below-with_z K w M (suc (l / 2 - M)) (omega arith) leads.above;
          })
          (through_passes through)

      -- Q0 = f·Q1 lies below its own lead
      plain-not : (o : ℕ) → l ≡ 2 * o → ⊥
      plain-not o e =
          leads.ne
          (ap c e
          ∙ ⊎_elim
          (λ z.
          plain-zero K w two p (omega (arith, decides)) (fn-without_z K w M through.member) (below-without_z K w M (suc o) (omega arith) leads.above)
          (through_passes through) z o)
          (λ t.
          ap (λ g. g o) (held-equal (omega (arith, t.1)))
          ∙ (below-product K w (suc M) near.fn t.2.above).zero_from o (omega (arith, t.1)))
          (zero-or-lead K (o - M) (below-with_z K w M (o - M) (omega arith) leads.above)))

      pub decided-with_z : (m : ℕ) × (l ≡ 2 * (m + M) + 1) × Lead K (with_z K M c) m
      decided-with_z = go (interpolant-lead K w M through.member leads)
        where
          go : IsKey w M l → (m : ℕ) × (l ≡ 2 * (m + M) + 1) × Lead K (with_z K M c) m
          go (is_key (plain o) q e) = absurd (plain-not o e)
          go (is_key (times_z o) q e) =
              (o, e, record { ne = λ z. leads.ne (ap c e ∙ z); above = below-with_z K w M (suc o) (omega arith) leads.above })

      pub decided-quotient : without_z K c ≡ product K w (suc M) f (with_z K M c)
      decided-quotient = held-equal (omega (arith, decided-with_z.1))

      pub decided-repairs : {m : ℕ} → Lead K (with_z K M c) m → quotient K w m (with_z K M c) M (without_z K c) ≡ f
      decided-repairs {m} lead = division K w m (with_z K M c) lead near.fn near.order decided-quotient

    -- so does the least one
    module _ (radius : Radius w M T (length ps)) {c : ℕ → F} {l : ℕ} (h : Least K (Through K w M sample ps) c l) where
      least-decides : l / 2 + T < length ps
      unfolding limit
      least-decides = omega (arith, least-limit h, radius-decides two M T radius)

      pub least-with_z : (m : ℕ) × (m < suc (order_of w T)) × Lead K (with_z K M c) m
      unfolding limit
      least-with_z =
          let t = decided-with_z h.member h.leads least-decides in
          (t.0, omega (arith, t.1, least-limit h), t.2)

      pub least-repairs : {m : ℕ} → Lead K (with_z K M c) m → quotient K w m (with_z K M c) M (without_z K c) ≡ f
      least-repairs lead = decided-repairs h.member h.leads least-decides lead
