-- Q = Q0 + Q1 z as a coefficient function on keys, and its two parts by order.
--
--   Interpolant K w M c   c is such a Q: zero where no term stands, and from some key on
--   without_z, with_z       Q0 and Q1: the coefficients without and with z, by order
--   joined M a b          the Q with Q0 = a and Q1 = b
--   without-joined, with-joined   taking apart undoes joining
--   without-shift, with_shift   multiplication by x, part by part
--   fn-without_z, fn_with_z, interpolant-joined   the parts are functions on the curve, and two such make a Q
--   below-without_z, below-with_z, below-joined   where the parts end, and where Q ends
--   lead-joined           where Q0 ends M above the lead of Q1, that term with z is the lead of Q
--   interpolant-space     the Qs are a space, closed under the shift by 2w
--   interpolant-lead      the lead of a Q is the key of a term
--   interpolant-unit      the Q of one term
--   interpolant-start     the terms at the first keys of the classes are a basis, up to any limit
use Rattle.std.specs.Prelude.{◌≡◌, ◌≢◌, ℕ, suc, ◌+◌, ◌-◌, ◌*◌, ◌/◌, ◌%◌, ◌<◌, ◌≤◌}
use Rattle.std.proofs.Common.{sym, ap, ap₂, ◌∙◌, subst, arith}
use Rattle.std.proofs.Math.Path.{fun_ext}
use Rattle.std.proofs.Math.Decide.{dec_le, ℕ_discrete}
use Rattle.algebra.specs.Field.{Field, add-zero, mul-zero}
use Rattle.algebra.specs.Coefficients.{choose, choose_yes, choose_no, shift, shift-high, shift-low, Below, Lead, below-mono, below-plus, below-scale, below-shift, unit, unit-off, lead-unit}
use Rattle.algebra.specs.Subspace.{Space}
use Rattle.algebra.specs.Koetter.{Basis, start}
use Rattle.hermitian.specs.Present.{Present}
use Rattle.hermitian.specs.Ring.{Fn}
use Rattle.hermitian.specs.Keys.{plain, times_z, IsKey, is_key, dec_key, even-key, odd-key, is_key-x, first, first_key, first-class, first-least}

module _ {F : Type 0} (K : Field F) where
  open K use {◌⊕◌, ◌⊗◌, 𝟘}

  abbrev pub without_z : (ℕ → F) → ℕ → F
  without_z c o = c (2 * o)

  abbrev pub with_z : ℕ → (ℕ → F) → ℕ → F
  with_z M c o = c (2 * (o + M) + 1)

  unfoldable pub joined : ℕ → (ℕ → F) → (ℕ → F) → ℕ → F
  joined M a b k = choose (ℕ_discrete (k % 2) 0) (a (k / 2)) (choose (dec_le M (k / 2)) (b (k / 2 - M)) 𝟘)

  module _ (M : ℕ) where
    joined-even : (a b : ℕ → F) (k : ℕ) → k % 2 ≡ 0 → joined M a b k ≡ a (k / 2)
    unfolding joined
    joined-even a b k h = choose_yes (ℕ_discrete (k % 2) 0) _ _ h

    joined-odd : (a b : ℕ → F) (k : ℕ) → k % 2 ≢ 0 → M ≤ k / 2 → joined M a b k ≡ b (k / 2 - M)
    unfolding joined
    joined-odd a b k h l = choose_no (ℕ_discrete (k % 2) 0) _ _ h ∙ choose_yes (dec_le M (k / 2)) _ _ l

    joined-low : (a b : ℕ → F) (k : ℕ) → k % 2 ≢ 0 → ¬ (M ≤ k / 2) → joined M a b k ≡ 𝟘
    unfolding joined
    joined-low a b k h l = choose_no (ℕ_discrete (k % 2) 0) _ _ h ∙ choose_no (dec_le M (k / 2)) _ _ l

    pub without-joined : (a b : ℕ → F) → without_z (joined M a b) ≡ a
    without-joined a b =
        fun_ext (λ o. let e : 2 * o / 2 ≡ o = omega arith in joined-even a b (2 * o) (omega arith) ∙ ap a e)

    pub with-joined : (a b : ℕ → F) → with_z M (joined M a b) ≡ b
    with-joined a b =
        fun_ext (λ o.
        let e : (2 * (o + M) + 1) / 2 - M ≡ o = omega arith in
        joined-odd a b (2 * (o + M) + 1) (omega arith) (omega arith) ∙ ap b e)

    -- the keys that are odd and too small for a term with z
    abbrev pub Gap : (ℕ → F) → Type 0
    Gap c = (k : ℕ) → k < M → c (2 * k + 1) ≡ 𝟘

    pub gap-joined : (a b : ℕ → F) → Gap (joined M a b)
    gap-joined a b k h = joined-low a b (2 * k + 1) (omega arith) (omega arith)

    -- two functions on keys are equal by their parts
    pub parts-ext : {c d : ℕ → F} → Gap c → Gap d → without_z c ≡ without_z d → with_z M c ≡ with_z M d → c ≡ d
    parts-ext {c} {d} g h p q = fun_ext (λ k. go k (ℕ_discrete (k % 2) 0) (dec_le M (k / 2)))
      where
        go : (k : ℕ) → Dec (k % 2 ≡ 0) → Dec (M ≤ k / 2) → c k ≡ d k
        go k (yes z) l =
            let e : k ≡ 2 * (k / 2) = omega arith in
            ap c e ∙ ap (λ f. f (k / 2)) p ∙ ap d (sym e)
        go k (no z) (yes l) =
            let e : k ≡ 2 * (k / 2 - M + M) + 1 = omega arith in
            ap c e ∙ ap (λ f. f (k / 2 - M)) q ∙ ap d (sym e)
        go k (no z) (no l) =
            let e : k ≡ 2 * (k / 2) + 1 = omega arith in
            ap c e ∙ g (k / 2) (omega arith) ∙ sym (h (k / 2) (omega arith)) ∙ ap d (sym e)

    pub without-shift : (w : ℕ) (c : ℕ → F) → without_z (shift K (2 * w) c) ≡ shift K w (without_z c)
    without-shift w c = fun_ext (λ o. go o (dec_le w o))
      where
        go : (o : ℕ) → Dec (w ≤ o) → shift K (2 * w) c (2 * o) ≡ shift K w (without_z c) o
        go o (yes l) =
            let e : 2 * o - 2 * w ≡ 2 * (o - w) = omega arith in
            shift-high K (2 * w) (2 * o) c (omega arith) ∙ ap c e ∙ sym (shift-high K w o (without_z c) l)
        go o (no l) = shift-low K (2 * w) (2 * o) c (omega arith) ∙ sym (shift-low K w o (without_z c) (omega arith))

    -- below 2w the shift is zero, and w orders above the gap it reads the gap
    gap-read : (w : ℕ) (c : ℕ → F) → Gap c → (k : ℕ) → k < M + w → shift K (2 * w) c (2 * k + 1) ≡ 𝟘
    gap-read w c g k h = go (dec_le w k)
      where
        go : Dec (w ≤ k) → shift K (2 * w) c (2 * k + 1) ≡ 𝟘
        go (yes l) =
            let e : 2 * k + 1 - 2 * w ≡ 2 * (k - w) + 1 = omega arith in
            shift-high K (2 * w) (2 * k + 1) c (omega arith) ∙ ap c e ∙ g (k - w) (omega arith)
        go (no l) = shift-low K (2 * w) (2 * k + 1) c (omega arith)

    pub with_shift : (w : ℕ) (c : ℕ → F) → Gap c → with_z M (shift K (2 * w) c) ≡ shift K w (with_z M c)
    with_shift w c g = fun_ext (λ o. go o (dec_le w o))
      where
        go : (o : ℕ) → Dec (w ≤ o) → shift K (2 * w) c (2 * (o + M) + 1) ≡ shift K w (with_z M c) o
        go o (yes l) =
            let e : 2 * (o + M) + 1 - 2 * w ≡ 2 * (o - w + M) + 1 = omega arith in
            shift-high K (2 * w) (2 * (o + M) + 1) c (omega arith) ∙ ap c e ∙ sym (shift-high K w o (with_z M c) l)
        go o (no l) = gap-read w c g (o + M) (omega arith) ∙ sym (shift-low K w o (with_z M c) (omega arith))

    pub below-joined : {a b : ℕ → F} {m n : ℕ} (N : ℕ) → 2 * m ≤ N → 2 * (n + M) ≤ N → Below K a m → Below K b n → Below K (joined M a b) N
    below-joined {a} {b} {m} {n} N hm hn p q = record { zero_from = λ k l. go k l (ℕ_discrete (k % 2) 0) (dec_le M (k / 2)) }
      where
        go : (k : ℕ) → N ≤ k → Dec (k % 2 ≡ 0) → Dec (M ≤ k / 2) → joined M a b k ≡ 𝟘
        go k l (yes z) h = joined-even a b k z ∙ p.zero_from (k / 2) (omega arith)
        go k l (no z) (yes h) = joined-odd a b k z h ∙ q.zero_from (k / 2 - M) (omega arith)
        go k l (no z) (no h) = joined-low a b k z h

    pub lead-joined : {a b : ℕ → F} {l : ℕ} → Below K a (suc (l + M)) → Lead K b l → Lead K (joined M a b) (2 * (l + M) + 1)
    lead-joined {a} {b} {l} p q =
        record {
          ne = λ e. q.ne (ap (λ f. f l) (sym (with-joined a b)) ∙ e);
          above = below-joined (suc (2 * (l + M) + 1)) (omega arith) (omega arith) p q.above;
        }

  module _ (w M : ℕ) where
    pub record Interpolant (c : ℕ → F) : Type 0 where
      pub bound : ℕ
      pub ends : Below K c bound
      pub absent : (k : ℕ) → ¬ IsKey w M k → c k ≡ 𝟘

    pub below-without_z : {c : ℕ → F} {n : ℕ} (m : ℕ) → n ≤ 2 * m → Below K c n → Below K (without_z c) m
    below-without_z m h b = record { zero_from = λ o l. b.zero_from (2 * o) (omega arith) }

    pub below-with_z : {c : ℕ → F} {n : ℕ} (m : ℕ) → n ≤ 2 * (m + M) + 1 → Below K c n → Below K (with_z M c) m
    below-with_z m h b = record { zero_from = λ o l. b.zero_from (2 * (o + M) + 1) (omega arith) }

    pub fn-without_z : {c : ℕ → F} → Interpolant c → Fn K w (without_z c)
    fn-without_z {c} q =
        record {
          bound = q.bound;
          ends = below-without_z q.bound (omega arith) q.ends;
          absent = λ o h. q.absent (2 * o) (λ e. h (is o e));
        }
      where
        is : (o : ℕ) → IsKey w M (2 * o) → Present w o
        is o (is_key (plain u) p e) =
            let x : u ≡ o = omega arith in
            subst (Present w) x p
        is o (is_key (times_z u) p e) = absurd (omega arith)

    pub fn_with_z : {c : ℕ → F} → Interpolant c → Fn K w (with_z M c)
    fn_with_z {c} q =
        record {
          bound = q.bound;
          ends = below-with_z q.bound (omega arith) q.ends;
          absent = λ o h. q.absent (2 * (o + M) + 1) (λ e. h (is o e));
        }
      where
        is : (o : ℕ) → IsKey w M (2 * (o + M) + 1) → Present w o
        is o (is_key (plain u) p e) = absurd (omega arith)
        is o (is_key (times_z u) p e) =
            let x : u ≡ o = omega arith in
            subst (Present w) x p

    pub gap : {c : ℕ → F} → Interpolant c → Gap M c
    gap q k h = q.absent (2 * k + 1) none
      where
        none : ¬ IsKey w M (2 * k + 1)
        none (is_key (plain u) p e) = absurd (omega arith)
        none (is_key (times_z u) p e) = absurd (omega arith)

    pub interpolant-joined : {a b : ℕ → F} → Fn K w a → Fn K w b → Interpolant (joined M a b)
    interpolant-joined {a} {b} f g =
        let n : ℕ = 2 * (f.bound + g.bound + M) + 1 in
        record {
          bound = n;
          ends = below-joined M n (omega arith) (omega arith) f.ends g.ends;
          absent = λ k h. none k h (ℕ_discrete (k % 2) 0) (dec_le M (k / 2));
        }
      where
        none : (k : ℕ) → ¬ IsKey w M k → Dec (k % 2 ≡ 0) → Dec (M ≤ k / 2) → joined M a b k ≡ 𝟘
        none k h (yes z) l = joined-even M a b k z ∙ f.absent (k / 2) (λ p. h (even-key z p))
        none k h (no z) (yes l) = joined-odd M a b k z l ∙ g.absent (k / 2 - M) (λ p. h (odd-key z l p))
        none k h (no z) (no l) = joined-low M a b k z l

    pub interpolant-unit : {k : ℕ} → IsKey w M k → Interpolant (unit K k)
    interpolant-unit {k} h =
        record {
          bound = suc k;
          ends = (lead-unit K k).above;
          absent = λ j n. unit-off K k j (λ e. n (subst (IsKey w M) (sym e) h));
        }

    pub interpolant-lead : {c : ℕ → F} {l : ℕ} → Interpolant c → Lead K c l → IsKey w M l
    interpolant-lead {c} {l} q h = go (dec_key w M l)
      where
        go : Dec (IsKey w M l) → IsKey w M l
        go (yes k) = k
        go (no k) = absurd (h.ne (q.absent l k))

    module _ (two : 2 ≤ w) where
      pub interpolant-space : Space K (2 * w) Interpolant
      interpolant-space =
          record {
            ends = λ q. (q.bound, q.ends);
            sums = λ p q.
                record {
                  bound = p.bound + q.bound;
                  ends = below-plus K (below-mono K (omega arith) p.ends) (below-mono K (omega arith) q.ends);
                  absent = λ k h. ap₂ (λ x y. x ⊕ y) (p.absent k h) (q.absent k h) ∙ add-zero K 𝟘;
                };
            multiples = λ a q.
                record {
                  bound = q.bound;
                  ends = below-scale K a q.ends;
                  absent = λ k h. ap (λ x. a ⊗ x) (q.absent k h) ∙ mul-zero K a;
                };
            shifts = λ q. record { bound = q.bound + 2 * w; ends = below-shift K (2 * w) q.ends; absent = λ k h. shifted q k h (dec_le (2 * w) k) };
          }
        where
          shifted : {c : ℕ → F} → Interpolant c → (k : ℕ) → ¬ IsKey w M k → Dec (2 * w ≤ k) → shift K (2 * w) c k ≡ 𝟘
          shifted {c} q k h (yes l) =
              let e : k - 2 * w + 2 * w ≡ k = omega arith in
              shift-high K (2 * w) k c l ∙ q.absent (k - 2 * w) (λ i. h (subst (IsKey w M) e (is_key-x w two M i)))
          shifted {c} q k h (no l) = shift-low K (2 * w) k c (omega arith)

      pub interpolant-start : (L : ℕ) → Basis K (2 * w) L Interpolant (λ r. unit K (first w M r)) (first w M)
      interpolant-start L =
          start K (2 * w) L (first w M) (λ r h c m e. first-least w two M r h m (interpolant-lead e.member e.leads) e.class)
          (λ r h u. first-class w two M r h) (λ r h u. interpolant-unit (first_key w two M r h))
