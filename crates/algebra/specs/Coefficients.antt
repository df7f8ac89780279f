-- Coefficient functions ℕ → F: sums, multiples, shifts, where they end and where they lead.
--
--   plus, scale, shift   pointwise sum and multiple; shift s moves each coefficient up by s
--   unit                 the function that is 𝟙 at o and zero elsewhere
--   choose               one of two values by a decision
--   Below K c n          c is zero from n on
--   Lead K c l           c is not zero at l, and zero above it
--   zero-or-lead         a function that ends is zero everywhere or has a lead
--   lead-unique, lead-below, lead-scale, lead-shift, lead-plus, lead-unit   what has which lead
--   cancel               two functions with one lead: a multiple of the second takes the lead off the first
use Rattle.std.specs.Prelude.{◌≡◌, ◌≢◌, ◌⊎◌, ℕ, zero, suc, ◌+◌, ◌-◌, ◌<◌, ◌≤◌}
use Rattle.std.proofs.Math.Path.{refl, ap}
use Rattle.std.proofs.Common.{sym, ap₂, ◌∙◌, inl, inr, ⊎_elim, add-sub_cancel, le_trans, arith}
use Rattle.std.proofs.Math.Decide.{dec_le, ℕ_discrete}
use Rattle.algebra.specs.Field.{Field, add-zero, mul-zero, mul-ne-zero, add-self, div-mul}

-- one of two values, by a decision
unfoldable pub choose {ℓ κ} : {P : Type ℓ} {A : Type κ} → Dec P → A → A → A
choose (yes p) a b = a
choose (no n) a b = b

pub choose_yes {ℓ κ} : {P : Type ℓ} {A : Type κ} (d : Dec P) (a b : A) → P → choose d a b ≡ a
unfolding choose
choose_yes (yes p) a b h = refl
choose_yes (no n) a b h = absurd (n h)

pub choose_no {ℓ κ} : {P : Type ℓ} {A : Type κ} (d : Dec P) (a b : A) → ¬ P → choose d a b ≡ b
unfolding choose
choose_no (yes p) a b h = absurd (h p)
choose_no (no n) a b h = refl

module _ {F : Type 0} (K : Field F) where
  open K use {◌⊕◌, ◌⊗◌, 𝟘, 𝟙, inv}

  abbrev pub plus : (ℕ → F) → (ℕ → F) → ℕ → F
  plus c d k = c k ⊕ d k

  abbrev pub scale : F → (ℕ → F) → ℕ → F
  scale a c k = a ⊗ c k

  unfoldable pub shift : ℕ → (ℕ → F) → ℕ → F
  shift s c k = choose (dec_le s k) (c (k - s)) 𝟘

  pub shift-at : (s k : ℕ) (c : ℕ → F) → shift s c (k + s) ≡ c k
  unfolding shift
  shift-at s k c = choose_yes (dec_le s (k + s)) (c (k + s - s)) 𝟘 (omega arith) ∙ ap c (add-sub_cancel k s)

  pub shift-high : (s k : ℕ) (c : ℕ → F) → s ≤ k → shift s c k ≡ c (k - s)
  unfolding shift
  shift-high s k c h = choose_yes (dec_le s k) (c (k - s)) 𝟘 h

  pub shift-low : (s k : ℕ) (c : ℕ → F) → k < s → shift s c k ≡ 𝟘
  unfolding shift
  shift-low s k c h = choose_no (dec_le s k) (c (k - s)) 𝟘 (omega arith)

  pub record Below (c : ℕ → F) (n : ℕ) : Type 0 where
    pub zero_from : (k : ℕ) → n ≤ k → c k ≡ 𝟘

  pub record Lead (c : ℕ → F) (l : ℕ) : Type 0 where
    pub ne : c l ≢ 𝟘
    pub above : Below c (suc l)

  pub below-mono : {c : ℕ → F} {m n : ℕ} → m ≤ n → Below c m → Below c n
  below-mono h b = record { zero_from = λ k l. b.zero_from k (le_trans h l) }

  pub below-plus : {c d : ℕ → F} {n : ℕ} → Below c n → Below d n → Below (plus c d) n
  below-plus b e = record { zero_from = λ k l. ap₂ (λ x y. x ⊕ y) (b.zero_from k l) (e.zero_from k l) ∙ add-zero K 𝟘 }

  pub below-scale : (a : F) {c : ℕ → F} {n : ℕ} → Below c n → Below (scale a c) n
  below-scale a b = record { zero_from = λ k l. ap (λ x. a ⊗ x) (b.zero_from k l) ∙ mul-zero K a }

  pub below-shift : (s : ℕ) {c : ℕ → F} {n : ℕ} → Below c n → Below (shift s c) (n + s)
  below-shift s {c} {n} b =
      record { zero_from = λ k l. shift-high s k c (omega arith) ∙ b.zero_from (k - s) (omega arith) }

  -- zero at the bound too: one less
  pub below-pred : {c : ℕ → F} {n : ℕ} → Below c (suc n) → c n ≡ 𝟘 → Below c n
  below-pred {c} {n} b e = record { zero_from = λ k l. go k l (dec_le (suc n) k) }
    where
      go : (k : ℕ) → n ≤ k → Dec (suc n ≤ k) → c k ≡ 𝟘
      go k l (yes h) = b.zero_from k h
      go k l (no h) =
          let q : k ≡ n = omega arith in
          ap c q ∙ e

  pub zero-or-lead : {c : ℕ → F} (n : ℕ) → Below c n → ((k : ℕ) → c k ≡ 𝟘) ⊎ ((l : ℕ) × (l < n) × Lead c l)
  zero-or-lead zero b = inl (λ k. b.zero_from k (omega arith))
  zero-or-lead {c} (suc n) b = go (K.same (c n) 𝟘) (λ e. zero-or-lead n (below-pred b e))
    where
      go : Dec (c n ≡ 𝟘) → (c n ≡ 𝟘 → ((k : ℕ) → c k ≡ 𝟘) ⊎ ((l : ℕ) × (l < n) × Lead c l))
          → ((k : ℕ) → c k ≡ 𝟘) ⊎ ((l : ℕ) × (l < suc n) × Lead c l)
      go (yes e) ih = ⊎_elim (λ z. inl z) (λ t. inr (t.0, omega (arith, t.1), t.2)) (ih e)
      go (no e) ih = inr (n, omega arith, record { ne = e; above = b })

  -- a lead stands below every bound
  pub lead-below : {c : ℕ → F} {l n : ℕ} → Lead c l → Below c n → l < n
  lead-below {c} {l} {n} h b = go (dec_le n l)
    where
      go : Dec (n ≤ l) → l < n
      go (yes p) = absurd (h.ne (b.zero_from l p))
      go (no p) = omega arith

  pub lead-unique : {c : ℕ → F} {l m : ℕ} → Lead c l → Lead c m → l ≡ m
  lead-unique {c} {l} {m} p q =
      let a : l < suc m = lead-below p q.above in
      let b : m < suc l = lead-below q p.above in
      omega arith

  pub lead-scale : (a : F) {c : ℕ → F} {l : ℕ} → a ≢ 𝟘 → Lead c l → Lead (scale a c) l
  lead-scale a h p = record { ne = mul-ne-zero K a _ h p.ne; above = below-scale a p.above }

  pub lead-shift : (s : ℕ) {c : ℕ → F} {l : ℕ} → Lead c l → Lead (shift s c) (l + s)
  lead-shift s {c} {l} p =
      record { ne = λ e. p.ne (sym (shift-at s l c) ∙ e); above = below-mono (omega arith) (below-shift s p.above) }

  -- what lies below the lead does not change it
  pub lead-plus : {c d : ℕ → F} {l : ℕ} → Lead c l → Below d l → Lead (plus c d) l
  lead-plus {c} {d} {l} p b =
      record {
        ne = λ e. p.ne (sym (add-zero K (c l)) ∙ ap (λ x. c l ⊕ x) (sym (b.zero_from l (omega arith))) ∙ e);
        above = below-plus p.above (below-mono (omega arith) b);
      }

  pub cancel : {c d : ℕ → F} {l : ℕ} → Below c (suc l) → Lead d l → Below (plus c (scale (c l ⊗ inv (d l)) d)) l
  cancel {c} {d} {l} b q =
      below-pred (below-plus b (below-scale (c l ⊗ inv (d l)) q.above))
      (ap (λ x. c l ⊕ x) (div-mul K (c l) (d l) q.ne) ∙ add-self K (c l))

  unfoldable pub unit : ℕ → ℕ → F
  unit o k = choose (ℕ_discrete k o) 𝟙 𝟘

  pub unit-at : (o : ℕ) → unit o o ≡ 𝟙
  unfolding unit
  unit-at o = choose_yes (ℕ_discrete o o) 𝟙 𝟘 refl

  pub unit-off : (o k : ℕ) → k ≢ o → unit o k ≡ 𝟘
  unfolding unit
  unit-off o k h = choose_no (ℕ_discrete k o) 𝟙 𝟘 h

  pub lead-unit : (o : ℕ) → Lead (unit o) o
  lead-unit o =
      record {
        ne = λ e. K.one_ne_zero (sym (unit-at o) ∙ e);
        above = record { zero_from = λ k l. unit-off o k (λ (e : k ≡ o). absurd (omega arith)) };
      }
