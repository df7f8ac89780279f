-- Terms of Q = Q0 + Q1 z and their keys: one number for each term, in document 01's order of terms.
--
--   Term                plain o, the monomial of order o, or times_z o, that monomial times z
--   weight M            the order, plus M with z
--   Before M            document 01's order of terms: smaller weight, or of equal weights the one without z
--   key M               twice the weight, and one more with z
--   key-injective       no two terms share a key
--   key-before, before-key   keys are ordered as the terms are
--   by_x, key-x          multiplication by x adds 2w to the key
--   IsKey w M k         k is the key of a term whose order is present
--   key-even, even-key, key-odd, odd-key   even keys are those without z, odd ones those with z
--   dec_key, is_key-x     key or not; with a key k, k + 2w is one
--   first_term w M r     the power of y in class r, r < 2w, with or without z; `first w M r` is its key
--   first-even, first-odd    which power of y it is
--   first_key, first-class, first-least   it is a key, in class r, and no key of class r is smaller
use Rattle.std.specs.Prelude.{◌≡◌, ◌⊎◌}
use Rattle.std.proofs.Math.Path.{refl, sym, ap, subst}
use Rattle.std.proofs.Common.{◌∙◌, inl, inr, div-add-mod', mul-le-mul_right}
use Prim.Native.Nat.{ℕ, suc, ◌+◌, ◌-◌, ◌*◌, ◌/◌, ◌%◌, ◌<◌, ◌≤◌}
use Rattle.std.proofs.Math.Decide.{dec_le, ℕ_discrete}
use native.Mathlib.Omega.{arith}
use Rattle.algebra.specs.Coefficients.{choose, choose_yes, choose_no}
use Rattle.hermitian.specs.Present.{Present, dec_present, divided, present-at, present-x, mod_below}

pub data Term : Type 0 where
  plain : ℕ → Term
  times_z : ℕ → Term

abbrev pub monomial_order : Term → ℕ
monomial_order (plain o) = o
monomial_order (times_z o) = o

-- 'A term's weight is its order, plus M with z'
abbrev pub weight : ℕ → Term → ℕ
weight M (plain o) = o
weight M (times_z o) = o + M

-- 'of equal weights the term without z is smaller'
abbrev pub Tie : Term → Term → Type 0
Tie (plain o) (plain p) = ⊥
Tie (plain o) (times_z p) = Unit {0}
Tie (times_z o) (plain p) = ⊥
Tie (times_z o) (times_z p) = ⊥

abbrev pub Before : ℕ → Term → Term → Type 0
Before M t u = (weight M t < weight M u) ⊎ ((weight M t ≡ weight M u) × Tie t u)

abbrev pub key : ℕ → Term → ℕ
key M (plain o) = 2 * o
key M (times_z o) = 2 * (o + M) + 1

pub key-injective : (M : ℕ) (t u : Term) → key M t ≡ key M u → t ≡ u
key-injective M (plain o) (plain p) e =
    let q : o ≡ p = omega arith in
    ap plain q
key-injective M (plain o) (times_z p) e = absurd (omega arith)
key-injective M (times_z o) (plain p) e = absurd (omega arith)
key-injective M (times_z o) (times_z p) e =
    let q : o ≡ p = omega arith in
    ap times_z q

pub before-key : (M : ℕ) (t u : Term) → Before M t u → key M t < key M u
before-key M (plain o) (plain p) (inl h) = omega arith
before-key M (plain o) (plain p) (inr h) = absurd h.1
before-key M (plain o) (times_z p) (inl h) = omega arith
before-key M (plain o) (times_z p) (inr h) = omega (arith, h.0)
before-key M (times_z o) (plain p) (inl h) = omega arith
before-key M (times_z o) (plain p) (inr h) = absurd h.1
before-key M (times_z o) (times_z p) (inl h) = omega arith
before-key M (times_z o) (times_z p) (inr h) = absurd h.1

pub key-before : (M : ℕ) (t u : Term) → key M t < key M u → Before M t u
key-before M (plain o) (plain p) h = inl (omega arith)
key-before M (plain o) (times_z p) h = go (ℕ_discrete o (p + M))
  where
    go : Dec (o ≡ p + M) → Before M (plain o) (times_z p)
    go (yes e) = inr (e, tt)
    go (no e) = inl (omega arith)
key-before M (times_z o) (plain p) h = inl (omega arith)
key-before M (times_z o) (times_z p) h = inl (omega arith)

abbrev pub by_x : ℕ → Term → Term
by_x w (plain o) = plain (o + w)
by_x w (times_z o) = times_z (o + w)

pub key-x : (w M : ℕ) (t : Term) → key M (by_x w t) ≡ key M t + 2 * w
key-x w M (plain o) = omega arith
key-x w M (times_z o) = omega arith

pub data IsKey (w M k : ℕ) : Type 0 where
  is_key : (t : Term) → Present w (monomial_order t) → k ≡ key M t → IsKey w M k

-- an even key is that of a term without z, an odd one that of a term with z
pub key-even : {w M k : ℕ} → k % 2 ≡ 0 → IsKey w M k → Present w (k / 2)
key-even {w} {M} {k} z (is_key (plain o) p e) =
    let q : o ≡ k / 2 = omega arith in
    subst (Present w) q p
key-even {w} {M} {k} z (is_key (times_z o) p e) = absurd (omega arith)

pub key-odd : {w M k : ℕ} → ¬ (k % 2 ≡ 0) → IsKey w M k → (M ≤ k / 2) × Present w (k / 2 - M)
key-odd {w} {M} {k} z (is_key (plain o) p e) = absurd (omega arith)
key-odd {w} {M} {k} z (is_key (times_z o) p e) =
    let q : o ≡ k / 2 - M = omega arith in
    (omega arith, subst (Present w) q p)

pub even-key : {w M k : ℕ} → k % 2 ≡ 0 → Present w (k / 2) → IsKey w M k
even-key {w} {M} {k} z p = is_key (plain (k / 2)) p (omega arith)

pub odd-key : {w M k : ℕ} → ¬ (k % 2 ≡ 0) → M ≤ k / 2 → Present w (k / 2 - M) → IsKey w M k
odd-key {w} {M} {k} z l p = is_key (times_z (k / 2 - M)) p (omega arith)

pub dec_key : (w M k : ℕ) → Dec (IsKey w M k)
dec_key w M k = go (ℕ_discrete (k % 2) 0) (dec_le M (k / 2)) (dec_present w (k / 2)) (dec_present w (k / 2 - M))
  where
    go : Dec (k % 2 ≡ 0) → Dec (M ≤ k / 2) → Dec (Present w (k / 2)) → Dec (Present w (k / 2 - M)) → Dec (IsKey w M k)
    go (yes z) l (yes p) q = yes (even-key z p)
    go (yes z) l (no p) q = no (λ h. p (key-even z h))
    go (no z) (no l) p q = no (λ h. l (key-odd z h).0)
    go (no z) (yes l) p (yes q) = yes (odd-key z l q)
    go (no z) (yes l) p (no q) = no (λ h. q (key-odd z h).1)

-- the power of y for which y^i z lies in class 2j + 1
unfoldable pub z_power : ℕ → ℕ → ℕ → ℕ
z_power w M j = (j + (w - M % w)) % w

-- the order of y^j is j·(w + 1)
unfoldable pub first_term : ℕ → ℕ → ℕ → Term
first_term w M r = choose (ℕ_discrete (r % 2) 0) (plain (r / 2 * suc w)) (times_z (z_power w M (r / 2) * suc w))

unfoldable pub first : ℕ → ℕ → ℕ → ℕ
first w M r = key M (first_term w M r)

module _ (w : ℕ) (two : 2 ≤ w) (M : ℕ) where
  pub is_key-x : {k : ℕ} → IsKey w M k → IsKey w M (k + 2 * w)
  is_key-x (is_key (plain o) p e) = is_key (plain (o + w)) (present-x w two o p) (omega arith)
  is_key-x (is_key (times_z o) p e) = is_key (times_z (o + w)) (present-x w two o p) (omega arith)

  -- the class of a key is the residue of its weight, doubled, and one more with z
  class-plain : (o : ℕ) → 2 * o % (2 * w) ≡ 2 * (o % w)
  class-plain o =
      let l : o % w < w = mod_below w two o in
      (divided {w = 2 * w} {o = 2 * o} (o / w) (2 * (o % w)) (omega arith) (omega (arith, div-add-mod' o w))).1

  class-z : (o : ℕ) → (2 * o + 1) % (2 * w) ≡ 2 * (o % w) + 1
  class-z o =
      let l : o % w < w = mod_below w two o in
      (divided {w = 2 * w} {o = 2 * o + 1} (o / w) (2 * (o % w) + 1) (omega arith) (omega (arith, div-add-mod' o w))).1

  -- two residues add up to that of the sum, or to w more
  residue-plus : (a b : ℕ) → (a % w + b % w ≡ (a + b) % w) ⊎ (a % w + b % w ≡ (a + b) % w + w)
  residue-plus a b = go (dec_le w (a % w + b % w))
    where
      la : a % w < w
      la = mod_below w two a

      lb : b % w < w
      lb = mod_below w two b

      go : Dec (w ≤ a % w + b % w) → (a % w + b % w ≡ (a + b) % w) ⊎ (a % w + b % w ≡ (a + b) % w + w)
      go (yes h) =
          let e = divided {w = w} {o = a + b} (suc (a / w + b / w)) (a % w + b % w - w) (omega (arith, la, lb)) (omega (arith, div-add-mod' a w, div-add-mod' b w)) in
          inr (omega (arith, e.1))
      go (no h) =
          let e = divided {w = w} {o = a + b} (a / w + b / w) (a % w + b % w) (omega arith) (omega (arith, div-add-mod' a w, div-add-mod' b w)) in
          inl (omega (arith, e.1))

  -- what is added to M's residue gives j, or w more
  z_power-plus : (j : ℕ) → j < w → (z_power w M j + M % w ≡ j) ⊎ (z_power w M j + M % w ≡ j + w)
  unfolding z_power
  z_power-plus j h = go (dec_le (M % w) j)
    where
      l : M % w < w
      l = mod_below w two M

      go : Dec (M % w ≤ j) → (z_power w M j + M % w ≡ j) ⊎ (z_power w M j + M % w ≡ j + w)
      go (yes g) =
          let e = divided {w = w} {o = j + (w - M % w)} 1 (j - M % w) (omega arith) (omega (arith, l)) in
          inl (omega (arith, e.1))
      go (no g) =
          let e = divided {w = w} {o = j + (w - M % w)} 0 (j + (w - M % w)) (omega (arith, l)) (omega arith) in
          inr (omega (arith, e.1, l))

  -- so the residues of o and of o + M give each other
  z_power-residue : (o : ℕ) → z_power w M ((o + M) % w) ≡ o % w
  unfolding z_power
  z_power-residue o = go (residue-plus o M) (z_power-plus ((o + M) % w) (mod_below w two (o + M)))
    where
      i : ℕ
      i = z_power w M ((o + M) % w)

      li : i < w
      li = mod_below w two ((o + M) % w + (w - M % w))

      lo : o % w < w
      lo = mod_below w two o

      go : (o % w + M % w ≡ (o + M) % w) ⊎ (o % w + M % w ≡ (o + M) % w + w) → (i + M % w ≡ (o + M) % w) ⊎ (i + M % w ≡ (o + M) % w + w)
          → i ≡ o % w
      go (inl a) (inl b) = omega arith
      go (inl a) (inr b) = absurd (omega (arith, li))
      go (inr a) (inl b) = absurd (omega (arith, lo))
      go (inr a) (inr b) = omega arith

  residue-z_power : (j : ℕ) → j < w → (z_power w M j * suc w + M) % w ≡ j
  residue-z_power j h = go (z_power-plus j h)
    where
      i : ℕ
      i = z_power w M j

      go : (i + M % w ≡ j) ⊎ (i + M % w ≡ j + w) → (i * suc w + M) % w ≡ j
      go (inl a) = (divided {w = w} {o = i * suc w + M} (i + M / w) j h (omega (arith, div-add-mod' M w))).1
      go (inr a) = (divided {w = w} {o = i * suc w + M} (suc (i + M / w)) j h (omega (arith, div-add-mod' M w))).1

  -- the power of y of a residue has the least present order of that residue
  power-present : (j : ℕ) → j < w → Present w (j * suc w)
  power-present j h = present-at j j h (omega arith) (omega arith)

  power-least : (o : ℕ) → Present w o → o % w * suc w ≤ o
  power-least o p = omega (arith, div-add-mod' o w, mul-le-mul_right w p)

  module _ (r : ℕ) (h : r < 2 * w) where
    pub first-even : r % 2 ≡ 0 → first_term w M r ≡ plain (r / 2 * suc w)
    unfolding first_term
    first-even z = choose_yes (ℕ_discrete (r % 2) 0) _ _ z

    pub first-odd : ¬ (r % 2 ≡ 0) → first_term w M r ≡ times_z (z_power w M (r / 2) * suc w)
    unfolding first_term
    first-odd z = choose_no (ℕ_discrete (r % 2) 0) _ _ z

    pub first_key : IsKey w M (first w M r)
    unfolding first z_power
    first_key = is_key (first_term w M r) (go (ℕ_discrete (r % 2) 0)) refl
      where
        go : Dec (r % 2 ≡ 0) → Present w (monomial_order (first_term w M r))
        go (yes z) = subst (λ t. Present w (monomial_order t)) (sym (first-even z)) (power-present (r / 2) (omega arith))
        go (no z) =
            subst (λ t. Present w (monomial_order t)) (sym (first-odd z)) (power-present (z_power w M (r / 2)) (mod_below w two _))

    pub first-class : first w M r % (2 * w) ≡ r
    unfolding first
    first-class = go (ℕ_discrete (r % 2) 0)
      where
        go : Dec (r % 2 ≡ 0) → first w M r % (2 * w) ≡ r
        go (yes z) =
            let l : r / 2 < w = omega arith in
            let e = divided {w = w} {o = r / 2 * suc w} (r / 2) (r / 2) l (omega arith) in
            ap (λ t. key M t % (2 * w)) (first-even z) ∙ class-plain (r / 2 * suc w) ∙ omega (arith, e.1)
        go (no z) =
            ap (λ t. key M t % (2 * w)) (first-odd z) ∙ class-z (z_power w M (r / 2) * suc w + M)
            ∙ ap (λ x. 2 * x + 1) (residue-z_power (r / 2) (omega arith)) ∙ omega arith

    pub first-least : (k : ℕ) → IsKey w M k → k % (2 * w) ≡ r → first w M r ≤ k
    unfolding first
    first-least k (is_key (plain o) p e) c =
        let q : r ≡ 2 * (o % w) = sym c ∙ ap (λ x. x % (2 * w)) e ∙ class-plain o in
        let j : r / 2 ≡ o % w = omega arith in
        omega (arith, ap (key M) (first-even (omega arith)), ap (λ x. x * suc w) j, power-least o p)
    first-least k (is_key (times_z o) p e) c =
        let q : r ≡ 2 * ((o + M) % w) + 1 = sym c ∙ ap (λ x. x % (2 * w)) e ∙ class-z (o + M) in
        let j : r / 2 ≡ (o + M) % w = omega arith in
        let i : z_power w M (r / 2) ≡ o % w = ap (z_power w M) j ∙ z_power-residue o in
        omega (arith, ap (key M) (first-odd (omega arith)), ap (λ x. x * suc w) i, power-least o p)
