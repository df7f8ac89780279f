-- Multiplication by y on bytes by order, for any field of numbers and any w: to an order comes what stands w + 1 below, and to the orders
-- that leave 1 modulo w also what stands (w + 1)(w − 2) above, since y^w is x^(w + 1) and y.
--
--   reach w                    (w + 1)(w − 2)
--   lower_at, folded_at, y_at     the two terms of y times a function, and their sum
--   lower-…, folded-…          these terms, case by case; folded-beyond: no second term where nothing stands so far above
--   coef-y                     what n bytes hold as a coefficient function
--   Lower, lower-all           a loop that stores the first term: w + 1 orders up, and zeros below
--   Folded c o out             the orders below o have both terms of y times c, the others the first
--   folded_start, folded-turn, folded-end   a loop over the orders that leave 1, before it, at each turn, after it
use Rattle.std.specs.Prelude.{Bool, ◌≢◌, ◌≡◌, List, ltb, eqb, length, get_or, set, replicate}
use Rattle.std.proofs.Math.Bool.{true, false, cond}
use Rattle.std.proofs.Math.Path.{refl, sym, ap, ap₂}
use Rattle.std.proofs.Common.{◌∙◌, div-add-mod', arith, length-set, get_or-set_same, get_or-set_other, lt-ltb, le-ltb, eq-eqb, ne_eqb}
use Prim.Native.Nat.{ℕ, suc, ◌+◌, ◌-◌, ◌*◌, ◌/◌, ◌%◌, ◌<◌, ◌≤◌}
use Rattle.std.proofs.Math.Decide.{dec_lt, dec_le, ℕ_discrete}
use Rattle.std.specs.Int.Bits.{bit_xor, xor_zero_r}
use Rattle.std.proofs.lemmas.List.{get_or-replicate, length-replicate}
use Rattle.std.proofs.Math.ListN.{get_or-eq_default}
use Rattle.lists.specs.Listed.{listed, listed-length, listed_at, listed_by}
use Rattle.lists.specs.Passed.{Passed}
use Rattle.algebra.specs.Coefficients.{shift, shift-high, shift-low}
use Rattle.galois.specs.BinaryField.{Gf, K, to_f, to_f-add, to_f-zero}
use Rattle.hermitian.specs.Present.{divided, mod_below}
use Rattle.hermitian.specs.Ring.{times_y, top, descent, top-at, top-off}
use Rattle.functions.specs.Bytes.{coef, coef-at, cut, coef-cut}

abbrev pub reach : ℕ → ℕ
reach w = suc w * (w - 2)

module _ (w : ℕ) where
  unfoldable pub lower_at : List ℕ → ℕ → ℕ
  lower_at c o = cond (ltb o (suc w)) 0 (get_or c (o - suc w) 0)

  unfoldable pub folded_at : List ℕ → ℕ → ℕ
  folded_at c o = cond (eqb (o % w) 1) (get_or c (o + reach w) 0) 0

  abbrev pub y_at : List ℕ → ℕ → ℕ
  y_at c o = bit_xor (lower_at c o) (folded_at c o)

  module _ (c : List ℕ) (o : ℕ) where
    pub lower-first : o < suc w → lower_at c o ≡ 0
    unfolding lower_at
    lower-first h = ap (λ b. cond b 0 (get_or c (o - suc w) 0)) (lt-ltb o (suc w) h)

    pub lower-next : suc w ≤ o → lower_at c o ≡ get_or c (o - suc w) 0
    unfolding lower_at
    lower-next h = ap (λ b. cond b 0 (get_or c (o - suc w) 0)) (le-ltb o (suc w) h)

    pub folded-here : o % w ≡ 1 → folded_at c o ≡ get_or c (o + reach w) 0
    unfolding folded_at
    folded-here h = ap (λ b. cond b (get_or c (o + reach w) 0) 0) (eq-eqb (o % w) 1 h)

    pub folded-off : ¬ (o % w ≡ 1) → folded_at c o ≡ 0
    unfolding folded_at
    folded-off h = ap (λ b. cond b (get_or c (o + reach w) 0) 0) (ne_eqb (o % w) 1 h)

    pub folded-beyond : length c ≤ o + reach w → 0 ≡ folded_at c o
    unfolding folded_at
    folded-beyond h = go (eqb (o % w) 1)
      where
        go : (b : Bool) → 0 ≡ cond b (get_or c (o + reach w) 0) 0
        go true = sym (get_or-eq_default c 0 h)
        go false = refl

-- ---- the orders that leave 1
module _ (w : ℕ) (wide : 2 ≤ w) where
  -- what stands so far above them has y^(w − 1),
  reach-top : (o : ℕ) → o % w ≡ 1 → suc ((o + reach w) % w) ≡ w
  reach-top o h =
      let e : o + reach w ≡ (o / w + (w - 2)) * w + (w - 1) = omega (arith, div-add-mod' o w) in
      omega (arith, (divided (o / w + (w - 2)) (w - 1) (omega arith) e).1)

  -- and above no other
  reach-off : (o : ℕ) → o % w ≢ 1 → suc ((o + reach w) % w) ≢ w
  reach-off o n = go (dec_le (o % w) 1)
    where
      go : Dec (o % w ≤ 1) → suc ((o + reach w) % w) ≢ w
      go (yes h) t =
          let z : o % w ≡ 0 = omega arith in
          let e : o + reach w ≡ (o / w + (w - 2)) * w + (w - 2) = omega (arith, div-add-mod' o w) in
          absurd (omega (arith, (divided (o / w + (w - 2)) (w - 2) (omega arith) e).1))
      go (no h) t =
          let e : o + reach w ≡ suc (o / w + (w - 2)) * w + (o % w - 2) = omega (arith, div-add-mod' o w) in
          absurd (omega (arith, (divided (suc (o / w + (w - 2))) (o % w - 2) (omega (arith, mod_below w wide o)) e).1, mod_below w wide o))

  -- the next of them is w above
  next-off : (o k : ℕ) → o % w ≡ 1 → o < k → k < o + w → k % w ≢ 1
  next-off o k h l b t = go (dec_lt (suc (k - o)) w)
    where
      go : Dec (suc (k - o) < w) → ⊥
      go (yes d) =
          let e : k ≡ o / w * w + suc (k - o) = omega (arith, div-add-mod' o w) in
          absurd (omega (arith, (divided (o / w) (suc (k - o)) d e).1))
      go (no d) =
          let e : k ≡ suc (o / w) * w + 0 = omega (arith, div-add-mod' o w) in
          absurd (omega (arith, (divided (suc (o / w)) 0 (omega arith) e).1))

-- ---- as a coefficient function
module _ (gf : Gf) (w : ℕ) (wide : 2 ≤ w) (c : List ℕ) where
  open K gf use {◌⊕◌}

  lower-is : (o : ℕ) → to_f gf (lower_at w c o) ≡ shift (K gf) (suc w) (coef gf c) o
  lower-is o = go (dec_lt o (suc w))
    where
      go : Dec (o < suc w) → to_f gf (lower_at w c o) ≡ shift (K gf) (suc w) (coef gf c) o
      go (yes h) = ap (to_f gf) (lower-first w c o h) ∙ to_f-zero gf ∙ sym (shift-low (K gf) (suc w) o (coef gf c) h)
      go (no h) =
          let l : suc w ≤ o = omega arith in
          ap (to_f gf) (lower-next w c o l) ∙ sym (coef-at gf c (o - suc w)) ∙ sym (shift-high (K gf) (suc w) o (coef gf c) l)

  folded-is : (o : ℕ) → to_f gf (folded_at w c o) ≡ top (K gf) w (coef gf c) (o + reach w)
  folded-is o = go (ℕ_discrete (o % w) 1)
    where
      go : Dec (o % w ≡ 1) → to_f gf (folded_at w c o) ≡ top (K gf) w (coef gf c) (o + reach w)
      go (yes h) =
          ap (to_f gf) (folded-here w c o h) ∙ sym (coef-at gf c (o + reach w)) ∙ sym (top-at (K gf) w (coef gf c) (o + reach w) (reach-top w wide o h))
      go (no h) =
          ap (to_f gf) (folded-off w c o h) ∙ to_f-zero gf ∙ sym (top-off (K gf) w (coef gf c) (o + reach w) (reach-off w wide o h))

  pub coef-y : (n : ℕ) → coef gf (listed n (y_at w c)) ≡ cut gf n (times_y (K gf) w (coef gf c))
  unfolding times_y descent
  coef-y n = coef-cut gf n (times_y (K gf) w (coef gf c)) (y_at w c) (λ o l. to_f-add gf _ _ ∙ ap₂ (λ x y. x ⊕ y) (lower-is o) (folded-is o))

-- ---- the loops
module _ (w width : ℕ) (c : List ℕ) where
  -- what is stored at o
  abbrev pub Lower : ℕ → ℕ → Type 0
  Lower o v = v ≡ get_or c (o - suc w) 0

  pub lower-all : (out : List ℕ) {i : ℕ} → width ≤ i → Passed 0 Lower (suc w) i (replicate width 0) out → out ≡ listed width (lower_at w c)
  lower-all out done P = listed_by 0 width out (lower_at w c) (P.as_long ∙ length-replicate width 0) (λ o h. go o h (dec_lt o (suc w)))
    where
      go : (o : ℕ) → o < width → Dec (o < suc w) → get_or out o 0 ≡ lower_at w c o
      go o h (yes l) = P.earlier o l ∙ get_or-replicate width o 0 0 h ∙ sym (lower-first w c o l)
      go o h (no l) = P.stored o (omega arith) (omega arith) ∙ sym (lower-next w c o (omega arith))

  pub record Folded (o : ℕ) (out : List ℕ) : Type 0 where
    pub as_long : length out ≡ width
    pub both : (k : ℕ) → k < width → k < o → get_or out k 0 ≡ y_at w c k
    pub first : (k : ℕ) → k < width → o ≤ k → get_or out k 0 ≡ lower_at w c k

  -- where no second term comes
  alone : (k : ℕ) → folded_at w c k ≡ 0 → lower_at w c k ≡ y_at w c k
  alone k z = sym (ap (bit_xor (lower_at w c k)) z ∙ xor_zero_r (lower_at w c k))

  module _ (wide : 2 ≤ w) where
    pub folded_start : (out : List ℕ) → out ≡ listed width (lower_at w c) → Folded 1 out
    folded_start out e =
        record {
          as_long = ap length e ∙ listed-length width (lower_at w c);
          both = λ k h l. at k h ∙ alone k (folded-off w c k (λ (q : k % w ≡ 1). absurd (omega (arith, divided {w = w} {o = k} 0 0 (omega arith) (omega arith)))));
          first = λ k h l. at k h;
        }
      where
        at : (k : ℕ) → k < width → get_or out k 0 ≡ lower_at w c k
        at k h = ap (λ l. get_or l k 0) e ∙ listed_at width k (lower_at w c) 0 h

    pub folded-turn : (out : List ℕ) (o : ℕ) → o < width → o % w ≡ 1 → Folded o out → Folded (o + w) (set out o (bit_xor (get_or out o 0) (get_or c (o + reach w) 0)))
    folded-turn out o small one F =
        record {
          as_long = length-set out o v ∙ F.as_long;
          both = λ k h l. go k h l (ℕ_discrete k o) (dec_lt k o);
          first = λ k h l. get_or-set_other out o k v 0 (λ (q : k ≡ o). absurd (omega arith)) ∙ F.first k h (omega arith);
        }
      where
        v : ℕ
        v = bit_xor (get_or out o 0) (get_or c (o + reach w) 0)

        go : (k : ℕ) → k < width → k < o + w → Dec (k ≡ o) → Dec (k < o) → get_or (set out o v) k 0 ≡ y_at w c k
        go k h l (yes q) d =
            ap (λ i. get_or (set out o v) i 0) q ∙ get_or-set_same out o v 0 (omega (arith, F.as_long))
            ∙ ap₂ bit_xor (F.first o small (omega arith)) (sym (folded-here w c o one)) ∙ ap (y_at w c) (sym q)
        go k h l (no q) (yes d) = get_or-set_other out o k v 0 q ∙ F.both k h d
        go k h l (no q) (no d) =
            get_or-set_other out o k v 0 q ∙ F.first k h (omega arith) ∙ alone k (folded-off w c k (next-off w wide o k one (omega arith) l))

  pub folded-end : (out : List ℕ) (o : ℕ) → length c ≡ width → width - reach w ≤ o → Folded o out → out ≡ listed width (y_at w c)
  folded-end out o size done F = listed_by 0 width out (y_at w c) F.as_long (λ k h. go k h (dec_lt k o))
    where
      go : (k : ℕ) → k < width → Dec (k < o) → get_or out k 0 ≡ y_at w c k
      go k h (yes l) = F.both k h l
      go k h (no l) = F.first k h (omega arith) ∙ alone k (sym (folded-beyond w c k (omega arith)))
