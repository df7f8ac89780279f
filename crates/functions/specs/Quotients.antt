-- The loop of the division: what holds at each turn, for any field of numbers, any w and any width.
--
--   DividedSoFar      the coefficients of the quotient from `left` on are found, and the rest is q0 without their multiples of q1
--   Dividing q0 q1 powers m lead by left rest out   so it is where q1 has a lead that leaves room
--   dividing-start, dividing-turn, dividing-end     before the loop, at each turn, after it
use Rattle.std.specs.Prelude.{◌≡◌, refl, List, [], ℕ, zero, suc, ◌+◌, ◌-◌, ◌*◌, ◌/◌, ◌%◌, ◌<◌, ◌≤◌, length, get_or, set, replicate}
use Rattle.std.proofs.Math.Path.{sym, ap, fun_ext}
use Rattle.std.proofs.Common.{ap₂, ◌∙◌, subst, arith, length-set, get_or-set_same, get_or-set_other}
use Rattle.std.proofs.Math.Decide.{dec_le, ℕ_discrete}
use Rattle.std.proofs.lemmas.List.{length-replicate}
use Rattle.lists.specs.Words.{all_below-from}
use Rattle.algebra.specs.Coefficients.{choose_yes, choose_no, plus, scale, shift}
use Rattle.galois.specs.BinaryField.{Gf, GF, K, size, inverse, to_f, to_f-zero, one-lt}
use Rattle.hermitian.specs.Division.{quotient_at, divide_step, remainder, remainder-nil, remainder-suc, quotient}
use Rattle.functions.specs.Bytes.{coef, coef-at, cut}
use Rattle.functions.specs.Leading.{LeadFound}
use Rattle.functions.specs.Dividing.{next_at, y_powers, y_powers-at, y_times-nil, Roomy, Divided, next-is, step_is, next-lt}

module _ (gf : Gf) (w width : ℕ) where
  -- what is found so far, where q1 has a lead and there is room
  pub record DividedSoFar (q0 q1 : List ℕ) (m l left : ℕ) (rest out : List ℕ) : Type 0 where
    pub remains : coef gf rest ≡ remainder (K gf) w l (coef gf q1) m (coef gf q0) (suc m - left)
    pub quotients : (o : ℕ) → left ≤ o → o ≤ m
        → to_f gf (get_or out o 0) ≡ quotient_at (K gf) w l (coef gf q1) o (remainder (K gf) w l (coef gf q1) m (coef gf q0) (m - o))

  pub record Dividing (q0 q1 : List ℕ) (powers : List (List ℕ)) (m lead by left : ℕ) (rest out : List ℕ) : Type 0 where
    pub leads : LeadFound gf width q1 lead
    pub inverts : by ≡ inverse gf (get_or q1 lead 0)
    pub multiplies : powers ≡ y_powers w width q1
    pub inside : m < width
    pub from : left ≤ m + 1
    pub rest_size : length rest ≡ width
    pub out_size : length out ≡ width
    pub symbols : (o : ℕ) → get_or out o 0 < size gf
    pub none : (o : ℕ) → m < o → get_or out o 0 ≡ 0
    pub found : (l : ℕ) → Roomy gf width q1 l m → DividedSoFar q0 q1 m l left rest out

-- zeros stand in a blank list
blank-at : (n o : ℕ) → ◌≡◌ {A = ℕ} (get_or (replicate n 0) o 0) 0
blank-at zero o = refl
blank-at (suc n) zero = refl
blank-at (suc n) (suc o) = blank-at n o

module _ (gf : Gf) (w width : ℕ) (wide : 2 ≤ w) where
  open K gf use {𝟘}

  start : (q0 q1 : List ℕ) (powers : List (List ℕ)) (m lead by : ℕ) → m < width → length q0 ≡ width → LeadFound gf width q1 lead → by ≡ inverse gf (get_or q1 lead 0)
      → powers ≡ y_powers w width q1 → Dividing gf w width q0 q1 powers m lead by (m + 1) q0 (replicate width 0)
  start q0 q1 powers m lead by h n f b p =
      record {
        leads = f;
        inverts = b;
        multiplies = p;
        inside = h;
        from = omega arith;
        rest_size = n;
        out_size = length-replicate width 0;
        symbols = λ o. omega (arith, one-lt gf, blank-at width o);
        none = λ o l. blank-at width o;
        found = λ l room. record {
          remains =
              let e : 0 ≡ suc m - (m + 1) = omega arith in
              sym (ap (remainder (K gf) w l (coef gf q1) m (coef gf q0)) (sym e) ∙ remainder-nil (K gf) w l (coef gf q1) m (coef gf q0));
          quotients = λ o a c. absurd (omega arith);
        };
      }

  -- the loop knows q1 as the first of the powers
  first : {q1 : List ℕ} {powers : List (List ℕ)} → powers ≡ y_powers w width q1 → get_or powers 0 [] ≡ q1
  first {q1} p = ap (λ x. get_or x 0 []) p ∙ y_powers-at w width q1 0 (omega arith) ∙ y_times-nil w width q1

  pub dividing-start : (q0 q1 : List ℕ) (powers : List (List ℕ)) (m lead by : ℕ) → m < width → length q0 ≡ width → LeadFound gf width q1 lead
      → by ≡ inverse gf (get_or q1 lead 0) → powers ≡ y_powers w width q1 → Dividing gf w width q0 (get_or powers 0 []) powers m lead by (m + 1) q0 (replicate width 0)
  dividing-start q0 q1 powers m lead by h n f b p =
      subst (λ c. Dividing gf w width q0 c powers m lead by (m + 1) q0 (replicate width 0)) (sym (first p)) (start q0 q1 powers m lead by h n f b p)

  module _ {q0 q1 : List ℕ} {powers : List (List ℕ)} {m lead by left : ℕ} {rest out : List ℕ} (d : Dividing gf w width q0 q1 powers m lead by left rest out) where
    pub dividing-turn : (a up : ℕ) (next : List ℕ) → 0 < left → a ≡ next_at gf w width rest (lead + (left - 1)) (left - 1) by → up ≡ ((left - 1) / w - (left - 1) % w) * w
        → length next ≡ width → coef gf next ≡ cut gf width (plus (K gf) (coef gf rest) (scale (K gf) (to_f gf a) (shift (K gf) up (coef gf (get_or powers ((left - 1) % w) [])))))
        → Dividing gf w width q0 q1 powers m lead by (left - 1) next (set out (left - 1) a)
    dividing-turn a up next pos ea eu n en =
        record {
          leads = d.leads;
          inverts = d.inverts;
          multiplies = d.multiplies;
          inside = d.inside;
          from = omega (arith, d.from);
          rest_size = n;
          out_size = length-set out o a ∙ d.out_size;
          symbols = λ k. below k (ℕ_discrete k o);
          none = λ k h. get_or-set_other out o k a 0 (λ (e : k ≡ o). absurd (omega (arith, d.from))) ∙ d.none k h;
          found = λ l room. later l room;
        }
      where
        o : ℕ
        o = left - 1

        same : get_or (set out o a) o 0 ≡ a
        same = get_or-set_same out o a 0 (omega (arith, d.from, d.inside, d.out_size))

        below : (k : ℕ) → Dec (k ≡ o) → get_or (set out o a) k 0 < size gf
        below k (yes e) =
            subst (λ x. x < size gf) (sym (ap (λ j. get_or (set out o a) j 0) e ∙ same ∙ ea)) (next-lt gf w width rest (lead + o) o by)
        below k (no e) = subst (λ x. x < size gf) (sym (get_or-set_other out o k a 0 e)) (d.symbols k)

        later : (l : ℕ) → Roomy gf width q1 l m → DividedSoFar gf w width q0 q1 m l o next (set out o a)
        later l room =
            record {
              remains =
                  en ∙ ap₂ (λ u p. cut gf width (plus (K gf) (coef gf rest) (scale (K gf) (to_f gf a) (shift (K gf) u (coef gf (get_or p (o % w) [])))))) eu d.multiplies
                  ∙ step_is gf w width wide q1 l m room o small rest a R d.rest_size before value
                  ∙ ap (λ k. divide_step (K gf) w l (coef gf q1) k R) back
                  ∙ sym (remainder-suc (K gf) w l (coef gf q1) m (coef gf q0) (m - o))
                  ∙ ap (remainder (K gf) w l (coef gf q1) m (coef gf q0)) onward;
              quotients = λ k low high. at k low high (ℕ_discrete k o);
            }
          where
            small : o ≤ m
            small = omega (arith, d.from)

            R : ℕ → GF gf
            R = remainder (K gf) w l (coef gf q1) m (coef gf q0) (m - o)

            back : o ≡ m - (m - o)
            back = omega (arith, small)

            onward : suc (m - o) ≡ suc m - o
            onward = omega (arith, small)

            before : coef gf rest ≡ R
            before =
                let e : suc m - left ≡ m - o = omega arith in
                (d.found l room).remains ∙ ap (remainder (K gf) w l (coef gf q1) m (coef gf q0)) e

            value : to_f gf a ≡ quotient_at (K gf) w l (coef gf q1) o (coef gf rest)
            value =
                ap (to_f gf) (ea ∙ ap₂ (λ x y. next_at gf w width rest (x + o) o y) (sym (d.leads.found l room.leads)) (d.inverts ∙ ap (λ x. inverse gf (get_or q1 x 0)) (sym (d.leads.found l room.leads))))
                ∙ next-is gf w width wide q1 l m room o small rest

            at : (k : ℕ) → o ≤ k → k ≤ m → Dec (k ≡ o)
                → to_f gf (get_or (set out o a) k 0) ≡ quotient_at (K gf) w l (coef gf q1) k (remainder (K gf) w l (coef gf q1) m (coef gf q0) (m - k))
            at k low high (yes e) =
                subst (λ j. to_f gf (get_or (set out o a) j 0) ≡ quotient_at (K gf) w l (coef gf q1) j (remainder (K gf) w l (coef gf q1) m (coef gf q0) (m - j))) (sym e)
                (ap (to_f gf) same ∙ value ∙ ap (quotient_at (K gf) w l (coef gf q1) o) before)
            at k low high (no e) = ap (to_f gf) (get_or-set_other out o k a 0 e) ∙ (d.found l room).quotients k (omega arith) high

    end : left ≤ 0 → Divided gf w width q0 q1 m out
    unfolding quotient
    end z = record { symbols = all_below-from (size gf) out (λ i h. d.symbols i); exact = λ l room. fun_ext (λ o. go l room o (dec_le o m)) }
      where
        go : (l : ℕ) → Roomy gf width q1 l m → (o : ℕ) → Dec (o ≤ m) → coef gf out o ≡ quotient (K gf) w l (coef gf q1) m (coef gf q0) o
        go l room o (yes h) =
            coef-at gf out o ∙ (d.found l room).quotients o (omega arith) h ∙ sym (choose_yes (dec_le o m) _ 𝟘 h)
        go l room o (no h) =
            coef-at gf out o ∙ ap (to_f gf) (d.none o (omega arith)) ∙ to_f-zero gf ∙ sym (choose_no (dec_le o m) _ 𝟘 h)

  pub dividing-end : {q0 : List ℕ} (q1 : List ℕ) {powers : List (List ℕ)} {m lead by left : ℕ} {rest out : List ℕ}
      → Dividing gf w width q0 (get_or powers 0 []) powers m lead by left rest out → powers ≡ y_powers w width q1 → left ≤ 0 → Divided gf w width q0 q1 m out
  dividing-end {q0} q1 {powers} {m} {out = out} d p z = subst (λ c. Divided gf w width q0 c m out) (first p) (end d z)
