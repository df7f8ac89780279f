-- The lead of a function of so many bytes by order, and the search for it from the top order down, for any field of numbers.
--
--   LeadFound width c r   r is the lead of c, an order below the width; 0 where c is zero
--   all-below     so many bytes are zero from that order on
--   one_lower     a zero at the next order below
--   lead-here     the first coefficient from the top that is not zero is the lead
--   lead-nowhere  where all are zero there is no lead, and 0 stands for it
use Rattle.std.specs.Prelude.{◌≢◌, ◌≡◌, refl, List, ℕ, suc, ◌-◌, ◌%◌, ◌<◌, ◌≤◌, length, get_or}
use Rattle.std.proofs.Common.{sym, ap, ◌∙◌, subst, arith}
use Rattle.algebra.specs.Coefficients.{Below, Lead, below-pred, lead-unique, lead-below}
use Rattle.galois.specs.BinaryField.{Gf, K, size, to_f, to_f-mod, to_f-zero, to_f-ne-zero}
use Rattle.functions.specs.Bytes.{coef, coef-at, coef-beyond}

module _ (gf : Gf) (width : ℕ) (c : List ℕ) where
  open K gf use {𝟘}

  pub record LeadFound (r : ℕ) : Type 0 where
    pub within : r < width
    pub found : (l : ℕ) → Lead (K gf) (coef gf c) l → l ≡ r
    pub none : ((o : ℕ) → coef gf c o ≡ 𝟘) → r ≡ 0

  pub all-below : length c ≡ width → Below (K gf) (coef gf c) width
  all-below h = record { zero_from = λ k l. coef-beyond gf c k (omega arith) }

  module _ (n : ℕ) (b : Below (K gf) (coef gf c) n) where
    upto : 0 < n → Below (K gf) (coef gf c) (suc (n - 1))
    upto h =
        let e : n ≡ suc (n - 1) = omega arith in
        subst (Below (K gf) (coef gf c)) e b

    pub one_lower : 0 < n → get_or c (n - 1) 0 % size gf ≡ 0 → Below (K gf) (coef gf c) (n - 1)
    one_lower h e = below-pred (K gf) (upto h) (coef-at gf c (n - 1) ∙ sym (to_f-mod gf _) ∙ ap (to_f gf) e ∙ to_f-zero gf)

    pub lead-here : 0 < n → n ≤ width → get_or c (n - 1) 0 % size gf ≢ 0 → LeadFound (n - 1)
    lead-here h s e =
        record {
          within = omega arith;
          found = λ l p. lead-unique (K gf) p (record { ne = λ z. to_f-ne-zero gf _ e (sym (coef-at gf c (n - 1)) ∙ z); above = upto h });
          none = λ z. absurd (to_f-ne-zero gf _ e (sym (coef-at gf c (n - 1)) ∙ z (n - 1)));
        }

    pub lead-nowhere : 0 < width → n ≤ 0 → LeadFound 0
    lead-nowhere s h = record { within = s; found = λ l p. absurd (omega (arith, lead-below (K gf) p b)); none = λ z. refl }
