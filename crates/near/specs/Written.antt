-- A word that is written at some places, one after the other, and how many of these places have the symbol of another word.
--
--   written_of n symbol word ps    the word with the symbols that a rule gives at the places ps, each taken below n
--   written-turn, written-end     a loop that writes one place after the other
--   written-cons, written-length  one place after the other; no place more
--   written-set                   what the word had at another place stays there
--   agreeing_in n counts c u ps    at how many of the places ps, of those that count, the word u has the symbol of c
--   agreeing-turn, agreeing-end   a loop that counts them
--   agreeing-cons, agreeing-le, agreeing-set   one place after the other; no more than ps has; whatever u has at another place
use Rattle.std.specs.Prelude.{Bool, ◌&&◌, ◌≡◌, ◌≢◌, ℕ, ◌+◌, ◌%◌, ◌<◌, ◌≤◌, eqb, length, get_or, take, drop, set}
use Rattle.std.proofs.Math.Path.{refl, ap}
use Rattle.std.proofs.Common.{sym, ap₂, ◌∙◌, mod-eq_of_lt, get_or-set_other}
use mathlib.Core.List.{List, [], ◌∷◌, Memᴰ}
use native.Mathlib.Omega.{arith}
use Rattle.std.proofs.Math.ListN.{length-set}
use Rattle.std.proofs.lemmas.List.{set_comm}
use Rattle.lists.specs.Count.{bit, bit_le}
use Rattle.near.specs.Tree.{Places, places_nil, places_cons}
use Rattle.near.specs.Left.{left-cons, left-none}

-- a place that is not among some places is not their first
besides : {n p q : ℕ} {ps : List ℕ} → q < n → ¬ Memᴰ p (q ∷ ps) → p ≢ q % n
besides h out e = out (Memᴰ.head (e ∙ mod-eq_of_lt h))

module _ (n : ℕ) (symbol : ℕ → ℕ) where
  unfoldable pub written_of : List ℕ → List ℕ → List ℕ
  written_of word [] = word
  written_of word (p ∷ ps) = written_of (set word (p % n) (symbol (p % n))) ps

  module _ (doubtful out : List ℕ) (doubt i : ℕ) where
    pub written-turn : {size : ℕ} → length doubtful ≡ size → doubt ≤ size → i < doubt → {x : ℕ} → x ≡ symbol (get_or doubtful i 0 % n)
        → written_of out (drop i (take doubt doubtful)) ≡ written_of (set out (get_or doubtful i 0 % n) x) (drop (i + 1) (take doubt doubtful))
    unfolding written_of
    written-turn long few h e =
        ap (written_of out) (left-cons doubtful doubt i long few h)
        ∙ ap (λ y. written_of (set out (get_or doubtful i 0 % n) y) (drop (i + 1) (take doubt doubtful))) (sym e)

    pub written-end : doubt ≤ i → written_of out (drop i (take doubt doubtful)) ≡ out
    unfolding written_of
    written-end h = ap (written_of out) (left-none doubtful doubt i h)

  pub written-nil : (word : List ℕ) → written_of word [] ≡ word
  unfolding written_of
  written-nil word = refl

  pub written-cons : (word ps : List ℕ) {p : ℕ} → p < n → written_of word (p ∷ ps) ≡ written_of (set word p (symbol p)) ps
  unfolding written_of
  written-cons word ps h = ap (λ q. written_of (set word q (symbol q)) ps) (mod-eq_of_lt h)

  pub written-length : (word ps : List ℕ) → length (written_of word ps) ≡ length word
  unfolding written_of
  written-length word [] = refl
  written-length word (p ∷ ps) = written-length (set word (p % n) (symbol (p % n))) ps ∙ length-set word (p % n) (symbol (p % n))

  pub written-set : {ps : List ℕ} → Places n ps → (p x : ℕ) → ¬ Memᴰ p ps → (word : List ℕ) → written_of (set word p x) ps ≡ set (written_of word ps) p x
  unfolding written_of
  written-set places_nil p x out word = refl
  written-set (places_cons {p = q} {ps = ps} h fresh P) p x out word =
      ap (λ w. written_of w ps) (set_comm word p (q % n) x (symbol (q % n)) (besides h out))
      ∙ written-set P p x (λ m. out (Memᴰ.tail m)) (set word (q % n) (symbol (q % n)))

module _ (n : ℕ) (counts : ℕ → Bool) (c u : List ℕ) where
  -- the place p counts, and both have the same symbol there
  abbrev pub agree_at : ℕ → Bool
  agree_at p = counts p && eqb (get_or c p 0) (get_or u p 0)

  unfoldable pub agreeing_in : List ℕ → ℕ
  agreeing_in [] = 0
  agreeing_in (p ∷ ps) = bit (agree_at (p % n)) + agreeing_in ps

  module _ (doubtful : List ℕ) (doubt i : ℕ) where
    pub agreeing-turn : {size : ℕ} → length doubtful ≡ size → doubt ≤ size → i < doubt → {x : ℕ} → x ≡ bit (agree_at (get_or doubtful i 0 % n))
        → agreeing_in (drop i (take doubt doubtful)) ≡ x + agreeing_in (drop (i + 1) (take doubt doubtful))
    unfolding agreeing_in
    agreeing-turn long few h e =
        ap agreeing_in (left-cons doubtful doubt i long few h) ∙ ap (λ y. y + agreeing_in (drop (i + 1) (take doubt doubtful))) (sym e)

    pub agreeing-end : doubt ≤ i → agreeing_in (drop i (take doubt doubtful)) ≡ 0
    unfolding agreeing_in
    agreeing-end h = ap agreeing_in (left-none doubtful doubt i h)

  pub agreeing-nil : agreeing_in [] ≡ 0
  unfolding agreeing_in
  agreeing-nil = refl

  pub agreeing-cons : (ps : List ℕ) {p : ℕ} → p < n → agreeing_in (p ∷ ps) ≡ bit (agree_at p) + agreeing_in ps
  unfolding agreeing_in
  agreeing-cons ps h = ap (λ q. bit (agree_at q) + agreeing_in ps) (mod-eq_of_lt h)

  pub agreeing-le : (ps : List ℕ) → agreeing_in ps ≤ length ps
  unfolding agreeing_in
  agreeing-le [] = omega arith
  agreeing-le (p ∷ ps) = omega (arith, bit_le (agree_at (p % n)), agreeing-le ps)

pub agreeing-set : (n : ℕ) (counts : ℕ → Bool) (c u : List ℕ) {ps : List ℕ} → Places n ps → (p x : ℕ) → ¬ Memᴰ p ps
    → agreeing_in n counts c (set u p x) ps ≡ agreeing_in n counts c u ps
unfolding agreeing_in
agreeing-set n counts c u places_nil p x out = refl
agreeing-set n counts c u (places_cons {p = q} {ps = ps} h fresh P) p x out =
    ap₂ (λ s k. bit (counts (q % n) && eqb (get_or c (q % n) 0) s) + k)
    (get_or-set_other u p (q % n) x 0 (λ e. besides h out (sym e)))
    (agreeing-set n counts c u P p x (λ m. out (Memᴰ.tail m)))
