-- A loop that passes some places, one after the other.
--
--   next-place, no-place      the next place and the others; and none
--   written-next, written-none   a word that is written at the places
--   agreeing-next, agreeing-none   how many of them agree
use Rattle.std.specs.Prelude.{Bool, ◌≡◌, List, ◌∷◌, ℕ, ◌+◌, ◌%◌, ◌<◌, ◌≤◌, length, get_or, drop, set}
use Rattle.std.proofs.Math.Path.{ap}
use Rattle.std.proofs.Common.{sym, ◌∙◌, add-one, drop-cons, drop_of_length-le}
use Rattle.lists.specs.Count.{bit}
use Rattle.near.specs.Written.{written_of, agree_at, agreeing_in}

module _ (ps : List ℕ) (i : ℕ) where
  next-place : i < length ps → drop i ps ≡ get_or ps i 0 ∷ drop (i + 1) ps
  next-place h = drop-cons ps i 0 h ∙ ap (λ m. get_or ps i 0 ∷ drop m ps) (sym (add-one i))

  module _ (n : ℕ) (symbol : ℕ → ℕ) (out : List ℕ) where
    pub written-next : i < length ps → {x : ℕ} → x ≡ symbol (get_or ps i 0 % n)
        → written_of n symbol out (drop i ps) ≡ written_of n symbol (set out (get_or ps i 0 % n) x) (drop (i + 1) ps)
    unfolding written_of
    written-next h e =
        ap (written_of n symbol out) (next-place h)
        ∙ ap (λ y. written_of n symbol (set out (get_or ps i 0 % n) y) (drop (i + 1) ps)) (sym e)

    pub written-none : length ps ≤ i → written_of n symbol out (drop i ps) ≡ out
    unfolding written_of
    written-none h = ap (written_of n symbol out) (drop_of_length-le ps h)

  module _ (n : ℕ) (counts : ℕ → Bool) (c u : List ℕ) where
    pub agreeing-next : i < length ps → {x : ℕ} → x ≡ bit (agree_at n counts c u (get_or ps i 0 % n))
        → agreeing_in n counts c u (drop i ps) ≡ x + agreeing_in n counts c u (drop (i + 1) ps)
    unfolding agreeing_in
    agreeing-next h e =
        ap (agreeing_in n counts c u) (next-place h) ∙ ap (λ y. y + agreeing_in n counts c u (drop (i + 1) ps)) (sym e)

    pub agreeing-none : length ps ≤ i → agreeing_in n counts c u (drop i ps) ≡ 0
    unfolding agreeing_in
    agreeing-none h = ap (agreeing_in n counts c u) (drop_of_length-le ps h)
