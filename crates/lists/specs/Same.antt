-- Whether two lists of numbers are equal, as a test.
--
--   same l m     the test
--   same-yes, same_of   it passes exactly if they are equal
use Rattle.std.specs.Prelude.{Bool, true, false, ◌≡◌, refl, List, [], ◌∷◌, ℕ, T, eqb}
use Rattle.std.proofs.Common.{ap₂, subst, eqb→eq}
use Rattle.std.proofs.Math.Dec.{eqb_refl}
use Rattle.lists.specs.Every.{both, both_left, both_right, both-intro}

unfoldable pub same : List ℕ → List ℕ → Bool
same [] [] = true
same [] (b ∷ m) = false
same (a ∷ l) [] = false
same (a ∷ l) (b ∷ m) = both (eqb a b) (same l m)

pub same-yes : (l m : List ℕ) → T (same l m) → l ≡ m
unfolding same
same-yes [] [] t = refl
same-yes [] (b ∷ m) t = absurd t
same-yes (a ∷ l) [] t = absurd t
same-yes (a ∷ l) (b ∷ m) t =
    ap₂ (λ x y. x ∷ y) (eqb→eq a b (both_left (eqb a b) (same l m) t)) (same-yes l m (both_right (eqb a b) (same l m) t))

same_self : (l : List ℕ) → T (same l l)
unfolding same
same_self [] = tt
same_self (a ∷ l) = both-intro (eqb a a) (same l l) (eqb_refl a) (same_self l)

pub same_of : (l m : List ℕ) → l ≡ m → T (same l m)
same_of l m e = subst (λ x. T (same l x)) e (same_self l)
