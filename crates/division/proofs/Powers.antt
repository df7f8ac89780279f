-- The four arrays that `y_powers` makes are the powers of y in their order.
use mathlib.Core.Path.{◌≡◌, ap, ap₂, ◌∙◌}
use mathlib.Core.List.{List, [], ◌∷◌}
use Prim.Native.Nat.{ℕ}
use Rattle.lists.specs.Listed.{listed}
use Rattle.functions.specs.Dividing as Dividing
use Rattle.coefficients.specs.Bytes.{plain_width}
use Rattle.division.specs.Parts.{y_at}
use Rattle.division.specs.Dividing.{y_powers}

-- y times a function
abbrev once : List ℕ → List ℕ
once c = listed plain_width (y_at c)

pub powers-are : (c first second third : List ℕ) → first ≡ once c → second ≡ once first → third ≡ once second → c ∷ first ∷ second ∷ third ∷ [] ≡ y_powers c
unfolding listed Dividing.y_powers Dividing.y_times Dividing.y_once
powers-are c first second third e f g = go e (f ∙ ap once e) (g ∙ ap once (f ∙ ap once e))
  where
    go : {a b d : List ℕ} → first ≡ a → second ≡ b → third ≡ d → c ∷ first ∷ second ∷ third ∷ [] ≡ c ∷ a ∷ b ∷ d ∷ []
    go p q r = ap₂ (λ x y. c ∷ x ∷ y) p (ap₂ (λ x y. x ∷ y ∷ []) q r)
