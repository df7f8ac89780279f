-- Places picked for a list, in an array with room for the most that there may be.
--
--   PickedIn most list places count   the array holds the list from its front, and zeros behind it; the count is how long it is
--   picked_same            and so it does for an equal one
--   picked-take            the list is read back from the front, where the array has room for it
use Rattle.std.specs.Prelude.{◌≡◌, List, ℕ, ◌≤◌, length, take}
use Rattle.std.proofs.Common.{ap₂, ◌∙◌, subst, arith}
use Rattle.lists.specs.Padded.{padded, padded-take}

pub record PickedIn (most : ℕ) (list array : List ℕ) (n : ℕ) : Type 0 where
  pub places : array ≡ padded most list
  pub count : n ≡ length list

module _ {most : ℕ} {list array : List ℕ} {n : ℕ} (D : PickedIn most list array n) where
  pub picked_same : {other : List ℕ} → list ≡ other → PickedIn most other array n
  picked_same e = subst (λ (l : List ℕ). PickedIn most l array n) e D

  pub picked-take : n ≤ most → take n array ≡ list
  picked-take few = ap₂ take D.count D.places ∙ padded-take most list (omega (arith, D.count))
