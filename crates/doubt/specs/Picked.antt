-- Places picked for a list, as the struct holds them.
--
--   PickedOf list r        r holds the list from the front of its array, and how long it is
--   picked-in              by its fields, as `weighing` Picked has it
--   picked_same            and so it does for an equal one
--   picked-take            the list is read back from the front, where the array has room for it
use Rattle.std.specs.Prelude.{◌≡◌, List, ℕ, ◌≤◌, length, take}
use Rattle.std.proofs.Common.{subst}
use Rattle.lists.specs.Padded.{padded}
use Rattle.soft.specs.Doubt.{most_doubt}
use Rattle.weighing.specs.Picked as In
use Rattle.doubt.specs.declared.Picked.{Picked}

pub record PickedOf (list : List ℕ) (r : Picked) : Type 0 where
  pub places : r.places ≡ padded most_doubt list
  pub count : r.count ≡ length list

pub picked-in : {list : List ℕ} {r : Picked} → PickedOf list r → In.PickedIn most_doubt list r.places r.count
picked-in D = record { places = D.places; count = D.count }

pub picked_same : {list other : List ℕ} {r : Picked} → list ≡ other → PickedOf list r → PickedOf other r
picked_same {r = r} e D = subst (λ (l : List ℕ). PickedOf l r) e D

pub picked-take : {list : List ℕ} {r : Picked} → PickedOf list r → r.count ≤ most_doubt → take r.count r.places ≡ list
picked-take D few = In.picked-take (picked-in D) few
