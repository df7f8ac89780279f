-- Members of a list and its entries by index.
--
--   member-at    what stands at an index is a member
--   at-member    a member stands at an index
use mathlib.Core.List.{List, [], ◌∷◌, Memᴰ}
use Rattle.std.specs.Prelude.{◌≡◌, refl, ℕ, zero, suc, ◌<◌, length, get_or}
use Rattle.std.proofs.Common.{sym, le_of_suc-le-suc, arith}

module _ {A : Type 0} where
  pub member-at : (l : List A) (d : A) (i : ℕ) → i < length l → Memᴰ (get_or l i d) l
  member-at [] d i h = absurd (omega arith)
  member-at (x ∷ xs) d zero h = Memᴰ.head refl
  member-at (x ∷ xs) d (suc i) h = Memᴰ.tail (member-at xs d i (le_of_suc-le-suc h))

  pub at-member : {a : A} {l : List A} (d : A) → Memᴰ a l → (i : ℕ) × (i < length l) × (get_or l i d ≡ a)
  at-member d (Memᴰ.head e) = (0, omega arith, sym e)
  at-member d (Memᴰ.tail m) =
      let t = at-member d m in
      (suc t.0, omega (arith, t.1), t.2)
