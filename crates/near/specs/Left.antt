-- The doubtful places left at a node, from one of them on: `drop (doubt - left) (take doubt doubtful)`, in a list of any length.
--
--   left-cons, left-none     the next place and the others; and none
--   some_left           where the number of those left is not 0
--   rest-length              so many are left
--   places-rest              the others are places too
--   split_places             the places left are the one that is decided next, and the rest
--   twice                    a node has twice the test words of a branch
use Rattle.std.specs.Prelude.{◌≡◌, List, [], ◌∷◌, ℕ, suc, ◌+◌, ◌-◌, ◌%◌, ◌^◌, ◌<◌, ◌≤◌, length, get_or, take, drop}
use Rattle.std.proofs.Common.{sym, ap, ap₂, ◌∙◌, subst, mod-eq_of_lt, pow-suc, add-one, arith, length-take, length-drop, drop_of_length-le, drop-cons, get_or-take}
use Rattle.near.specs.Tree.{Places, places_cons}

module _ (doubtful : List ℕ) (doubt i : ℕ) where
  pub left-cons : {size : ℕ} → length doubtful ≡ size → doubt ≤ size → i < doubt → drop i (take doubt doubtful) ≡ get_or doubtful i 0 ∷ drop (i + 1) (take doubt doubtful)
  left-cons long few h =
      drop-cons (take doubt doubtful) i 0 (omega (arith, length-take doubt doubtful))
      ∙ ap₂ (λ a m. a ∷ drop m (take doubt doubtful)) (get_or-take doubt doubtful i 0 h) (sym (add-one i))

  pub left-none : doubt ≤ i → drop i (take doubt doubtful) ≡ []
  left-none h =
      let b : length (take doubt doubtful) ≤ i = omega (arith, length-take doubt doubtful) in
      drop_of_length-le (take doubt doubtful) b

pub some_left : (left : ℕ) → (left ≡ 0 → ⊥) → 0 < left
some_left left h = omega arith

pub rest-length : (doubtful : List ℕ) (doubt left : ℕ) {size : ℕ} → length doubtful ≡ size → doubt ≤ size → left ≤ doubt → length (drop (doubt - left) (take doubt doubtful)) ≡ left
rest-length doubtful doubt left long few within = omega (arith, length-drop (doubt - left) (take doubt doubtful), length-take doubt doubtful)

pub places-rest : {n p : ℕ} {ps : List ℕ} → Places n (p ∷ ps) → Places n ps
places-rest (places_cons h fresh P) = P

module _ (doubtful : List ℕ) (doubt left : ℕ) {size : ℕ} (long : length doubtful ≡ size) (few : doubt ≤ size) (within : left ≤ doubt) (some_left : 0 < left) where
  abbrev x : ℕ
  x = get_or doubtful (doubt - left) 0

  abbrev rest : List ℕ
  rest = drop (doubt - (left - 1)) (take doubt doubtful)

  next_place : drop (doubt - left) (take doubt doubtful) ≡ x ∷ rest
  next_place =
      let n : doubt - left + 1 ≡ doubt - (left - 1) = omega arith in
      left-cons doubtful doubt (doubt - left) long few (omega arith) ∙ ap (λ m. x ∷ drop m (take doubt doubtful)) n

  module _ {n : ℕ} (place : ℕ) (place_is : place ≡ x % n) where
    same_place : Places n (x ∷ rest) → place ≡ x
    same_place (places_cons h fresh P) = place_is ∙ mod-eq_of_lt h

    pub split_places : Places n (drop (doubt - left) (take doubt doubtful)) → drop (doubt - left) (take doubt doubtful) ≡ place ∷ rest
    split_places P = next_place ∙ ap (λ y. y ∷ rest) (sym (same_place (subst (Places n) next_place P)))

pub twice : (left : ℕ) → 0 < left → 2 ^ left ≡ 2 ^ (left - 1) + 2 ^ (left - 1)
twice left h =
    let n : left ≡ suc (left - 1) = omega arith in
    omega (arith, ap (λ m. 2 ^ m) n, pow-suc 2 (left - 1))
