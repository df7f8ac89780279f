-- A loop that fills an array from the front: what is done stands before what is left of the old array.
--
--   stored_one       the next entry is stored
--   stored-part      the next part is lent to a call, which leaves `part` in its place
use Rattle.std.specs.Prelude.{◌≡◌, List, [], ◌∷◌, ◌++◌, ℕ, suc, ◌+◌, ◌<◌, length, set, get_or, take, drop}
use Rattle.std.proofs.Common.{sym, ap, ◌∙◌, append_assoc, drop-cons, take_at, drop_at, drop-drop}
use Rattle.std.proofs.lemmas.List.{set_at}

module _ {A : Type 0} where
  pub stored_one : (d : A) (out l done : List A) (x : A) (at : ℕ) → length done ≡ at → at < length l → out ≡ done ++ drop at l
      → set out at x ≡ (done ++ (x ∷ [])) ++ drop (suc at) l
  stored_one d out l done x at n h e =
      ap (λ (r : List A). set r at x) (e ∙ ap (λ (r : List A). done ++ r) (drop-cons l at d h))
      ∙ set_at done (get_or l at d) (drop (suc at) l) x at n ∙ sym (append_assoc done (x ∷ []) (drop (suc at) l))

  pub stored-part : (out l done part : List A) (at k : ℕ) → length done ≡ at → out ≡ done ++ drop at l
      → take at out ++ (part ++ drop k (drop at out)) ≡ (done ++ part) ++ drop (at + k) l
  stored-part out l done part at k n e =
      ap (λ (r : List A). take at r ++ (part ++ drop k (drop at r))) e
      ∙ ap (λ (r : List A). r ++ (part ++ drop k (drop at (done ++ drop at l)))) (take_at done (drop at l) at n)
      ∙ ap (λ (r : List A). done ++ (part ++ drop k r)) (drop_at done (drop at l) at n)
      ∙ ap (λ (r : List A). done ++ (part ++ r)) (drop-drop k at l) ∙ sym (append_assoc done part (drop (at + k) l))
