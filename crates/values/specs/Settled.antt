-- The settled places that are taken, and their nodes; no member is named.
--
--   taken word p flag ns   the nodes ns after the place p: its node stands before them if the flag is 1
--   settled word flags n   the nodes of the places below n with flag 1, each with the word's symbol; settled-nil, settled-suc
--   settled-member      the node of a flagged place is listed
--   FlaggedNode n q     q is the node of a flagged place below n
--   settled_only        so is every node that is listed
use Rattle.std.specs.Prelude.{Bool, true, false, cond, ◌≡◌, refl, ℕ, zero, suc, ◌<◌, eqb, get_or}
use Rattle.std.proofs.Common.{sym, ap, ◌∙◌, subst, ⊎_elim, eq-or-lt_of_le, le_of_suc-le-suc, arith, eqb-true, eq-eqb}
use mathlib.Core.List.Memᴰ
use mathlib.Core.List.{List, [], ◌∷◌, Memᴰ}
use Rattle.family.specs.Nodes.{Node, node}

abbrev pub taken : List ℕ → ℕ → ℕ → List Node → List Node
taken word p flag ns = cond (eqb flag 1) (node p (get_or word p 0) ∷ ns) ns

unfoldable pub settled : List ℕ → List ℕ → ℕ → List Node
settled word flags zero = []
settled word flags (suc p) = taken word p (get_or flags p 0) (settled word flags p)

pub settled-nil : (word flags : List ℕ) → settled word flags 0 ≡ []
unfolding settled
settled-nil word flags = refl

pub settled-suc : (word flags : List ℕ) (p : ℕ) → settled word flags (suc p) ≡ taken word p (get_or flags p 0) (settled word flags p)
unfolding settled
settled-suc word flags p = refl

cond_more : (b : Bool) (n : Node) {x : Node} {ns : List Node} → Memᴰ x ns → Memᴰ x (cond b (n ∷ ns) ns)
cond_more true n m = Memᴰ.tail m
cond_more false n m = m

module _ (word flags : List ℕ) where
  pub settled-member : (n p : ℕ) → p < n → get_or flags p 0 ≡ 1 → Memᴰ (node p (get_or word p 0)) (settled word flags n)
  settled-member zero p h f = absurd (omega arith)
  settled-member (suc n) p h f =
      subst (Memᴰ (node p (get_or word p 0))) (sym (settled-suc word flags n))
      (⊎_elim last (λ l. cond_more (eqb (get_or flags n 0) 1) (node n (get_or word n 0)) (settled-member n p l f)) (eq-or-lt_of_le (le_of_suc-le-suc h)))
    where
      last : p ≡ n → Memᴰ (node p (get_or word p 0)) (cond (eqb (get_or flags n 0) 1) (node n (get_or word n 0) ∷ settled word flags n) (settled word flags n))
      last e =
          subst (λ b. Memᴰ (node p (get_or word p 0)) (cond b (node n (get_or word n 0) ∷ settled word flags n) (settled word flags n)))
          (sym (eq-eqb (get_or flags n 0) 1 (ap (λ k. get_or flags k 0) (sym e) ∙ f))) (Memᴰ.head (ap (λ k. node k (get_or word k 0)) e))

  -- the place of a node of the list
  pub record FlaggedNode (n : ℕ) (q : Node) : Type 0 where
    pub at : ℕ
    pub below : at < n
    pub flag : get_or flags at 0 ≡ 1
    pub is : q ≡ node at (get_or word at 0)

  pub settled_only : (n : ℕ) (q : Node) → Memᴰ q (settled word flags n) → FlaggedNode n q
  settled_only zero q m = absurd (Memᴰ.not-nil (subst (Memᴰ q) (settled-nil word flags) m))
  settled_only (suc n) q m = go (eqb (get_or flags n 0) 1) refl (settled_only n q) (subst (Memᴰ q) (settled-suc word flags n) m)
    where
      more : FlaggedNode n q → FlaggedNode (suc n) q
      more t = record { at = t.at; below = omega (arith, t.below); flag = t.flag; is = t.is }

      go : (b : Bool) → eqb (get_or flags n 0) 1 ≡ b → (Memᴰ q (settled word flags n) → FlaggedNode n q)
          → Memᴰ q (cond b (node n (get_or word n 0) ∷ settled word flags n) (settled word flags n)) → FlaggedNode (suc n) q
      go true e ih m =
          ⊎_elim (λ s. record { at = n; below = omega arith; flag = eqb-true (get_or flags n 0) 1 e; is = s }) (λ t. more (ih t))
          (Memᴰ.cases_cons m)
      go false e ih m = more (ih m)
