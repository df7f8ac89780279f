-- A node's rows in planes: one of them, and all of them with one node more.
--
--   row_at, one_more   the rows
--   behind ps          the places behind the first; behind-length: one less
--   node-branches      a node with two branches, by the places that it has still to decide
use mathlib.Core.Path.{◌≡◌, refl, sym, ap, ◌∙◌, subst}
use mathlib.Core.List.{List, [], ◌∷◌}
use Prim.Native.Nat.{ℕ, ◌-◌, ◌%◌, ◌<◌}
use native.Mathlib.Omega.{arith}
use lib.Bits.{bit_xor}
use lib.ListN.{length, get_or, set, take, drop}
use Rattle.std.proofs.Common.{subst₂, length-drop, length-take, take_all}
use Rattle.basis.specs.Step.{row_values}
use Rattle.interpolation.specs.Extending.{Stored, Extends}
use Rattle.parts.specs.Parts.{values_of}
use Rattle.family.specs.Nodes.{Node, node}
use Rattle.soft.specs.Column.{places, best_of, second_of}
use Rattle.basis.specs.Choice.{lead_at}
use Rattle.answers.specs.declared.Finding.{Finding}
use Rattle.answers.specs.Result.{fields_of}
use Rattle.answers.specs.Better.{better_of}
use Rattle.search.specs.Descending.{node-branch}
use Rattle.tree.specs.Searching.{SearchOf, BranchOf}

pub row_at : (rows : List (List ℕ)) (r : ℕ) → values_of (get_or rows r []) ≡ row_values rows r
unfolding values_of row_values
row_at rows r = refl

pub one_more : (M L place symbol : ℕ) (word : List ℕ) (rows : List (List ℕ)) (leads : List ℕ) (rows' : List (List ℕ)) (leads' : List ℕ) → length word ≡ places
    → place < places → Extends L place (bit_xor (get_or word place 0) symbol) rows leads rows' leads' → (ns : List Node) → Stored M word L ns rows leads
    → Stored M (set word place symbol) L (node place symbol ∷ ns) rows' leads'
one_more M L place symbol word rows leads rows' leads' size inside E ns S = E.stored M word ns symbol (omega (arith, size)) refl S

-- a list by its length
module _ (ps : List ℕ) where
  all-of : drop (length ps - length ps) (take (length ps) ps) ≡ ps
  all-of =
      let z : length ps - length ps ≡ 0 = omega arith in
      ap (λ n. drop n (take (length ps) ps)) z ∙ take_all (length ps) ps (omega arith)

  first-of : get_or ps (length ps - length ps) 0 ≡ get_or ps 0 0
  first-of = let z : length ps - length ps ≡ 0 = omega arith in ap (λ n. get_or ps n 0) z

  -- the places behind the first, as a part that is lent
  abbrev pub behind : List ℕ
  behind = take (length ps - 1) (drop 1 ps)

  pub behind-length : length behind ≡ length ps - 1
  behind-length = omega (arith, length-take (length ps - 1) (drop 1 ps), length-drop 1 ps)

  rest-of : 0 < length ps → drop (length ps - (length ps - 1)) (take (length ps) ps) ≡ behind
  rest-of some =
      let z : length ps - (length ps - 1) ≡ 1 = omega arith in
      ap (λ n. drop n (take (length ps) ps)) z ∙ ap (drop 1) (take_all (length ps) ps (omega arith))
      ∙ sym (take_all (length ps - 1) (drop 1 ps) (omega (arith, length-drop 1 ps)))

module _ (ps : List ℕ) (some : 0 < length ps) (k : ℕ) (columns : ℕ → List ℕ) (word : List ℕ) (place : ℕ) (place_is : place ≡ get_or ps 0 0 % places) (s o : ℕ)
    (s-is : s ≡ best_of (columns place)) (o_is : o ≡ second_of (columns place)) (rows : List (List ℕ)) (leads : List ℕ) (a b : Finding) where
  branch-here : (symbol : ℕ) (f : Finding) → BranchOf k columns word place symbol (behind ps) rows leads (length (behind ps)) f
      → BranchOf k columns word place symbol (drop (length ps - (length ps - 1)) (take (length ps) ps)) rows leads (length ps - 1) f
  branch-here symbol f B = subst₂ (λ rest left. BranchOf k columns word place symbol rest rows leads left f) (sym (rest-of ps some)) (behind-length ps) B

  pub node-branches : BranchOf k columns word place s (behind ps) rows leads (length (behind ps)) a
      → BranchOf k columns word place o (behind ps) rows leads (length (behind ps)) b
      → SearchOf k columns word ps rows leads (length ps) (better_of k a b)
  node-branches A B =
      subst (λ l. SearchOf k columns word l rows leads (length ps) (better_of k a b)) (all-of ps)
      (node-branch ps (length ps) (length ps) refl (omega arith) (omega arith) some row_values lead_at k columns word place
      (place_is ∙ ap (λ x. x % places) (sym (first-of ps))) s o s-is o_is rows leads (fields_of a) (fields_of b) (branch-here s a A) (branch-here o b B))
