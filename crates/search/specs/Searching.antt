-- What a node of the tree knows, and what it finds, for every member and whatever keeps the rows and their leads.
--
--   Lowest n leads parity m r   r is one of n classes with this parity, and of the first m of them none has a smaller lead
--   lowest-turn            one more class with the parity
--   Ready k columns word ps rows leads   the rows have, by the word, the values of a basis up to the limit through the nodes decided so far: those of
--                          the word at the places that are not blank, but for the places ps, of which none is blank
--   Decides k columns word ps row lead   the row has the values of a Q through these nodes, with this lead: its weight, which is half the lead, the
--                          places ps and T are less than the places that are not blank
--   DecidedOf …            what is found by such a row
--   SearchOf …             what a search of the tree finds
--   BranchOf …             what a branch of a node finds
use Rattle.std.specs.Prelude.{true, ◌≡◌, ◌⊎◌, ℕ, ◌+◌, ◌/◌, ◌%◌, ◌^◌, ◌<◌, ◌≤◌, length, set}
use Rattle.std.proofs.Common.{sym, ap, ◌∙◌, subst, inl, inr, le_trans, arith}
use mathlib.Core.List.{List, ◌∷◌, Memᴰ}
use Rattle.std.proofs.Math.Decide.{ℕ_discrete}
use Rattle.lists.specs.Count.{count}
use Rattle.algebra.specs.Coefficients.{Lead}
use Rattle.galois.specs.BinaryField.{GF, K}
use Rattle.family.specs.Member.{Member, places}
use Rattle.family.specs.Nodes.{Node, ThroughNodes}
use Rattle.soft.specs.Blank.{open_at}
use Rattle.soft.specs.TestWord.{expand}
use Rattle.near.specs.Near.{m_of}
use Rattle.near.specs.Reach.{reach_in}
use Rattle.near.specs.Tree.{Places}
use Rattle.values.specs.Holds.{Values, Holds, Stored}
use Rattle.search.specs.Open.{limit_in, Decided}
use Rattle.search.specs.Result.{Finding}
use Rattle.search.specs.Nearest.{Nearest}

pub record Lowest (classes : ℕ) (leads : ℕ → ℕ) (parity n r : ℕ) : Type 0 where
  pub within : r < classes
  pub alike : r % 2 ≡ parity
  pub lowest : (q : ℕ) → q < n → q % 2 ≡ parity → leads r ≤ leads q

pub lowest-turn : {classes : ℕ} (leads : ℕ → ℕ) (parity q r p : ℕ) → q % 2 ≡ parity → p < classes → leads p ≤ leads r → leads p ≤ leads q
    → (p ≡ r) ⊎ (p ≡ q) → Lowest classes leads parity q r → Lowest classes leads parity (q + 2) p
lowest-turn leads parity q r p at h a b one l = record { within = h; alike = same one; lowest = λ i j e. go i j e (ℕ_discrete i q) }
  where
    same : (p ≡ r) ⊎ (p ≡ q) → p % 2 ≡ parity
    same (inl e) = ap (λ x. x % 2) e ∙ l.alike
    same (inr e) = ap (λ x. x % 2) e ∙ at

    go : (i : ℕ) → i < q + 2 → i % 2 ≡ parity → Dec (i ≡ q) → leads p ≤ leads i
    go i j e (yes s) = subst (λ x. leads p ≤ leads x) (sym s) b
    go i j e (no n) = le_trans a (l.lowest i (omega arith) e)

module _ (𝓜 : Member) where
  open 𝓜 use {gf}

  pub record Decides (k : ℕ) (columns : ℕ → List ℕ) (word ps : List ℕ) (row : Values 𝓜) (lead : ℕ) : Type 0 where
    pub nodes : List Node
    pub decided : Decided 𝓜 columns word ps nodes
    pub all_open : (p : ℕ) → Memᴰ p ps → open_at columns p ≡ true
    pub polynomial : ℕ → GF gf
    pub holds : Holds 𝓜 (m_of 𝓜 k) word row polynomial
    pub through : ThroughNodes 𝓜 (m_of 𝓜 k) nodes polynomial
    pub leads : Lead (K gf) polynomial lead
    pub decides : lead / 2 + length ps + reach_in 𝓜 k columns < count (places 𝓜) (open_at columns)

  pub record DecidedOf (k : ℕ) (columns : ℕ → List ℕ) (word ps : List ℕ) (row : Values 𝓜) (lead left : ℕ) (f : Finding) : Type 0 where
    pub few : f.tests ≤ 2 ^ left
    pub finds : Decides k columns word ps row lead → Places (places 𝓜) ps → Nearest 𝓜 k columns (expand columns word ps) f

  module _ {R L : Type 0} (valuesIn : R → ℕ → Values 𝓜) (leadIn : L → ℕ → ℕ) where
    pub record Ready (k : ℕ) (columns : ℕ → List ℕ) (word ps : List ℕ) (rows : R) (leads : L) : Type 0 where
      pub nodes : List Node
      pub decided : Decided 𝓜 columns word ps nodes
      pub all_open : (p : ℕ) → Memᴰ p ps → open_at columns p ≡ true
      pub stored : Stored 𝓜 (m_of 𝓜 k) word (limit_in 𝓜 k columns) nodes (valuesIn rows) (leadIn leads)

    pub record SearchOf (k : ℕ) (columns : ℕ → List ℕ) (word ps : List ℕ) (rows : R) (leads : L) (left : ℕ) (f : Finding) : Type 0 where
      pub few : f.tests ≤ 2 ^ left
      pub finds : Ready k columns word ps rows leads → Places (places 𝓜) ps → Nearest 𝓜 k columns (expand columns word ps) f

    pub record BranchOf (k : ℕ) (columns : ℕ → List ℕ) (word : List ℕ) (place symbol : ℕ) (ps : List ℕ) (rows : R) (leads : L) (left : ℕ) (f : Finding) : Type 0 where
      pub few : f.tests ≤ 2 ^ left
      pub finds : Ready k columns word (place ∷ ps) rows leads → Places (places 𝓜) (place ∷ ps)
          → Nearest 𝓜 k columns (expand columns (set word place symbol) ps) f
