-- A node of the tree, for every member and whatever keeps the rows: spent, decided by a row, or two branches.
--
--   node-spent       every odd class leads above the limit
--   node-decided     a row of the node decides it
--   node-open        where none is left, every row up to the limit decides
--   branch-known     a branch that a known codeword governs
--   branch-node      a branch by one more node
--   node-branch      two branches
use Rattle.std.specs.Prelude.{Bool, true, ◌≡◌, List, ◌∷◌, ◌++◌, ℕ, ◌+◌, ◌-◌, ◌*◌, ◌/◌, ◌%◌, ◌<◌, ◌≤◌, length, get_or, take, drop, set}
use Rattle.std.proofs.Math.Path.{refl}
use Rattle.std.proofs.Common.{sym, ap₂, ◌∙◌, subst, arith, length-set}
use mathlib.Core.List.Memᴰ
use Rattle.lists.specs.Every.{true-T}
use Rattle.family.specs.Member.{Member, places}
use Rattle.family.specs.Nodes.{Node, node}
use Rattle.soft.specs.TestWord.{best_at, second_at, expand}
use Rattle.soft.specs.TestWordLaws.{expand-cons}
use Rattle.soft.specs.Blank.{open_at}
use Rattle.soft.specs.BlankLaws.{open-count}
use Rattle.near.specs.Near.{m_of, reach_of}
use Rattle.near.specs.Reach.{Workable, reach_in}
use Rattle.near.specs.Decider.{limit-decides}
use Rattle.near.specs.Tree.{Places, places_cons, decided-step, tree-spent}
use Rattle.near.specs.Left.{places-rest, split_places, twice}
use Rattle.values.specs.Holds.{Values, Stored}
use Rattle.search.specs.Open.{limit_in}
use Rattle.search.specs.Result.{Finding}
use Rattle.search.specs.Nearest.{Nearest}
use Rattle.search.specs.Answered.{counted, missed_of, Sound, nearest-missed}
use Rattle.search.specs.Better.{better_of, better-tests, better-joins}
use Rattle.search.specs.OpenFlags.{OpenFlags, reach-flagged, repairs-flagged}
use Rattle.search.specs.Known.{governs_of, WithinOf, answer_here}
use Rattle.search.specs.Governing.{below-tests, governs-only, governed-nearest}
use Rattle.search.specs.Searching.{Lowest, Ready, DecidedOf, SearchOf, BranchOf}

module _ {𝓜 : Member} {R L : Type 0} (valuesIn : R → ℕ → Values 𝓜) (leadIn : L → ℕ → ℕ) {k : ℕ} (rate : Workable 𝓜 k) (columns : ℕ → List ℕ) where
  open 𝓜 use {w}

  -- a node that is spent, one that a row decides, and one that has a place left
  module _ (leads : L) (left limit : ℕ) (limit_is : limit ≡ limit_in 𝓜 k columns) where
    pub node-spent : (word ps : List ℕ) (rows : R) (odd : ℕ) → Lowest (2 * w) (leadIn leads) 1 (2 * w) odd → (known : Finding) → limit < leadIn leads odd
        → SearchOf 𝓜 valuesIn leadIn k columns word ps rows leads left (missed_of known)
    unfolding missed_of counted
    node-spent word ps rows odd low known far =
        record {
          few = omega arith;
          finds = λ R P.
              nearest-missed known
              (tree-spent 𝓜 (open_at columns) (reach_in 𝓜 k columns) rate columns R.decided refl R.stored.basis (λ r h e. omega (arith, limit_is, low.lowest r h e))).1;
        }

    module _ {counts : List ℕ} {b : ℕ} (marked : OpenFlags 𝓜 k columns counts b) (r : ℕ) (r-is : r ≡ reach_of 𝓜 k b) (class : ℕ) (close : leadIn leads class ≤ limit) where
      pub node-decided : (word ps : List ℕ) (rows : R) (f : Finding) → class < 2 * w → length ps ≡ left → leadIn leads class / 2 + left + r < places 𝓜 - b
          → {row : Values 𝓜} → row ≡ valuesIn rows class → DecidedOf 𝓜 k columns word ps row (leadIn leads class) left f
          → SearchOf 𝓜 valuesIn leadIn k columns word ps rows leads left f
      node-decided word ps rows f within long decides row_is D =
          record {
            few = D.few;
            finds = λ R P.
                let low : leadIn leads class ≤ limit_in 𝓜 k columns = omega (arith, limit_is) in
                let h = R.stored.basis.held class within low in
                (subst (λ v. DecidedOf 𝓜 k columns word ps v (leadIn leads class) left f) row_is D).finds
                (record {
                  nodes = R.nodes;
                  decided = R.decided;
                  all_open = R.all_open;
                  polynomial = R.stored.polynomials class;
                  holds = R.stored.held class within low;
                  through = h.member;
                  leads = h.leads;
                  decides = omega (arith, long, decides, r-is, reach-flagged marked, marked.number, open-count (places 𝓜) columns);
                })
                P;
          }

      pub node-open : places 𝓜 - b ≤ leadIn leads class / 2 + left + r → 0 < left
      node-open undecided =
          omega (
            arith,
            r-is,
            reach-flagged marked,
            marked.number,
            open-count (places 𝓜) columns,
            limit-decides 𝓜 (open_at columns) (reach_in 𝓜 k columns) k (subst (λ n. leadIn leads class ≤ n) limit_is close) (repairs-flagged marked rate),
          )

  -- one branch: the place is decided with the symbol, by a codeword that is known or by one more node
  module _ (word : List ℕ) (place symbol : ℕ) (ps : List ℕ) (rows : R) (leads : L) (left : ℕ) (size : length word ≡ places 𝓜) where
    pub branch-known : {counts : List ℕ} {b : ℕ} → OpenFlags 𝓜 k columns counts b → {most : ℕ} (known : Finding) (tests : ℕ) (holds : Bool)
        → Sound 𝓜 most k columns known → holds ≡ governs_of 𝓜 k counts b known (set word place symbol) ps → holds ≡ true
        → WithinOf 𝓜 k counts b columns known.codeword (set word place symbol) ps left tests
        → BranchOf 𝓜 valuesIn leadIn k columns word place symbol ps rows leads left (answer_here 𝓜 columns known tests)
    branch-known marked known tests holds sound test governs counted =
        record {
          few = omega (arith, below-tests 𝓜 columns known tests, counted.few);
          finds = λ R P.
              let l : length (set word place symbol) ≡ places 𝓜 = length-set word place symbol ∙ size in
              let Q = places-rest P in
              governed-nearest sound rate marked (expand columns (set word place symbol) ps)
              (governs-only sound rate marked (set word place symbol) ps l (sym test ∙ governs) Q) tests (counted.count Q);
        }

    module _ (limit : ℕ) (limit_is : limit ≡ limit_in 𝓜 k columns) (rows' : R) (leads' : L)
        (more : (ns : List Node) → Stored 𝓜 (m_of 𝓜 k) word limit ns (valuesIn rows) (leadIn leads)
        → Stored 𝓜 (m_of 𝓜 k) (set word place symbol) limit (node place symbol ∷ ns) (valuesIn rows') (leadIn leads')) where
      next-ready : Ready 𝓜 valuesIn leadIn k columns word (place ∷ ps) rows leads → Places (places 𝓜) (place ∷ ps)
          → Ready 𝓜 valuesIn leadIn k columns (set word place symbol) ps rows' leads'
      next-ready R (places_cons h fresh P) =
          record {
            nodes = node place symbol ∷ R.nodes;
            decided = decided-step 𝓜 (open_at columns) symbol size h (true-T (open_at columns place) (R.all_open place (Memᴰ.head refl))) fresh R.decided;
            all_open = λ p m. R.all_open p (Memᴰ.tail m);
            stored =
                subst (λ l. Stored 𝓜 (m_of 𝓜 k) (set word place symbol) l (node place symbol ∷ R.nodes) (valuesIn rows') (leadIn leads')) limit_is
                (more R.nodes (subst (λ l. Stored 𝓜 (m_of 𝓜 k) word l R.nodes (valuesIn rows) (leadIn leads)) (sym limit_is) R.stored));
          }

      pub branch-node : (f : Finding) → SearchOf 𝓜 valuesIn leadIn k columns (set word place symbol) ps rows' leads' left f
          → BranchOf 𝓜 valuesIn leadIn k columns word place symbol ps rows leads left f
      branch-node f S = record { few = S.few; finds = λ R P. S.finds (next-ready R P) (places-rest P) }

-- two branches
module _ (doubtful : List ℕ) (doubt left : ℕ) {most : ℕ} (long : length doubtful ≡ most) (few : doubt ≤ most) (within : left ≤ doubt) (some_left : 0 < left) where
  abbrev x : ℕ
  x = get_or doubtful (doubt - left) 0

  abbrev rest : List ℕ
  rest = drop (doubt - (left - 1)) (take doubt doubtful)

  module _ {𝓜 : Member} {R L : Type 0} (valuesIn : R → ℕ → Values 𝓜) (leadIn : L → ℕ → ℕ) (k : ℕ) (columns : ℕ → List ℕ) (word : List ℕ) (place : ℕ)
      (place_is : place ≡ x % places 𝓜) (s o : ℕ) (s-is : s ≡ best_at columns place) (o_is : o ≡ second_at columns place) where
    pub node-branch : (rows : R) (leads : L) (a b : Finding) → BranchOf 𝓜 valuesIn leadIn k columns word place s rest rows leads (left - 1) a
        → BranchOf 𝓜 valuesIn leadIn k columns word place o rest rows leads (left - 1) b
        → SearchOf 𝓜 valuesIn leadIn k columns word (drop (doubt - left) (take doubt doubtful)) rows leads left (better_of k a b)
    node-branch rows leads a b A B =
        record {
          few = omega (arith, better-tests k a b, A.few, B.few, twice left some_left);
          finds = λ R P.
              let q = split_places doubtful doubt left long few within some_left place place_is P in
              let R' : Ready 𝓜 valuesIn leadIn k columns word (place ∷ rest) rows leads = subst (λ ps. Ready 𝓜 valuesIn leadIn k columns word ps rows leads) q R in
              let P' : Places (places 𝓜) (place ∷ rest) = subst (Places (places 𝓜)) q P in
              subst (λ ps. Nearest 𝓜 k columns (expand columns word ps) (better_of k a b)) (sym q)
              (subst (λ ts. Nearest 𝓜 k columns ts (better_of k a b))
              (sym
              (expand-cons columns word place rest
              ∙ ap₂ (λ y z. expand columns (set word place y) rest ++ expand columns (set word place z) rest) (sym s-is) (sym o_is)))
              (better-joins (A.finds R' P') (B.finds R' P')));
        }
