-- Nearness in document 01's modem: GF(16) with w = 4, T by the rate and the blank places, and of the places those count that are not blank. What is proved of
-- these (the names in brackets) stands in proofs/.
--
--   m_of k                     M = k + 5 (m-is)
--   blank_limit k              57 − M, the most blank places (blank-limit-is); with so many T = 0 (limit-reach)
--   reach_of k b               T with b blank places, the largest with 2T + b < 64 − M − 6 (IsReach, t-is)
--   reach_in k columns         T where the blank places are those of the columns
--   near_to, near, tests_near k columns …   as the family has them, of the places that are not blank in these columns
--   message_cost, answer_of, margin_of, limit_of, nodes_of   the same
--   marked_of k columns m      the codeword of m is marked
--   Workable k                k from 6 to 52 (workable)
--   Places ps, Decided columns word ps ns   different places below 64, and the nodes of a word at all other places that are not blank
--   FewDoubtful k columns doubtful T   so few doubtful places that no two codewords are near, as the family has it
use Rattle.std.specs.Prelude.{Bool, List, ℕ, T}
use Rattle.std.proofs.Math.Option.{Option}
use Rattle.soft.specs.Column.{places}
use Rattle.soft.specs.Blank.{open_at, blanks_of}
use Rattle.family.specs.Member.{m16}
use Rattle.family.specs.Nodes.{Node}
use Rattle.near.specs.Near as Near
use Rattle.near.specs.Reach as Reach
use Rattle.near.specs.Runner as Runner
use Rattle.near.specs.Cheapest as Cheapest
use Rattle.near.specs.Interpolated as Interpolated
use Rattle.near.specs.Tree as Tree
use Rattle.near.specs.Rivals as Rivals

abbrev pub m_of : ℕ → ℕ
m_of k = Near.m_of m16 k

abbrev pub blank_limit : ℕ → ℕ
blank_limit k = Near.blank_limit m16 k

abbrev pub reach_of : ℕ → ℕ → ℕ
reach_of k b = Near.reach_of m16 k b

abbrev pub blanks_in : (ℕ → List ℕ) → ℕ
blanks_in columns = blanks_of places columns

abbrev pub reach_in : ℕ → (ℕ → List ℕ) → ℕ
reach_in k columns = Reach.reach_in m16 k columns

abbrev pub near_to : ℕ → (ℕ → List ℕ) → List ℕ → List ℕ → Bool
near_to k columns word m = Near.near_to m16 (open_at columns) (reach_in k columns) k word m

abbrev pub near : ℕ → (ℕ → List ℕ) → List (List ℕ) → List ℕ → Bool
near k columns tests m = Near.near m16 (open_at columns) (reach_in k columns) k tests m

abbrev pub tests_near : ℕ → (ℕ → List ℕ) → List (List ℕ) → ℕ
tests_near k columns tests = Near.tests_near m16 (open_at columns) (reach_in k columns) k tests

abbrev pub message_cost : ℕ → (ℕ → List ℕ) → List ℕ → ℕ
message_cost k columns m = Near.message_cost m16 k columns m

abbrev pub answer_of : ℕ → (ℕ → List ℕ) → List (List ℕ) → Option (List ℕ)
answer_of k columns tests = Near.answer_of m16 (open_at columns) (reach_in k columns) k columns tests

abbrev pub margin_of : ℕ → (ℕ → List ℕ) → List (List ℕ) → List ℕ → Option ℕ
margin_of k columns tests m = Runner.margin_of m16 (open_at columns) (reach_in k columns) k columns tests m

abbrev pub marked_of : ℕ → (ℕ → List ℕ) → List ℕ → Bool
marked_of k columns m = Cheapest.marked_of m16 k columns m

abbrev pub limit_of : ℕ → ℕ → ℕ
limit_of k b = Interpolated.limit_of m16 (reach_of k b) k

abbrev pub nodes_of : (ℕ → List ℕ) → List ℕ → List Node
nodes_of columns word = Interpolated.nodes_of m16 (open_at columns) word

abbrev pub Workable : ℕ → Type 0
Workable k = Reach.Workable m16 k

abbrev pub IsReach : ℕ → ℕ → ℕ → Type 0
IsReach k b T = Reach.Reach m16 k b T

abbrev pub Places : List ℕ → Type 0
Places ps = Tree.Places 64 ps

abbrev pub Decided : (ℕ → List ℕ) → List ℕ → List ℕ → List Node → Type 0
Decided columns word ps ns = Tree.Decided m16 (open_at columns) word ps ns

abbrev pub FewDoubtful : ℕ → (ℕ → List ℕ) → List ℕ → ℕ → Type 0
FewDoubtful k columns doubtful T = Rivals.FewDoubtful m16 k columns doubtful T
