-- Nearness over the places that are not blank, for every member, as `near` has it: T is by the rate and the blank places of the columns.
--
--   blanks_in columns            how many places are blank
--   tests_near, answer_of, margin_of k columns …   how many test words have a codeword within T, the answer, and its margin
--   result_for, result_of k columns …   document 01's result of an answer's message and of a list of test words
--   limit_in k columns           the limit of keys
--   Decided columns word ps ns  the nodes of a word at all places that are not blank, but for the places ps
--   Only k columns m t          no message but m has its codeword within T of t
use Rattle.std.specs.Prelude.{List, ℕ}
use Rattle.std.proofs.Math.Option.{Option}
use Rattle.soft.specs.Blank.{open_at, blanks_of}
use Rattle.family.specs.Member.{Member, places}
use Rattle.family.specs.Nodes.{Node}
use Rattle.near.specs.Near as Near
use Rattle.near.specs.Reach.{reach_in}
use Rattle.near.specs.Runner as Runner
use Rattle.near.specs.Result.{Result}
use Rattle.near.specs.Result as Results
use Rattle.near.specs.Interpolated.{limit_of}
use Rattle.near.specs.Tree as Tree
use Rattle.near.specs.Governing as Governing

module _ (𝓜 : Member) where
  abbrev pub blanks_in : (ℕ → List ℕ) → ℕ
  blanks_in columns = blanks_of (places 𝓜) columns

  abbrev pub tests_near : ℕ → (ℕ → List ℕ) → List (List ℕ) → ℕ
  tests_near k columns tests = Near.tests_near 𝓜 (open_at columns) (reach_in 𝓜 k columns) k tests

  abbrev pub answer_of : ℕ → (ℕ → List ℕ) → List (List ℕ) → Option (List ℕ)
  answer_of k columns tests = Near.answer_of 𝓜 (open_at columns) (reach_in 𝓜 k columns) k columns tests

  abbrev pub margin_of : ℕ → (ℕ → List ℕ) → List (List ℕ) → List ℕ → Option ℕ
  margin_of k columns tests m = Runner.margin_of 𝓜 (open_at columns) (reach_in 𝓜 k columns) k columns tests m

  abbrev pub result_for : ℕ → (ℕ → List ℕ) → List (List ℕ) → Option (List ℕ) → Result
  result_for k columns tests o = Results.result_for 𝓜 (open_at columns) (reach_in 𝓜 k columns) k columns tests o

  abbrev pub result_of : ℕ → (ℕ → List ℕ) → List (List ℕ) → Result
  result_of k columns tests = Results.result_of 𝓜 (open_at columns) (reach_in 𝓜 k columns) k columns tests

  abbrev pub limit_in : ℕ → (ℕ → List ℕ) → ℕ
  limit_in k columns = limit_of 𝓜 (reach_in 𝓜 k columns) k

  abbrev pub Decided : (ℕ → List ℕ) → List ℕ → List ℕ → List Node → Type 0
  Decided columns word ps ns = Tree.Decided 𝓜 (open_at columns) word ps ns

  abbrev pub Only : ℕ → (ℕ → List ℕ) → List ℕ → List ℕ → Type 0
  Only k columns m t = Governing.Only 𝓜 (open_at columns) (reach_in 𝓜 k columns) k m t
