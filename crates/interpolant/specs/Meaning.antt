-- Document 01's sentence on the least Q, clause by clause: 'the least Q = Q0 + Q1 z, not zero, that vanishes at every settled place taken …'
--
--   QThrough M ns q     q is a Q, zero or not: numbers below 16 at keys of terms, that vanishes at every node of ns
--   Highest M q t       t is the highest term of q, in document 01's order of terms; so q is not zero
--   IsLeastQ M ns q t   q is a Q through ns with highest term t and coefficient 1 there, and no Q through ns, of any length, has a highest term before t
--   Shown M k           k is the key of a term that has a byte: one of Q0 of order 0 to 64, or of Q1 of order 0 to 32
use Rattle.std.specs.Prelude.{◌≡◌, ◌≢◌, ◌⊎◌, ℕ, ◌≤◌, T}
use mathlib.Core.List.{List, Memᴰ}
use Rattle.lists.specs.Words.{all_below}
use Rattle.hermitian.specs.Keys.{Term, plain, times_z, key, Before, IsKey}
use Rattle.family.specs.Nodes.{Node}
use Rattle.interpolant.specs.LeastQ.{coefficient, value_at_node, top_plain, top_z}

pub record QThrough (M : ℕ) (ns : List Node) (q : List ℕ) : Type 0 where
  pub symbols : T (all_below 16 q)
  pub terms : (k : ℕ) → ¬ IsKey 4 M k → coefficient q k ≡ 0
  pub vanishes : (n : Node) → Memᴰ n ns → value_at_node M q n ≡ 0

pub record Highest (M : ℕ) (q : List ℕ) (t : Term) : Type 0 where
  pub there : coefficient q (key M t) ≢ 0
  pub none_higher : (u : Term) → Before M t u → coefficient q (key M u) ≡ 0

-- 'the least Q has the smallest highest term, with coefficient 1'
pub record IsLeastQ (M : ℕ) (ns : List Node) (q : List ℕ) (t : Term) : Type 0 where
  pub through : QThrough M ns q
  pub highest : Highest M q t
  pub one : coefficient q (key M t) ≡ 1
  pub smallest : (r : List ℕ) (u : Term) → QThrough M ns r → Highest M r u → (t ≡ u) ⊎ Before M t u

-- 'Q0 for orders 0 to 64, Q1 for 0 to 32'
pub data Shown (M k : ℕ) : Type 0 where
  of_Q0 : (o : ℕ) → o ≤ top_plain → k ≡ key M (plain o) → Shown M k
  of_Q1 : (o : ℕ) → o ≤ top_z → k ≡ key M (times_z o) → Shown M k
