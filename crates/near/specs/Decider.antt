-- What a Q through a word holds: the only message whose codeword can be within T of the word, by division. For every member, any T and any
-- places that count.
--
--   symbol_in f t       symbol t of the message of the function whose coefficients are the numbers f, by order
--   message-in         the message of these symbols is the function's
--   Decider k word c      c is a Q through the word whose weight, half its lead, and T are less than the places that count
--   limit-decides      so is every Q with its lead up to the limit, where so many wrong places can be repaired
--   word-spent         where every Q through a word leads above the limit, no codeword is within T of it
--   held-lead          where a codeword is within T of the word, its lead is that of its part with z,
--   near-odd           an odd key,
--   held-divides       and the quotient's message is that codeword's
--   node-held          a Q through the nodes decided so far whose weight, the places that are left and T are less than the places that count holds the
--                      word at the places that are decided, and what is near a test word of the tree is near it there
--   node-even          so where its lead is even, no test word of the tree has a codeword within T, and there is no answer
use Rattle.std.specs.Prelude.{Bool, true, ◌≡◌, ℕ, ◌+◌, ◌*◌, ◌/◌, ◌%◌, ◌<◌, ◌≤◌, T}
use Rattle.std.proofs.Math.Path.{sym}
use Rattle.std.proofs.Common.{ap, ◌∙◌}
use mathlib.Core.List.{List, Memᴰ}
use Rattle.std.proofs.Math.Option.{none}
use Rattle.std.proofs.Math.Nat.{mod-eq_of_lt}
use Rattle.std.proofs.Math.Decide.{dec_lt}
use native.Mathlib.Omega.{arith}
use Rattle.std.proofs.Math.ListN.{length, get_or, get_or-eq_default}
use Rattle.lists.specs.Count.{count}
use Rattle.lists.specs.Listed.{listed, listed-ext}
use Rattle.lists.specs.Words.{all_below, all_below-at}
use Rattle.lists.specs.Answers.{Found}
use Rattle.algebra.specs.Coefficients.{Lead}
use Rattle.galois.specs.BinaryField.{GF, K, value, value-to_f, one-lt}
use Rattle.hermitian.proofs.Decoding.{radius-decides}
use Rattle.hermitian.specs.Interpolant.{without_z, with_z}
use Rattle.hermitian.specs.Division.{quotient}
use Rattle.hermitian.specs.Orders.{order_of}
use Rattle.hermitian.specs.Repair.{limit}
use Rattle.soft.specs.TestWord.{expand}
use Rattle.family.specs.Member.{Member, symbols, places}
use Rattle.family.specs.Nodes.{Node, ThroughNodes}
use Rattle.near.specs.Near.{m_of, near_to, codeword_near, tests_near, answer_of}
use Rattle.near.specs.Reach.{Workable, Repairable}
use Rattle.near.specs.Codeword.{symbols_of, symbols_of-at, symbol_from, message_from}
use Rattle.near.specs.Laws.{codeword-none, none-near}
use Rattle.near.specs.Interpolated.{limit_of, nodes_of, near-exists, near-lead, near-divides}
use Rattle.near.specs.Tree.{Places, Decided, decided-through, without, count-without, decided-without, near-without}

module _ (𝓜 : Member) where
  open 𝓜 use {gf, w}

  unfoldable pub symbol_in : List ℕ → ℕ → ℕ
  symbol_in function t = get_or function (order_of w t) 0

  pub message-in : (k : ℕ) (function : List ℕ) → T (all_below (symbols 𝓜) function) → listed k (symbol_in function) ≡ message_from 𝓜 k (symbols_of 𝓜 function)
  unfolding message_from symbol_from symbol_in
  message-in k function small =
      listed-ext k (symbol_in function) (symbol_from 𝓜 (symbols_of 𝓜 function))
      (λ t h.
      sym
      (ap (value gf) (symbols_of-at 𝓜 function (order_of w t)) ∙ value-to_f gf (get_or function (order_of w t) 0) ∙ mod-eq_of_lt (below (order_of w t))))
    where
      below : (o : ℕ) → get_or function o 0 < symbols 𝓜
      below o = go (dec_lt o (length function))
        where
          go : Dec (o < length function) → get_or function o 0 < symbols 𝓜
          go (yes h) = all_below-at (symbols 𝓜) function small o h
          go (no h) = let b : length function ≤ o = omega arith in omega (arith, get_or-eq_default function 0 b, one-lt gf)

module _ (𝓜 : Member) (counts : ℕ → Bool) (reach : ℕ) where
  open 𝓜 use {gf, w, wide}

  pub record Decider (k : ℕ) (word : List ℕ) (c : ℕ → GF gf) : Type 0 where
    pub lead : ℕ
    pub through : ThroughNodes 𝓜 (m_of 𝓜 k) (nodes_of 𝓜 counts word) c
    pub leads : Lead (K gf) c lead
    pub decides : lead / 2 + reach < count (places 𝓜) counts

  pub limit-decides : (k : ℕ) {lead : ℕ} → lead ≤ limit_of 𝓜 reach k → Repairable 𝓜 counts reach k → lead / 2 + reach < count (places 𝓜) counts
  unfolding limit_of limit
  limit-decides k unspent repairs = omega (arith, radius-decides wide (m_of 𝓜 k) reach repairs)

  pub word-spent : {k : ℕ} → Workable 𝓜 k → (word : List ℕ)
      → ((c : ℕ → GF gf) (l : ℕ) → ThroughNodes 𝓜 (m_of 𝓜 k) (nodes_of 𝓜 counts word) c → Lead (K gf) c l → limit_of 𝓜 reach k < l)
      → codeword_near 𝓜 counts reach k word ≡ none
  word-spent {k} rate word above =
      codeword-none 𝓜 counts reach k word
      (λ m f. let h = near-exists 𝓜 counts reach word rate m f.passed in omega (arith, h.4, above h.0 h.1 h.2 h.3))

  module _ {k : ℕ} (rate : Workable 𝓜 k) {word : List ℕ} {c : ℕ → GF gf} (h : Decider k word c) {m : List ℕ} (f : Found (symbols 𝓜) k (near_to 𝓜 counts reach k word) m) where
    pub held-lead : (j : ℕ) × (h.lead ≡ 2 * (j + m_of 𝓜 k) + 1) × Lead (K gf) (with_z (K gf) (m_of 𝓜 k) c) j
    held-lead = near-lead 𝓜 counts reach word rate h.through h.leads h.decides m f.passed

    pub near-odd : h.lead % 2 ≡ 1
    near-odd = omega (arith, held-lead.1)

    pub held-divides : {j : ℕ} → Lead (K gf) (with_z (K gf) (m_of 𝓜 k) c) j
        → message_from 𝓜 k (quotient (K gf) w j (with_z (K gf) (m_of 𝓜 k) c) (m_of 𝓜 k) (without_z (K gf) c)) ≡ m
    held-divides lead = near-divides 𝓜 counts reach word rate h.through h.leads h.decides m lead f

-- ---- at a node of the tree

module _ (𝓜 : Member) (counts : ℕ → Bool) (reach k : ℕ) (columns : ℕ → List ℕ) {word ps : List ℕ} {ns : List Node} (D : Decided 𝓜 counts word ps ns)
    (P : Places (places 𝓜) ps) (all : (p : ℕ) → Memᴰ p ps → counts p ≡ true) where
  open 𝓜 use {gf}

  module _ {c : ℕ → GF gf} {l : ℕ} (through : ThroughNodes 𝓜 (m_of 𝓜 k) ns c) (leads : Lead (K gf) c l)
      (decides : l / 2 + length ps + reach < count (places 𝓜) counts) where
    -- at the places that are decided
    held : Decider 𝓜 (without counts ps) reach k word c
    held =
        record {
          lead = l;
          through = (decided-through 𝓜 (without counts ps) (m_of 𝓜 k) (decided-without 𝓜 counts D)).0 c through;
          leads = leads;
          decides = omega (arith, decides, count-without counts P all);
        }

    found : (t : List ℕ) → Memᴰ t (expand columns word ps) → (m : List ℕ) → Found (symbols 𝓜) k (near_to 𝓜 counts reach k t) m
        → Found (symbols 𝓜) k (near_to 𝓜 (without counts ps) reach k word) m
    found t i m f = record { word = f.word; passed = near-without 𝓜 counts reach k columns word ps t i m f.passed }

    pub node-held : Decider 𝓜 (without counts ps) reach k word c
        × ((t : List ℕ) → Memᴰ t (expand columns word ps) → (m : List ℕ) → Found (symbols 𝓜) k (near_to 𝓜 counts reach k t) m
        → Found (symbols 𝓜) k (near_to 𝓜 (without counts ps) reach k word) m)
    node-held = (held, found)

    pub node-even : Workable 𝓜 k → l % 2 ≡ 0
        → (tests_near 𝓜 counts reach k (expand columns word ps) ≡ 0) × (answer_of 𝓜 counts reach k columns (expand columns word ps) ≡ none)
    unfolding held
    node-even rate even =
        none-near 𝓜 counts reach k columns (expand columns word ps)
        (λ t i m f. omega (arith, even, near-odd 𝓜 (without counts ps) reach rate held (found t i m f)))
