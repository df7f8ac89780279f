-- The candidate of a row: what it holds of the words that it passes through. For every member, any longest rate and whatever keeps the row.
--
--   Candidate                  a message and its codeword, by their fields
--   CandidateOf k word row r   r is a message of k symbols, with zeros behind it, and its codeword; and, where the row has by this word the values of a Q,
--                              the only one that can be within T of a word that Q holds, for any T and any places that count
--   candidate-made             what division gives is such a candidate
--   ShownOf k function r       r is the message of k symbols in the coefficients of a function, with zeros behind it, and its codeword
--   shown-made                 so it is where the coefficients are symbols
--   candidate-only             so at a node of the tree, of every test word below it: where the row passes through the nodes decided so far, and its
--                              weight, the places that are left and T are less than the places that are not blank
use Rattle.std.specs.Prelude.{Bool, true, ◌≡◌, ℕ, ◌+◌, ◌*◌, ◌/◌, ◌<◌, ◌≤◌, T, length, take}
use Rattle.std.proofs.Common.{sym, ap, ◌∙◌, subst, arith}
use mathlib.Core.List.{List, Memᴰ}
use Rattle.lists.specs.Count.{count, count-le}
use Rattle.lists.specs.Listed.{listed}
use Rattle.lists.specs.Padded.{padded}
use Rattle.lists.specs.Words.{Word, all_below}
use Rattle.lists.specs.Answers.{Found}
use Rattle.algebra.specs.Coefficients.{Below, Lead, below-mono}
use Rattle.galois.specs.BinaryField.{GF, K}
use Rattle.hermitian.specs.Interpolant.{without_z, with_z}
use Rattle.hermitian.specs.Division.{quotient}
use Rattle.family.specs.Member.{Member, places, symbols}
use Rattle.family.specs.Encoding.{encode_of}
use Rattle.family.specs.Nodes.{Node, ThroughNodes}
use Rattle.soft.specs.Blank.{open_at}
use Rattle.soft.specs.TestWord.{expand}
use Rattle.near.specs.Near.{m_of, near_to}
use Rattle.near.specs.Reach.{Workable, reach_in}
use Rattle.near.specs.Codeword.{symbols_of, message_from, message_from-word}
use Rattle.near.specs.Tree.{Places, without}
use Rattle.near.specs.Decider.{symbol_in, Decider, message-in, held-lead, held-divides, node-held}
use Rattle.values.specs.Holds.{Values, Holds}
use Rattle.search.specs.Open.{Decided, Only}
use Rattle.search.specs.Message.{message-front}

pub record Candidate : Type 0 where
  pub message : List ℕ
  pub codeword : List ℕ

module _ (𝓜 : Member) (most k : ℕ) where
  open 𝓜 use {gf, w}

  pub record CandidateOf (word : List ℕ) (row : Values 𝓜) (r : Candidate) : Type 0 where
    pub word_of : Word (symbols 𝓜) k (take k r.message)
    pub behind : r.message ≡ padded most (take k r.message)
    pub encoded : r.codeword ≡ encode_of 𝓜 k (take k r.message)
    pub only : (Q : ℕ → GF gf) → Holds 𝓜 (m_of 𝓜 k) word row Q → (counts : ℕ → Bool) (reach : ℕ) (near-word : List ℕ)
        → Decider 𝓜 counts reach k near-word Q → (m : List ℕ) → Found (symbols 𝓜) k (near_to 𝓜 counts reach k near-word) m → m ≡ take k r.message

  pub record ShownOf (function : List ℕ) (r : Candidate) : Type 0 where
    pub word_of : Word (symbols 𝓜) k (take k r.message)
    pub behind : r.message ≡ padded most (take k r.message)
    pub encoded : r.codeword ≡ encode_of 𝓜 k (take k r.message)
    pub shows : take k r.message ≡ listed k (symbol_in 𝓜 function)

  -- the function of a Q that a row holds: Q0 divided by Q1, where that goes as far as the terms fit
  abbrev pub Divides : List ℕ → Values 𝓜 → List ℕ → Type 0
  Divides word row function =
      (Q : ℕ → GF gf) → Holds 𝓜 (m_of 𝓜 k) word row Q → Below (K gf) Q (2 * places 𝓜) → (j : ℕ) → Lead (K gf) (with_z (K gf) (m_of 𝓜 k) Q) j
      → j + m_of 𝓜 k < places 𝓜
      → symbols_of 𝓜 function ≡ quotient (K gf) w j (with_z (K gf) (m_of 𝓜 k) Q) (m_of 𝓜 k) (without_z (K gf) Q)

  module _ (small : k ≤ most) (function : List ℕ) (all_small : T (all_below (symbols 𝓜) function)) (r : Candidate)
      (message-is : r.message ≡ padded most (listed k (symbol_in 𝓜 function))) (encoded : r.codeword ≡ encode_of 𝓜 k (take k r.message)) where
    front : take k r.message ≡ listed k (symbol_in 𝓜 function)
    front = message-front (symbol_in 𝓜 function) small message-is

    whole : take k r.message ≡ message_from 𝓜 k (symbols_of 𝓜 function)
    whole = front ∙ message-in 𝓜 k function all_small

    is_word : Word (symbols 𝓜) k (take k r.message)
    is_word = subst (Word (symbols 𝓜) k) (sym whole) (message_from-word 𝓜 k (symbols_of 𝓜 function))

    is-padded : r.message ≡ padded most (take k r.message)
    is-padded = message-is ∙ ap (padded most) (sym front)

    pub shown-made : ShownOf function r
    shown-made = record { word_of = is_word; behind = is-padded; encoded = encoded; shows = front }

    pub candidate-made : Workable 𝓜 k → (word : List ℕ) (row : Values 𝓜) → Divides word row function → CandidateOf word row r
    candidate-made rate word row divides =
        record {
          word_of = is_word;
          behind = is-padded;
          encoded = encoded;
          only = λ Q holds counts reach near-word h m f.
              let j = held-lead 𝓜 counts reach rate h f in
              let fits : j.0 + m_of 𝓜 k < places 𝓜 = omega (arith, j.1, h.decides, count-le (places 𝓜) counts) in
              -- the lead of Q leaves its parts below the number of places
              let low : Below (K gf) Q (2 * places 𝓜) = below-mono (K gf) (omega (arith, h.decides, count-le (places 𝓜) counts)) h.leads.above in
              sym (whole ∙ ap (message_from 𝓜 k) (divides Q holds low j.0 j.2 fits) ∙ held-divides 𝓜 counts reach rate h f j.2);
        }

module _ {𝓜 : Member} {most k : ℕ} {row : Values 𝓜} {r : Candidate} (columns : ℕ → List ℕ) {word ps : List ℕ} (C : CandidateOf 𝓜 most k word row r)
    {ns : List Node} (D : Decided 𝓜 columns word ps ns) (P : Places (places 𝓜) ps) (all_open : (p : ℕ) → Memᴰ p ps → open_at columns p ≡ true) {l : ℕ}
    {Q : ℕ → GF 𝓜.gf} (holds : Holds 𝓜 (m_of 𝓜 k) word row Q) (through : ThroughNodes 𝓜 (m_of 𝓜 k) ns Q) (leads : Lead (K 𝓜.gf) Q l)
    (decides : l / 2 + length ps + reach_in 𝓜 k columns < count (places 𝓜) (open_at columns)) where
  pub candidate-only : (t : List ℕ) → Memᴰ t (expand columns word ps) → Only 𝓜 k columns (take k r.message) t
  candidate-only t i m f =
      let N = node-held 𝓜 (open_at columns) (reach_in 𝓜 k columns) k columns D P all_open through leads decides in
      C.only Q holds (without (open_at columns) ps) (reach_in 𝓜 k columns) word N.0 m (N.1 t i m f)
