-- The distance of the code, by the zero bound, for every member and any places that count.
--
--   codewords-apart   of the places that count, the codewords of two different messages agree in at most M, and differ in the others
--   open-apart        so of those that are not blank they differ in at least n − M − b
use Rattle.std.specs.Prelude.{Bool, ◌≡◌, List, ℕ, ◌+◌, ◌≤◌}
use Rattle.std.proofs.Common.{sym, ap, ◌∙◌, arith}
use Rattle.lists.specs.Count.{count}
use Rattle.lists.specs.Words.{Word}
use Rattle.galois.specs.BinaryField.{K}
use Rattle.hermitian.specs.ZeroBound.{distance}
use Rattle.soft.specs.Blank.{open_at, blanks_of}
use Rattle.soft.specs.BlankLaws.{open-count}
use Rattle.soft.specs.Total.{differing_in}
use Rattle.family.specs.Member.{Member, symbols, places}
use Rattle.family.specs.Encoding.{encode_of}
use Rattle.near.specs.Near.{m_of}
use Rattle.near.specs.Reach.{Workable}
use Rattle.near.specs.Codeword.{message_function, message_function-fn, message_function-order, encode-val, message_from, message_from-function, place_at, place_at-below, counted-points, differing-le}

module _ (𝓜 : Member) (counts : ℕ → Bool) {k : ℕ} (rate : Workable 𝓜 k) {m n : List ℕ} (u : Word (symbols 𝓜) k m) (v : Word (symbols 𝓜) k n)
    (other : m ≡ n → ⊥) where
  open 𝓜 use {gf, w, wide}

  functions-differ : message_function 𝓜 k m ≡ message_function 𝓜 k n → ⊥
  functions-differ e = other (sym (message_from-function 𝓜 u) ∙ ap (message_from 𝓜 k) e ∙ message_from-function 𝓜 v)

  pub codewords-apart : count (places 𝓜) counts ≤ m_of 𝓜 k + differing_in counts (places 𝓜) (encode_of 𝓜 k m) (encode_of 𝓜 k n)
  codewords-apart =
      omega (
        arith,
        distance (K gf) w wide (counted-points 𝓜 counts) (message_function-fn 𝓜 rate m) (message_function-order 𝓜 rate m)
            (message_function-fn 𝓜 rate n) (message_function-order 𝓜 rate n)
            (λ i h. encode-val 𝓜 rate m (place_at 𝓜 counts (places 𝓜) i) (place_at-below 𝓜 counts i (places 𝓜) h))
            (λ i h. encode-val 𝓜 rate n (place_at 𝓜 counts (places 𝓜) i) (place_at-below 𝓜 counts i (places 𝓜) h)) functions-differ,
        differing-le 𝓜 counts (places 𝓜) (encode_of 𝓜 k m) (encode_of 𝓜 k n),
      )

-- where the places that count are those that are not blank
module _ (𝓜 : Member) (columns : ℕ → List ℕ) {k : ℕ} (rate : Workable 𝓜 k) {m n : List ℕ} (u : Word (symbols 𝓜) k m) (v : Word (symbols 𝓜) k n)
    (other : m ≡ n → ⊥) where
  pub open-apart : places 𝓜
      ≤ m_of 𝓜 k + blanks_of (places 𝓜) columns + differing_in (open_at columns) (places 𝓜) (encode_of 𝓜 k m) (encode_of 𝓜 k n)
  open-apart = omega (arith, codewords-apart 𝓜 (open_at columns) rate u v other, open-count (places 𝓜) columns)
