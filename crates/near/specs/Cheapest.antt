-- The mark says what it is for: of all codewords, near or not, a marked one is the cheapest. For every member and every rate that has a T.
--
--   marked_of k columns m   the codeword of m is marked, where others differ from it in at least n − M places
--   marked-cheapest        then no codeword costs less: of columns with a cost for each symbol, blank ones among them, and costs at the ceiling summed
--                          as they stand
use Rattle.std.specs.Prelude.{Bool, ◌≡◌, List, ℕ, ◌-◌, ◌<◌, ◌≤◌, T, length}
use Rattle.std.proofs.Common.{subst, le_refl, arith}
use Rattle.std.proofs.Math.Decide.{dec_le}
use Rattle.lists.specs.Words.{Word}
use Rattle.galois.specs.BinaryField.{one-lt}
use Rattle.soft.specs.Mark.{is_marked}
use Rattle.soft.specs.MarkLaws.{marked-least}
use Rattle.soft.specs.Total.{everywhere}
use Rattle.family.specs.Member.{Member, symbols, places}
use Rattle.family.specs.Encoding.{encode_of}
use Rattle.family.specs.Evaluation.{encode-length, encode-at}
use Rattle.near.specs.Near.{m_of, message_cost}
use Rattle.near.specs.Reach.{Workable, count-everywhere}
use Rattle.near.specs.Distance.{codewords-apart}

module _ (𝓜 : Member) where
  unfoldable pub marked_of : ℕ → (ℕ → List ℕ) → List ℕ → Bool
  marked_of k columns m = is_marked (places 𝓜) (places 𝓜 - m_of 𝓜 k) columns (encode_of 𝓜 k m)

  pub marked-cheapest : {k : ℕ} → Workable 𝓜 k → (columns : ℕ → List ℕ) → ((p : ℕ) → p < places 𝓜 → length (columns p) ≡ symbols 𝓜)
      → {m n : List ℕ} → Word (symbols 𝓜) k m → Word (symbols 𝓜) k n → T (marked_of k columns m)
      → message_cost 𝓜 k columns m ≤ message_cost 𝓜 k columns n
  unfolding marked_of message_cost
  marked-cheapest {k} rate columns full {m} {n} u v t = go (dec_le (message_cost 𝓜 k columns m) (message_cost 𝓜 k columns n))
    where
      least : (m ≡ n → ⊥) → message_cost 𝓜 k columns m ≤ message_cost 𝓜 k columns n
      least other =
          marked-least (places 𝓜) (places 𝓜 - m_of 𝓜 k) columns (encode_of 𝓜 k m) (encode_of 𝓜 k n)
          (λ p l. omega (arith, full p l, one-lt 𝓜.gf))
          (λ p l. omega (arith, full p l, encode-at 𝓜 k n p l))
          (omega (arith, encode-length 𝓜 k m))
          (omega (arith, encode-length 𝓜 k n))
          (omega (arith, codewords-apart 𝓜 everywhere rate u v other, count-everywhere (places 𝓜)))
          t

      -- a dearer message is another one
      go : Dec (message_cost 𝓜 k columns m ≤ message_cost 𝓜 k columns n) → message_cost 𝓜 k columns m ≤ message_cost 𝓜 k columns n
      go (yes h) = h
      go (no h) = least (λ e. h (subst (λ x. message_cost 𝓜 k columns m ≤ message_cost 𝓜 k columns x) e (le_refl (message_cost 𝓜 k columns m))))
