-- Nearness and the answer (document 01, 'Costs, doubt and test words'), for every member, for any T and for any places that count. Nothing
-- here is ever computed: all words are searched.
--
--   m_of k                     M: a message of k symbols uses the orders up to M = k + g − 1
--   blank_limit k              how many blank places leave a T: at most n − M − g − 1
--   reach_of k b               T, the reach (decoding radius), with b blank places: the largest T with 2T + b < n − M − g. With more of them than
--                             the limit there is none, and nothing is said of it
--   message_cost k columns m   the total cost of the codeword of m
--   near_to k word m           the codeword of the message m differs from the word in at most T of the places that count
--   codeword_near k word       the message whose codeword is within T of the word, or none
--   near k tests m            the codeword of m is near: within T of some test word
--   tests_near k tests         how many test words have a codeword within T
--   answer_of k columns tests  the near codeword of least total cost, equal totals to the smaller message; or none
use Rattle.std.specs.Prelude.{Bool, true, false, ◌||◌, List, [], ◌∷◌, ℕ, ◌+◌, ◌-◌, ◌/◌, leb}
use Rattle.std.proofs.Math.Option.{Option, some, none}
use Rattle.lists.specs.Count.{bit}
use Rattle.lists.specs.Words.{words}
use Rattle.lists.specs.Answers.{first_that, cheapest}
use Rattle.hermitian.specs.Present.{genus}
use Rattle.soft.specs.Total.{total_of, differing_in}
use Rattle.family.specs.Member.{Member, symbols, places}
use Rattle.family.specs.Encoding.{encode_of}

-- there is one
abbrev pub is_some : Option (List ℕ) → Bool
is_some none = false
is_some (some m) = true

module _ (𝓜 : Member) where
  unfoldable pub m_of : ℕ → ℕ
  m_of k = k + genus 𝓜.w - 1

  unfoldable pub blank_limit : ℕ → ℕ
  blank_limit k = places 𝓜 - m_of k - genus 𝓜.w - 1

  unfoldable pub reach_of : ℕ → ℕ → ℕ
  reach_of k b = (blank_limit k - b) / 2

  unfoldable pub message_cost : ℕ → (ℕ → List ℕ) → List ℕ → ℕ
  message_cost k columns m = total_of (places 𝓜) columns (encode_of 𝓜 k m)

  module _ (counts : ℕ → Bool) (reach : ℕ) where
    unfoldable pub near_to : ℕ → List ℕ → List ℕ → Bool
    near_to k word m = leb (differing_in counts (places 𝓜) (encode_of 𝓜 k m) word) reach

    unfoldable pub codeword_near : ℕ → List ℕ → Option (List ℕ)
    codeword_near k word = first_that (near_to k word) (words (symbols 𝓜) k)

    unfoldable pub near : ℕ → List (List ℕ) → List ℕ → Bool
    near k [] m = false
    near k (t ∷ tests) m = near_to k t m || near k tests m

    unfoldable pub tests_near : ℕ → List (List ℕ) → ℕ
    tests_near k [] = 0
    tests_near k (t ∷ tests) = bit (is_some (codeword_near k t)) + tests_near k tests

    unfoldable pub answer_of : ℕ → (ℕ → List ℕ) → List (List ℕ) → Option (List ℕ)
    answer_of k columns tests = cheapest (message_cost k columns) (near k tests) (words (symbols 𝓜) k)
