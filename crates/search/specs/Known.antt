-- A known codeword: two codewords differ in at least n − M − b places that are not blank, so near one that is known there is no other. For every member.
--
--   governs_of k counts b known word ps   whether the known codeword is so close to the word, by the flags of the places that count and the number
--                          of the others: the places outside ps where it differs from the word, ps, and T are together less than n − M − b
--   governs-by             the same by its parts
--   tests_within k counts b c tests   how many test words are within T of the codeword c, as `near` has it
--   WithinOf k counts b …  what counting them below a node finds, as `near` has it
--   known_total columns known   the total of the known codeword, from the answer that it stands beside, if it is one; total_for, total-by: by that answer
--   answer_here columns known tests   what is found where tests of the test words are within T of the known codeword, and no other codeword is near: it is
--                          the answer, without a runner-up, or none is near
use Rattle.std.specs.Prelude.{Bool, cond, ◌≡◌, List, ℕ, ◌+◌, ◌-◌, eqb, ltb, length, None}
use Rattle.std.proofs.Math.Path.{sym, ap}
use Rattle.soft.specs.Blank.{flag_at}
use Rattle.soft.specs.Total.{total_of, differing_in}
use Rattle.answer.specs.declared.Answer.{Answer}
use Rattle.answer.specs.declared.Answer.TheVariants.{NoneNear, Near}
use Rattle.family.specs.Member.{Member, places}
use Rattle.near.specs.Near.{m_of, reach_of}
use Rattle.near.specs.Governing.{filled_of}
use Rattle.near.specs.Within as Within
use Rattle.search.specs.Result.{Finding}
use Rattle.search.specs.Answered.{counted, answering, missed_of}

module _ (𝓜 : Member) where
  unfoldable pub governs_of : ℕ → List ℕ → ℕ → Finding → List ℕ → List ℕ → Bool
  governs_of k counts b known word ps =
      ltb (differing_in (flag_at counts) (places 𝓜) known.codeword (filled_of (places 𝓜) known.codeword word ps) + length ps + reach_of 𝓜 k b)
      (places 𝓜 - m_of 𝓜 k - b)

  pub governs-by : (k : ℕ) (counts : List ℕ) (b : ℕ) (known : Finding) (word ps : List ℕ) (left d r m : ℕ) (agreed : List ℕ) → length ps ≡ left
      → agreed ≡ filled_of (places 𝓜) known.codeword word ps → d ≡ differing_in (flag_at counts) (places 𝓜) known.codeword agreed → r ≡ reach_of 𝓜 k b
      → m ≡ places 𝓜 - m_of 𝓜 k → ltb (d + left + r) (m - b) ≡ governs_of k counts b known word ps
  unfolding governs_of
  governs-by k counts b known word ps left d r m agreed size agreed-is d-is r-is m-is = rw (d-is, agreed-is, sym size, r-is, m-is)

  abbrev pub tests_within : ℕ → List ℕ → ℕ → List ℕ → List (List ℕ) → ℕ
  tests_within k counts b c tests = Within.tests_within 𝓜 (flag_at counts) (reach_of 𝓜 k b) c tests

  abbrev pub WithinOf : ℕ → List ℕ → ℕ → (ℕ → List ℕ) → List ℕ → List ℕ → List ℕ → ℕ → ℕ → Type 0
  WithinOf k counts b columns c word ps left n = Within.WithinOf 𝓜 (flag_at counts) (reach_of 𝓜 k b) columns c word ps left n

  -- by the answer
  unfoldable pub total_for : (ℕ → List ℕ) → List ℕ → Answer → ℕ
  total_for columns c NoneNear = total_of (places 𝓜) columns c
  total_for columns c (Near t d) = t

  unfoldable pub known_total : (ℕ → List ℕ) → Finding → ℕ
  known_total columns known = total_for columns known.codeword known.answer

  pub total-by : (columns : ℕ → List ℕ) (known : Finding) {a : Answer} → known.answer ≡ a → total_for columns known.codeword a ≡ known_total columns known
  unfolding known_total
  total-by columns known e = ap (total_for columns known.codeword) (sym e)

  unfoldable pub answer_here : (ℕ → List ℕ) → Finding → ℕ → Finding
  answer_here columns known tests = cond (eqb tests 0) (missed_of known) (counted tests (answering (Near (known_total columns known) None) known))
