-- A node that a row decides, for every member: with an even lead no codeword is near, and with an odd one only the one that the row holds can be.
--
--   held_by held       the codeword that a row holds, near or not, as a finding; held-sound: it is sound
--   decided-even      an even lead
--   decided-odd       an odd one: the test words are only counted
use Rattle.std.specs.Prelude.{◌≡◌, refl, List, ℕ, ◌%◌}
use Rattle.std.proofs.Common.{arith}
use Rattle.family.specs.Member.{Member}
use Rattle.soft.specs.Blank.{open_at}
use Rattle.soft.specs.TestWord.{expand}
use Rattle.near.specs.Reach.{Workable, reach_in}
use Rattle.near.specs.Decider.{node-even}
use Rattle.answer.specs.declared.Answer.TheVariants.{NoneNear}
use Rattle.values.specs.Holds.{Values}
use Rattle.search.specs.Result.{Finding}
use Rattle.search.specs.Answered.{counted, missed_of, Sound, sound_none, nearest-missed}
use Rattle.search.specs.OpenFlags.{OpenFlags}
use Rattle.search.specs.Candidate.{Candidate, CandidateOf, candidate-only}
use Rattle.search.specs.Known.{WithinOf, answer_here}
use Rattle.search.specs.Governing.{below-tests, governed-nearest}
use Rattle.search.specs.Searching.{DecidedOf}

abbrev pub held_by : Candidate → Finding
held_by held = record { answer = NoneNear; message = held.message; codeword = held.codeword; tests = 0 }

pub held-sound : {𝓜 : Member} {most k : ℕ} {columns : ℕ → List ℕ} {word : List ℕ} {row : Values 𝓜} {held : Candidate}
    → CandidateOf 𝓜 most k word row held → Sound 𝓜 most k columns (held_by held)
held-sound C = sound_none refl C.word_of C.behind C.encoded

module _ {𝓜 : Member} {k : ℕ} (rate : Workable 𝓜 k) {columns : ℕ → List ℕ} (word ps : List ℕ) (row : Values 𝓜) (lead left : ℕ) where
  pub decided-even : (known : Finding) → lead % 2 ≡ 0 → DecidedOf 𝓜 k columns word ps row lead left (missed_of known)
  unfolding missed_of counted
  decided-even known even =
      record {
        few = omega arith;
        finds = λ D P.
            nearest-missed known
            (node-even 𝓜 (open_at columns) (reach_in 𝓜 k columns) k columns D.decided P D.all_open D.through D.leads D.decides rate even).1;
      }

  pub decided-odd : {most : ℕ} {counts : List ℕ} {b : ℕ} → OpenFlags 𝓜 k columns counts b → {held : Candidate} → CandidateOf 𝓜 most k word row held
      → (tests : ℕ) → WithinOf 𝓜 k counts b columns held.codeword word ps left tests
      → DecidedOf 𝓜 k columns word ps row lead left (answer_here 𝓜 columns (held_by held) tests)
  decided-odd marked {held} C tests within =
      record {
        few = omega (arith, below-tests 𝓜 columns (held_by held) tests, within.few);
        finds = λ D P.
            governed-nearest (held-sound C) rate marked (expand columns word ps)
            (candidate-only columns C D.decided P D.all_open D.holds D.through D.leads D.decides) tests (within.count P);
      }
