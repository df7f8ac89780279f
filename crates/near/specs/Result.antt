-- Document 01's number and values for each case of the answer, for every member, any T and any places that count.
--
--   Result                     0 or the refusal's number, the message, its total and its margin to the runner-up
--   refused_result n            refused with the number n: no message, zero for the total, and no margin
--   result_for k columns tests o   the result of an answer's message among test words, if there is one
--   result_of k columns tests   the result of a list of test words: 9 if no codeword is near; else 0, the answer's message, its total cost, and its
--                              margin, if another codeword is near
use Rattle.std.specs.Prelude.{Bool, List, [], ℕ}
use Rattle.std.proofs.Math.Option.{Option, none, some}
use Rattle.refusals.specs.Refusal.{accepted, none_near}
use Rattle.family.specs.Member.{Member}
use Rattle.near.specs.Near.{message_cost, answer_of}
use Rattle.near.specs.Runner.{margin_of}

pub record Result : Type 0 where
  pub number : ℕ
  pub message : List ℕ
  pub total : ℕ
  pub margin : Option ℕ

unfoldable pub refused_result : ℕ → Result
refused_result n = record { number = n; message = []; total = 0; margin = none }

module _ (𝓜 : Member) (counts : ℕ → Bool) (reach : ℕ) where
  unfoldable pub result_for : ℕ → (ℕ → List ℕ) → List (List ℕ) → Option (List ℕ) → Result
  result_for k columns tests none = refused_result none_near
  result_for k columns tests (some m) =
      record { number = accepted; message = m; total = message_cost 𝓜 k columns m; margin = margin_of 𝓜 counts reach k columns tests m }

  unfoldable pub result_of : ℕ → (ℕ → List ℕ) → List (List ℕ) → Result
  result_of k columns tests = result_for k columns tests (answer_of 𝓜 counts reach k columns tests)
