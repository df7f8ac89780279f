-- Document 01's number and values for each case of the answer, and what a search returns, for every member and any longest rate.
--
--   Finding                    what a search has found, by its fields: an answer, the message and the codeword that stand beside it, and how many test
--                              words have a codeword within T. The message stands in the first k of as many symbols as the longest rate has
--   result_in k answer message  the result of an answer with the message beside it: 9 where none is near; else 0, the first k symbols, the total
--                              and the margin
--   total_is answer             the total, if a codeword is near; total-near: where one is; total-none: where none is, there is none
--   nothing_found               none near, and zeros beside it
--   found_with k r n            what a search returns for a result and a count of test words: nothing found for the number 9; else the answer with the
--                              result's total and margin, its message with zeros behind it, and its codeword
--   found_of k columns tests    that for the result of a list of test words, and how many of these have a codeword within T
--   found-same                 two findings are equal by their parts
use Rattle.std.specs.Prelude.{◌≡◌, cond, List, ℕ, eqb, take, replicate}
use Rattle.std.proofs.Common.{ap, arith}
use Rattle.std.proofs.Math.Option.{Option, none, some}
use Rattle.refusals.specs.Refusal.{accepted, none_near}
use Rattle.lists.specs.Padded.{padded}
use Rattle.family.specs.Encoding.{encode_of}
use Rattle.answer.specs.Margin.{Margin, margin_is, margin_from}
use Rattle.family.specs.Member.{Member, places}
use Rattle.search.specs.Open.{tests_near, result_for, result_of}
use Rattle.near.specs.Result.{Result, refused_result}
use Rattle.answer.specs.declared.Answer.{Answer}
use Rattle.answer.specs.declared.Answer.TheVariants.{NoneNear, Near}

pub record Finding : Type 0 where
  pub answer : Answer
  pub message : List ℕ
  pub codeword : List ℕ
  pub tests : ℕ

unfoldable pub result_in : ℕ → Answer → List ℕ → Result
result_in k NoneNear message = refused_result none_near
result_in k (Near t d) message = record { number = accepted; message = take k message; total = t; margin = margin_is d }

unfoldable pub total_is : Answer → Option ℕ
total_is NoneNear = none
total_is (Near t d) = some t

pub total-near : {a : Answer} {t : ℕ} {d : Margin} → a ≡ Near t d → total_is a ≡ some t
unfolding total_is
total-near e = ap total_is e

pub total-none : {a : Answer} {t : ℕ} → a ≡ NoneNear → total_is a ≡ some t → ⊥
unfolding total_is
total-none e h = let z : ◌≡◌ {A = ℕ} 0 1 = cc in omega arith

pub found-same : (f g : Finding) → f.answer ≡ g.answer → f.message ≡ g.message → f.codeword ≡ g.codeword → f.tests ≡ g.tests → f ≡ g
found-same f g a m c n = λ i. record { answer = a i; message = m i; codeword = c i; tests = n i }

module _ (𝓜 : Member) (most : ℕ) where
  unfoldable pub nothing_found : Finding
  nothing_found = record { answer = NoneNear; message = replicate most 0; codeword = replicate (places 𝓜) 0; tests = 0 }

  -- the enum's case of a result is that of its number
  unfoldable pub found_with : ℕ → Result → ℕ → Finding
  found_with k r n =
      cond (eqb r.number none_near) nothing_found
      (record { answer = Near r.total (margin_from r.margin); message = padded most r.message; codeword = encode_of 𝓜 k r.message; tests = n })

  abbrev pub found_for : ℕ → (ℕ → List ℕ) → List (List ℕ) → Option (List ℕ) → Finding
  found_for k columns tests o = found_with k (result_for 𝓜 k columns tests o) (tests_near 𝓜 k columns tests)

  unfoldable pub found_of : ℕ → (ℕ → List ℕ) → List (List ℕ) → Finding
  found_of k columns tests = found_with k (result_of 𝓜 k columns tests) (tests_near 𝓜 k columns tests)
