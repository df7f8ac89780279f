-- What is found among test words, for every member.
--
--   Nearest k columns tests f          how many test words have a codeword within T, and document 01's result of them
--   nearest-nobody, nearest-somebody   what it says of the near codewords, by the answer found
--   nearest-margin                     and of the runner-up
--   nearest-none, nearest-some         what is to be known for it, by the answer found
use Rattle.std.specs.Prelude.{◌≡◌, List, ℕ}
use Rattle.std.proofs.Math.Path.{refl, sym, ap, ap₂}
use Rattle.std.proofs.Common.{◌∙◌, arith}
use Rattle.std.proofs.Math.Option.{Option, some, none}
use Rattle.std.proofs.Math.ListN.{take}
use Rattle.refusals.specs.Refusal.{accepted, none_near}
use Rattle.answer.specs.Margin.{Margin, margin_is}
use Rattle.near.specs.Near.{message_cost}
use Rattle.near.specs.Reach.{reach_in}
use Rattle.search.specs.Open.{tests_near, answer_of, margin_of, result_for, result_of}
use Rattle.near.specs.Laws.{tests-answerless}
use Rattle.answer.specs.declared.Answer.{Answer}
use Rattle.answer.specs.declared.Answer.TheVariants.{NoneNear, Near}
use Rattle.near.specs.Result.{Result, refused_result}
use Rattle.near.specs.Result as Family
use Rattle.search.specs.Result.{Finding, result_in, total_is, total-none}
use Rattle.family.specs.Member.{Member}
use Rattle.soft.specs.Blank.{open_at}

pub record Nearest (𝓜 : Member) (k : ℕ) (columns : ℕ → List ℕ) (tests : List (List ℕ)) (f : Finding) : Type 0 where
  pub count : f.tests ≡ tests_near 𝓜 k columns tests
  pub result : result_in k f.answer f.message ≡ result_of 𝓜 k columns tests

-- what a result says where a codeword is near
abbrev Somebody : Member → ℕ → (ℕ → List ℕ) → List (List ℕ) → List ℕ → ℕ → Option ℕ → Type 0
Somebody 𝓜 k columns ts m t d = (answer_of 𝓜 k columns ts ≡ some m) × (t ≡ message_cost 𝓜 k columns m) × (d ≡ margin_of 𝓜 k columns ts m)

-- results tell the cases apart
module _ (𝓜 : Member) (k : ℕ) (columns : ℕ → List ℕ) (ts : List (List ℕ)) (message : List ℕ) where
  result-none : (o : Option (List ℕ)) → result_in k NoneNear message ≡ result_for 𝓜 k columns ts o → o ≡ none
  unfolding result_in Family.result_for refused_result
  result-none none e = refl
  result-none (some m) e = let z : none_near ≡ accepted = ap (λ (r : Result). r.number) e in absurd (omega arith)

  result-some : (t : ℕ) (d : Margin) (o : Option (List ℕ)) → answer_of 𝓜 k columns ts ≡ o → result_in k (Near t d) message ≡ result_for 𝓜 k columns ts o
      → Somebody 𝓜 k columns ts (take k message) t (margin_is d)
  unfolding result_in Family.result_for refused_result
  result-some t d none a e = let z : accepted ≡ none_near = ap (λ (r : Result). r.number) e in absurd (omega arith)
  result-some t d (some m) a e =
      let q : m ≡ take k message = sym (ap (λ (r : Result). r.message) e) in (
        a ∙ ap some q,
        ap (λ (r : Result). r.total) e ∙ ap (message_cost 𝓜 k columns) q,
        ap (λ (r : Result). r.margin) e ∙ ap (margin_of 𝓜 k columns ts) q,
      )

module _ {𝓜 : Member} {k : ℕ} {columns : ℕ → List ℕ} {ts : List (List ℕ)} where
  module _ {f : Finding} (n : Nearest 𝓜 k columns ts f) where
    pub nearest-nobody : f.answer ≡ NoneNear → answer_of 𝓜 k columns ts ≡ none
    unfolding Family.result_of
    nearest-nobody e = result-none 𝓜 k columns ts f.message (answer_of 𝓜 k columns ts) (ap (λ a. result_in k a f.message) (sym e) ∙ n.result)

    told : (t : ℕ) (d : Margin) → f.answer ≡ Near t d → Somebody 𝓜 k columns ts (take k f.message) t (margin_is d)
    unfolding Family.result_of
    told t d e =
        result-some 𝓜 k columns ts f.message t d (answer_of 𝓜 k columns ts) refl (ap (λ a. result_in k a f.message) (sym e) ∙ n.result)

    pub nearest-somebody : (t : ℕ) → total_is f.answer ≡ some t
        → (answer_of 𝓜 k columns ts ≡ some (take k f.message)) × (t ≡ message_cost 𝓜 k columns (take k f.message))
    unfolding total_is
    nearest-somebody t e = go f.answer refl e
      where
        go : (a : Answer) → f.answer ≡ a → total_is a ≡ some t
            → (answer_of 𝓜 k columns ts ≡ some (take k f.message)) × (t ≡ message_cost 𝓜 k columns (take k f.message))
        go NoneNear q h = absurd (total-none refl h)
        go (Near u d) q h = let s : t ≡ u = cc in let r = told u d q in (r.0, s ∙ r.1)

    pub nearest-margin : (t : ℕ) (d : Margin) → f.answer ≡ Near t d → margin_is d ≡ margin_of 𝓜 k columns ts (take k f.message)
    nearest-margin t d e = (told t d e).2

  pub nearest-none : {f : Finding} → f.answer ≡ NoneNear → f.tests ≡ 0 → answer_of 𝓜 k columns ts ≡ none → Nearest 𝓜 k columns ts f
  unfolding result_in Family.result_of Family.result_for
  nearest-none {f} a z e =
      record {
        count = z ∙ sym (tests-answerless 𝓜 (open_at columns) (reach_in 𝓜 k columns) k columns ts e);
        result = ap (λ x. result_in k x f.message) a ∙ sym (ap (result_for 𝓜 k columns ts) e);
      }

  pub nearest-some : (f : Finding) (t : ℕ) (d : Margin) → f.answer ≡ Near t d → tests_near 𝓜 k columns ts ≡ f.tests
      → answer_of 𝓜 k columns ts ≡ some (take k f.message) → t ≡ message_cost 𝓜 k columns (take k f.message)
      → margin_is d ≡ margin_of 𝓜 k columns ts (take k f.message) → Nearest 𝓜 k columns ts f
  unfolding result_in Family.result_of Family.result_for
  nearest-some f t d e p q r s =
      record {
        count = sym p;
        result =
            ap (λ a. result_in k a f.message) e
            ∙ ap₂ (λ (x : ℕ) (y : Option ℕ). record { number = accepted; message = take k f.message; total = x; margin = y }) r s
            ∙ sym (ap (result_for 𝓜 k columns ts) q);
      }
