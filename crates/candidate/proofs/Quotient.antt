-- The message by division is the only one whose codeword can be within T of a word that the row holds.
use mathlib.Core.Path.{◌≡◌, sym, ap₂, ◌∙◌, subst, subst₂, fun_ext}
use mathlib.Core.List.{List}
use Prim.Native.Nat.{ℕ}
use lib.ListN.{take}
use Rattle.lists.specs.Listed.{listed}
use Rattle.lists.specs.Padded.{padded}
use Rattle.algebra.specs.Coefficients.{Lead}
use Rattle.galois.specs.Field16.{K16}
use Rattle.hermitian.specs.Division.{quotient}
use Rattle.coefficients.specs.Bytes.{x_order, coef-at}
use Rattle.division.specs.Dividing.{Divided}
use Rattle.parts.specs.Parts.{values_of, first_of, second_of, first-is, second_is}
use Rattle.code.specs.Encoding.{encode_of, most_rate}
use Rattle.family.specs.Member.{m16}
use Rattle.near.specs.Here.{m_of}
use Rattle.near.specs.Codeword.{symbols_of-at}
use Rattle.search.specs.Candidate as Family
use Rattle.candidate.specs.declared.Candidate.{Candidate}
use Rattle.candidate.specs.Candidate.{symbol_in, fields_of, CandidateOf}
use Rattle.candidate.specs.Ranged.{Ranged, workable}

-- what the code divides is what the row holds
divides : (k : ℕ) (word row function : List ℕ) → Divided (first_of word row) (second_of row) (m_of k) function
    → Family.Divides m16 most_rate k word (values_of row) function
divides k word row function divided Q holds small j lead fits =
    fun_ext (λ o. symbols_of-at m16 function o ∙ sym (coef-at function o))
    ∙ divided.exact j (record { leads = subst (λ g. Lead K16 g j) (sym (second_is row holds small)) lead; terms_fit = fits })
    ∙ ap₂ (λ r q. quotient K16 x_order j r (m_of k) q) (second_is row holds small) (first-is row holds small)

-- from the steps of the code
pub candidate-made : {k : ℕ} → Ranged k → (word row function q0 q1 : List ℕ) (m : ℕ) (r : Candidate) → q0 ≡ first_of word row → q1 ≡ second_of row
    → m ≡ m_of k → Divided q0 q1 m function → r.message ≡ padded most_rate (listed k (symbol_in function)) → r.codeword ≡ encode_of k (take k r.message)
    → CandidateOf k word row r
candidate-made {k} rate word row function q0 q1 m r q0-is q1-is m-is quotient_is message-is encoded =
    let divided = subst (λ n. Divided (first_of word row) (second_of row) n function) m-is (subst₂ (λ p q. Divided p q m function) q0-is q1-is quotient_is) in
    Family.candidate-made m16 most_rate k rate.most function divided.symbols (fields_of r) message-is encoded (workable rate) word (values_of row)
    (divides k word row function divided)
