-- The candidate of a row in document 01's modem: what it holds of the words that it passes through.
--
--   symbol_in f t               symbol t of the message of the function f
--   fields_of r                 the fields of the struct
--   CandidateOf k word row r   as the family has it, of a row in planes and of the struct
--   ShownOf k values r         so is the message in the coefficients of the function that has these values, and its codeword: a codeword, whatever the
--                              values
use Rattle.std.specs.Prelude.{List, ℕ}
use Rattle.code.specs.Encoding.{most_rate}
use Rattle.near.specs.Decider as Decider
use Rattle.planes.specs.Words.{word_of}
use Rattle.coefficients.specs.Reading.{coefficients_of}
use Rattle.parts.specs.Parts.{values_of}
use Rattle.family.specs.Member.{m16}
use Rattle.search.specs.Candidate as Family
use Rattle.candidate.specs.declared.Candidate.{Candidate}

abbrev pub symbol_in : List ℕ → ℕ → ℕ
symbol_in function t = Decider.symbol_in m16 function t

abbrev pub fields_of : Candidate → Family.Candidate
fields_of r = record { message = r.message; codeword = r.codeword }

abbrev pub CandidateOf : ℕ → List ℕ → List ℕ → Candidate → Type 0
CandidateOf k word row r = Family.CandidateOf m16 most_rate k word (values_of row) (fields_of r)

abbrev pub ShownOf : ℕ → List ℕ → Candidate → Type 0
ShownOf k values r = Family.ShownOf m16 most_rate k (coefficients_of (word_of values)) (fields_of r)
