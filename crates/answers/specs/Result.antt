-- What a search returns in document 01's modem: the family's, at GF(16) with w = 4 and the longest rate 52, on the struct that keeps its fields.
--
--   fields_of f, finding_of r    the struct's fields, and the struct with these fields: each is the other's inverse, by computing
--   total_is answer, total-near the total, if a codeword is near, as the family has it
--   nothing_found, found_of k columns tests   none near, and what a list of test words finds, as the family has them, of the struct
--   found-same                 two findings are equal by their parts
use Rattle.std.specs.Prelude.{◌≡◌, List, ℕ}
use Rattle.std.proofs.Common.{ap}
use Rattle.code.specs.Encoding.{most_rate}
use Rattle.family.specs.Member.{m16}
use Rattle.search.specs.Result as Family
use Rattle.answers.specs.declared.Finding.{Finding}
unfoldable pub use Rattle.search.specs.Result.{total_is}
pub use Rattle.search.specs.Result.{total-near}

abbrev pub fields_of : Finding → Family.Finding
fields_of f = record { answer = f.answer; message = f.message; codeword = f.codeword; tests = f.tests }

abbrev pub finding_of : Family.Finding → Finding
finding_of r = record { answer = r.answer; message = r.message; codeword = r.codeword; tests = r.tests }

abbrev pub nothing_found : Finding
nothing_found = finding_of (Family.nothing_found m16 most_rate)

abbrev pub found_of : ℕ → (ℕ → List ℕ) → List (List ℕ) → Finding
found_of k columns tests = finding_of (Family.found_of m16 most_rate k columns tests)

pub found-same : (f g : Finding) → f.answer ≡ g.answer → f.message ≡ g.message → f.codeword ≡ g.codeword → f.tests ≡ g.tests → f ≡ g
found-same f g a m c n = ap finding_of (Family.found-same (fields_of f) (fields_of g) a m c n)
