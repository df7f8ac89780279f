-- A known codeword in document 01's modem, as the family has it, of the structs.
--
--   filled_of c word ps     the word with the symbols of c at the places ps
--   governs_of k counts b known word ps   whether the known codeword is so close to the word, by the flags of the places that count and the number
--                          of the others, that no other can be near
--   closest_test columns c word ps   the test word closest to c, and agreeing_in counts c u ps, at how many of the places ps that count u has the symbol of c
--   WithinOf k counts b …  what counting the test words within T of c below a node finds
--   known_total columns known   the total of the known codeword
--   answer_here columns known tests   what is found where tests of the test words are within T of the known codeword, and no other codeword is near
use Rattle.std.specs.Prelude.{Bool, List, ℕ}
use Rattle.soft.specs.Blank.{flag_at}
use Rattle.soft.specs.Column.{places}
use Rattle.family.specs.Member.{m16}
use Rattle.near.specs.Governing as Governing
use Rattle.near.specs.Written as Written
use Rattle.near.specs.Choices as Choices
use Rattle.search.specs.Known as Family
use Rattle.answers.specs.declared.Finding.{Finding}
use Rattle.answers.specs.Result.{fields_of, finding_of}

abbrev pub filled_of : List ℕ → List ℕ → List ℕ → List ℕ
filled_of c word ps = Governing.filled_of places c word ps

abbrev pub governs_of : ℕ → List ℕ → ℕ → Finding → List ℕ → List ℕ → Bool
governs_of k counts b known word ps = Family.governs_of m16 k counts b (fields_of known) word ps

abbrev pub closest_test : (ℕ → List ℕ) → List ℕ → List ℕ → List ℕ → List ℕ
closest_test columns c word ps = Choices.closest_test places columns c word ps

abbrev pub agreeing_in : List ℕ → List ℕ → List ℕ → List ℕ → ℕ
agreeing_in counts c u ps = Written.agreeing_in places (flag_at counts) c u ps

abbrev pub WithinOf : ℕ → List ℕ → ℕ → (ℕ → List ℕ) → List ℕ → List ℕ → List ℕ → ℕ → ℕ → Type 0
WithinOf k counts b columns c word ps left n = Family.WithinOf m16 k counts b columns c word ps left n

abbrev pub known_total : (ℕ → List ℕ) → Finding → ℕ
known_total columns known = Family.known_total m16 columns (fields_of known)

abbrev pub answer_here : (ℕ → List ℕ) → Finding → ℕ → Finding
answer_here columns known tests = finding_of (Family.answer_here m16 columns (fields_of known) tests)
