-- Encoding is evaluation, and reading back is its inverse (document 01, 'The field and the curve'): the family's, at GF(16) with w = 4.
--
--   monomial o p     the value at place p of the monomial of order o: x^i y^j with 4i + 5j = o and j at most 3
--   value_at k m p    the value at place p of the function of a message of k symbols
--   encode_of k m     the codeword: that function's value at each of the 64 places
--   least_rate, most_rate   the smallest rate and the largest, 6 and 52
--   known_rate k      any rate from the one to the other
--   read_back_of k v   the first message of k symbols that encodes to v, or none
use Rattle.std.specs.Prelude.{Bool, ◌&&◌, List, ℕ, leb}
use Rattle.std.proofs.Math.Option.{Option}
use Rattle.family.specs.Member.{m16}
use Rattle.family.specs.Encoding as Family

abbrev pub monomial : ℕ → ℕ → ℕ
monomial o p = Family.monomial m16 o p

abbrev pub value_at : ℕ → List ℕ → ℕ → ℕ
value_at k m p = Family.value_at m16 k m p

abbrev pub encode_of : ℕ → List ℕ → List ℕ
encode_of k m = Family.encode_of m16 k m

abbrev pub least_rate : ℕ
least_rate = 6

abbrev pub most_rate : ℕ
most_rate = 52

unfoldable pub known_rate : ℕ → Bool
known_rate k = leb least_rate k && leb k most_rate

abbrev pub read_back_of : ℕ → List ℕ → Option (List ℕ)
read_back_of k v = Family.read_back_of m16 k v
