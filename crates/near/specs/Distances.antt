-- Document 01's code at two rates: symbols of a light codeword. That the least distances are 20 and 10 stands in proofs/.
--
--   symbol39   a codeword of twenty symbols that are not zero at rate 39, place by place
use Rattle.std.specs.Prelude.{List, [], ◌∷◌, ℕ, ◌/◌, get_or}

-- at each x: x itself where x^5 = 1, and 0 elsewhere
abbrev fifth_roots : List ℕ
fifth_roots = 0 ∷ 1 ∷ 0 ∷ 0 ∷ 0 ∷ 0 ∷ 0 ∷ 0 ∷ 8 ∷ 0 ∷ 10 ∷ 0 ∷ 12 ∷ 0 ∷ 0 ∷ 15 ∷ []

abbrev pub symbol39 : ℕ → ℕ
symbol39 p = get_or fifth_roots (p / 4) 0
