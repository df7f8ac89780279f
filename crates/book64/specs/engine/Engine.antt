-- The elimination engine: rate, sizes, symbols, list, blank places, nearness. It takes one test word and the list of its blank places.
--
--   unblanked_by blanks p    p is a place and not in the list
--   test_nodes blanks word   the test word at all its unblanked places, doubtful ones too
--   near_by rate blanks word   the message whose codeword is within T of the word over these places, T by the number of the blank ones; or none
--   Eliminated              what the call leaves: the number returned, and the two lent buffers
--   engine_checks rate word blanks codeword q   the number of its checks, in their order, by the lengths of the two buffers: 1 if the rate is unknown, 2 if the
--                           word or a buffer has another length, 3 if a symbol is above 15, 4 if a place of the list is none or the list does not rise
--                           strictly, 12 if there are more blank places than leave a T; else 0
--   engine_of rate word blanks codeword q   refused with that number, or with 9 if no codeword is within T, both buffers as they were; else 0, the codeword, and
--                           the 98 bytes of the least Q through the test word
use Rattle.std.specs.Prelude.{Bool, cond, not, ◌&&◌, List, ℕ, eqb, ltb, leb, length}
use Rattle.std.proofs.Math.Option.{Option, some, none}
use Rattle.lists.specs.Distinct.{among}
use Rattle.lists.specs.Words.{all_below}
use Rattle.refusals.specs.Refusal.{accepted, unknown_rate, wrong_size, no_symbol, wrong_doubt, none_near, too_blank}
use Rattle.family.specs.Member.{m16}
use Rattle.family.specs.Nodes.{Node}
use Rattle.code.specs.Encoding.{encode_of, known_rate}
use Rattle.near.specs.Near.{codeword_near}
use Rattle.near.specs.Interpolated.{nodes_of}
use Rattle.near.specs.Here.{m_of, reach_of, blank_limit}
use Rattle.interpolant.specs.LeastQ.{reading_length, reading_of}
use Rattle.book64.specs.Here.{places, width, fit_places}

unfoldable pub unblanked_by : List ℕ → ℕ → Bool
unblanked_by blanks p = ltb p places && not (among p blanks)

abbrev pub test_nodes : List ℕ → List ℕ → List Node
test_nodes blanks word = nodes_of m16 (unblanked_by blanks) word

abbrev pub near_by : ℕ → List ℕ → List ℕ → Option (List ℕ)
near_by rate blanks word = codeword_near m16 (unblanked_by blanks) (reach_of rate (length blanks)) rate word

pub record Eliminated : Type 0 where
  pub number : ℕ
  pub codeword : List ℕ
  pub q : List ℕ

abbrev pub eliminated : ℕ → List ℕ → List ℕ → Eliminated
eliminated n codeword q = record { number = n; codeword = codeword; q = q }

unfoldable pub engine_checks : ℕ → List ℕ → List ℕ → ℕ → ℕ → ℕ
engine_checks rate word blanks codeword q =
    cond (known_rate rate)
    (cond (eqb (length word) places && (eqb codeword places && eqb q reading_length))
    (cond (all_below width word)
    (cond (fit_places blanks) (cond (leb (length blanks) (blank_limit rate)) accepted too_blank) wrong_doubt) no_symbol) wrong_size) unknown_rate

-- what is written by the message that is near, if there is one
unfoldable pub answered : ℕ → List ℕ → List ℕ → List ℕ → List ℕ → Option (List ℕ) → Eliminated
answered rate word blanks codeword q none = eliminated none_near codeword q
answered rate word blanks codeword q (some m) = eliminated accepted (encode_of rate m) (reading_of (m_of rate) (test_nodes blanks word))

unfoldable pub engine_of : ℕ → List ℕ → List ℕ → List ℕ → List ℕ → Eliminated
engine_of rate word blanks codeword q =
    cond (eqb (engine_checks rate word blanks (length codeword) (length q)) accepted)
    (answered rate word blanks codeword q (near_by rate blanks word))
    (eliminated (engine_checks rate word blanks (length codeword) (length q)) codeword q)
