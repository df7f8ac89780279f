-- What elimination finds of one test word, where its blank places are given by flags and their number.
--
--   open_flag blanks p    1 for a place that is not in the list, else 0
--   OpenOf k blanks o     the places that count at the rate k: all but those of the list
--   SolutionOf k word flags b r   none where no codeword is within T over the places with flag 1, b of all being others; and where one is, its symbols
--                        and the 98 bytes of the least Q through the word at these places
use Rattle.std.specs.Prelude.{◌≡◌, List, ℕ, Option, Some, None, length}
use Rattle.std.proofs.Math.Option.{some, none}
use Rattle.lists.specs.Count.{bit}
use Rattle.lists.specs.Listed.{listed}
use Rattle.family.specs.Member.{m16}
use Rattle.code.specs.Encoding.{encode_of}
use Rattle.soft.specs.Blank.{flag_at}
use Rattle.near.specs.Near.{codeword_near}
use Rattle.near.specs.Interpolated.{nodes_of}
use Rattle.near.specs.Here.{m_of, reach_of}
use Rattle.interpolant.specs.LeastQ.{reading_of}
use Rattle.candidate.specs.declared.open.Open.{Open}
use Rattle.book64.specs.Here.{places}
use Rattle.book64.specs.engine.Engine.{unblanked_by}
use Rattle.engine.specs.declared.Solution.{Solution}

abbrev pub open_flag : List ℕ → ℕ → ℕ
open_flag blanks p = bit (unblanked_by blanks p)

pub record OpenOf (k : ℕ) (blanks : List ℕ) (o : Open) : Type 0 where
  pub rate_is : o.rate.k ≡ k
  pub counts_are : o.counts ≡ listed places (open_flag blanks)
  pub blanks_are : o.blanks ≡ length blanks

abbrev pub SolutionOf : ℕ → List ℕ → List ℕ → ℕ → Option Solution → Type 0
SolutionOf k word flags b None = codeword_near m16 (flag_at flags) (reach_of k b) k word ≡ none
SolutionOf k word flags b (Some r) =
    (m : List ℕ) × (codeword_near m16 (flag_at flags) (reach_of k b) k word ≡ some m) × (r.codeword ≡ encode_of k m)
    × (r.bytes ≡ reading_of (m_of k) (nodes_of m16 (flag_at flags) word))
