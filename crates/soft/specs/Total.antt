-- What a word costs, how it differs, and the report.
--
--   symbol_at word p            the symbol of a word at place p
--   cost_in columns word p      what the word's symbol costs at place p
--   total_of n columns word     the total: the sum of these costs over n places, a cost at the ceiling summed as it stands
--   pinned_of n columns word    the pinned places: how many of these costs are at the ceiling (saturated)
--   changed_of n columns word   the changed places (where the hard decision is overruled): not blank, and the word's symbol is not the best symbol
--   changed_flags n columns word   a flag for each of n places: 1 where it is changed
--   agree u v p                the words have equal entries at place p, and neither lacks one
--   differing_in counts n u v   in how many of n places, of those that count, two words differ; a missing entry differs
--   differing n u v            the same where every place counts
--   bytes_of n v                v in n bytes, high byte first
--   margin_bytes margin         the margin to the runner-up in five bytes: a byte of 1 and four of the margin, or five of 0 where there is none
--   report_of wide total tests pinned changed margin mark   the report's bytes: four of the total, two of the test words, so many as `wide` says of
--                              each count of places, those of the margin, and one of the mark
use Rattle.std.specs.Prelude.{Bool, true, not, ◌&&◌, List, [], ◌∷◌, ◌++◌, ℕ, zero, suc, ◌/◌, ◌%◌, ltb, eqb, length, get_or}
use Rattle.std.proofs.Math.Option.{Option, none, some}
use Rattle.lists.specs.Count.{bit, sum_of, count}
use Rattle.lists.specs.Listed.{listed}
use Rattle.soft.specs.Column.{cost_of, best_of, ceiling}
use Rattle.soft.specs.Blank.{open_at}

abbrev pub symbol_at : List ℕ → ℕ → ℕ
symbol_at word p = get_or word p 0

abbrev pub cost_in : (ℕ → List ℕ) → List ℕ → ℕ → ℕ
cost_in columns word p = cost_of (columns p) (symbol_at word p)

unfoldable pub total_of : ℕ → (ℕ → List ℕ) → List ℕ → ℕ
total_of n columns word = sum_of n (cost_in columns word)

abbrev pub pinned_at : (ℕ → List ℕ) → List ℕ → ℕ → Bool
pinned_at columns word p = eqb (cost_in columns word p) ceiling

unfoldable pub pinned_of : ℕ → (ℕ → List ℕ) → List ℕ → ℕ
pinned_of n columns word = count n (pinned_at columns word)

abbrev pub changed_at : (ℕ → List ℕ) → List ℕ → ℕ → Bool
changed_at columns word p = open_at columns p && not (eqb (symbol_at word p) (best_of (columns p)))

unfoldable pub changed_of : ℕ → (ℕ → List ℕ) → List ℕ → ℕ
changed_of n columns word = count n (changed_at columns word)

unfoldable pub changed_flags : ℕ → (ℕ → List ℕ) → List ℕ → List ℕ
changed_flags n columns word = listed n (λ p. bit (changed_at columns word p))

unfoldable pub agree : List ℕ → List ℕ → ℕ → Bool
agree u v p = ltb p (length u) && (ltb p (length v) && eqb (symbol_at u p) (symbol_at v p))

abbrev pub differ_at : List ℕ → List ℕ → ℕ → Bool
differ_at u v p = not (agree u v p)

-- every place counts
abbrev pub everywhere : ℕ → Bool
everywhere p = true

unfoldable pub differing_in : (ℕ → Bool) → ℕ → List ℕ → List ℕ → ℕ
differing_in counts n u v = count n (λ p. counts p && differ_at u v p)

abbrev pub differing : ℕ → List ℕ → List ℕ → ℕ
differing n u v = differing_in everywhere n u v

unfoldable pub bytes_of : ℕ → ℕ → List ℕ
bytes_of zero v = []
bytes_of (suc n) v = bytes_of n (v / 256) ++ (v % 256 ∷ [])

unfoldable pub margin_bytes : Option ℕ → List ℕ
margin_bytes none = bytes_of 1 0 ++ bytes_of 4 0
margin_bytes (some d) = bytes_of 1 1 ++ bytes_of 4 d

unfoldable pub report_of : ℕ → ℕ → ℕ → ℕ → ℕ → Option ℕ → ℕ → List ℕ
report_of wide total tests pinned changed margin mark =
    bytes_of 4 total ++ (bytes_of 2 tests ++ (bytes_of wide pinned ++ (bytes_of wide changed ++ (margin_bytes margin ++ bytes_of 1 mark))))
