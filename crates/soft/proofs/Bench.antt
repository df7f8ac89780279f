-- The cases of document 01's bench sheet that speak of a column, each a test that the checker computes.
--
--   c9, c10   cost 0 at symbols 5 and 9, 7 elsewhere: best 5, second 9, gap 0; all sixteen 65535: best 0, second 1, gap 0
--
-- and of #102: a gap of 0 does not make a column blank, and the second one is (c9-open, c10-blank); and of #105:
--
--   c105      the values 127, −1, 0 and −128 favour 0, 1, neither and 1: symbols 5 and 7 cost nothing, 15 costs 127, 0 costs 129 and 8 costs 256
--   c105-most four values of −128: symbol 0 costs 512, and no column is dearer
--   c105-blank   four zeros make a blank column
--
-- and of #108, of the gaps 5, 3, 3 and 9 at the places 0 to 3 (picked t m: the places with the threshold t and the maximum m):
--
--   c108-clear   the threshold 0 or 3: no gap is below it, and place 1 is doubtful alone, whatever the maximum
--   c108-level   the threshold 4: the places 1 and 2 with the maximum 2 or the largest one, place 1 with the maximum 1
--   c108-most    the threshold 65535: places 1; 1 and 2; 0, 1 and 2; all, with the maxima 1, 2, 3 and the largest one
--   c108-blank   where place 1 does not count, place 2 is the first; where none counts, none is chosen
--   c108-table   of columns with the gaps 5, blank, pinned and 3 the blank one and the pinned one are never chosen with another first,
--   c108-pinned  and of two pinned ones the first is
use Rattle.std.specs.Prelude.{true, false, not, ◌≡◌, refl, List, [], ◌∷◌, ℕ, T, eqb, get_or, set, replicate}
use Rattle.lists.specs.Count.{sum_of, count, kept}
use Rattle.lists.specs.Every.{every}
use Rattle.lists.specs.Listed.{listed}
use Rattle.soft.specs.Column.{symbols, ceiling, cost_of, first_but, cheaper_of, best_but, best_of, second_of, gap_of, counted_gap, doubt_gap_of, is_blank}
use Rattle.soft.specs.Bits.{bits, is_negative, magnitude, favoured, contradicts, bit_cost, bit_of, symbol_cost, bit_column}
use Rattle.soft.specs.Doubt.{most_doubt, ahead_by, ahead_of}
use Rattle.soft.specs.Threshold.{closest, closest_of}
use Rattle.soft.specs.Bench.{reads, case9, case10, case105}

pub c9 : T case9
unfolding case9 reads best_of second_of gap_of best_but cheaper_of first_but
c9 = tt

pub c9-open : is_blank (set (set (replicate symbols 7) 5 0) 9 0) ≡ false
unfolding is_blank every
c9-open = refl

pub c10-blank : is_blank (replicate symbols ceiling) ≡ true
unfolding is_blank every
c10-blank = refl

pub c10 : T case10
unfolding case10 reads best_of second_of gap_of best_but cheaper_of first_but
c10 = tt

pub c105 : T case105
unfolding case105 bit_column listed symbol_cost sum_of bit_of bit_cost contradicts favoured magnitude is_negative
c105 = tt

pub c105-most : cost_of (bit_column bits (replicate bits 128)) 0 ≡ 512
unfolding bit_column listed symbol_cost sum_of bit_of bit_cost contradicts favoured magnitude is_negative
c105-most = refl

pub c105-blank : is_blank (bit_column bits (replicate bits 0)) ≡ true
unfolding is_blank every bit_column listed symbol_cost sum_of bit_of bit_cost contradicts favoured magnitude is_negative
c105-blank = refl

-- ---- #108

abbrev gaps : ℕ → ℕ
gaps p = get_or (5 ∷ 3 ∷ 3 ∷ 9 ∷ []) p 0

abbrev picked : ℕ → ℕ → List ℕ
picked t m = closest 4 t m (λ p. true) gaps

pub c108-clear : (picked 0 1 ≡ 1 ∷ []) × (picked 0 2 ≡ 1 ∷ []) × (picked 0 most_doubt ≡ 1 ∷ []) × (picked 3 1 ≡ 1 ∷ []) × (picked 3 2 ≡ 1 ∷ [])
    × (picked 3 most_doubt ≡ 1 ∷ [])
unfolding closest kept ahead_of ahead_by count sum_of
c108-clear = (refl, refl, refl, refl, refl, refl)

pub c108-level : (picked 4 1 ≡ 1 ∷ []) × (picked 4 2 ≡ 1 ∷ 2 ∷ []) × (picked 4 most_doubt ≡ 1 ∷ 2 ∷ [])
unfolding closest kept ahead_of ahead_by count sum_of
c108-level = (refl, refl, refl)

pub c108-most : (picked ceiling 1 ≡ 1 ∷ []) × (picked ceiling 2 ≡ 1 ∷ 2 ∷ []) × (picked ceiling 3 ≡ 0 ∷ 1 ∷ 2 ∷ [])
    × (picked ceiling most_doubt ≡ 0 ∷ 1 ∷ 2 ∷ 3 ∷ [])
unfolding closest kept ahead_of ahead_by count sum_of
c108-most = (refl, refl, refl, refl)

pub c108-blank : (closest 4 4 most_doubt (λ p. not (eqb p 1)) gaps ≡ 2 ∷ []) × (closest 4 0 1 (λ p. not (eqb p 1)) gaps ≡ 2 ∷ [])
    × (closest 4 6 most_doubt (λ p. not (eqb p 1)) gaps ≡ 0 ∷ 2 ∷ []) × (closest 4 ceiling most_doubt (λ p. false) gaps ≡ [])
unfolding closest kept ahead_of ahead_by count sum_of
c108-blank = (refl, refl, refl, refl)

abbrev pinned_column : List ℕ
pinned_column = 0 ∷ ceiling ∷ ceiling ∷ []

abbrev table : ℕ → List ℕ
table p = get_or ((0 ∷ 5 ∷ 9 ∷ []) ∷ (7 ∷ 7 ∷ 7 ∷ []) ∷ pinned_column ∷ (5 ∷ 8 ∷ 2 ∷ []) ∷ []) p []

pub c108-table : (closest_of 4 0 most_doubt table ≡ 3 ∷ []) × (closest_of 4 ceiling 1 table ≡ 3 ∷ []) × (closest_of 4 ceiling most_doubt table ≡ 0 ∷ 3 ∷ [])
unfolding closest_of closest kept ahead_of ahead_by count sum_of is_blank every doubt_gap_of counted_gap best_of second_of best_but cheaper_of first_but
c108-table = (refl, refl, refl)

pub c108-pinned : closest_of 4 ceiling most_doubt (λ p. pinned_column) ≡ 0 ∷ []
unfolding closest_of closest kept ahead_of ahead_by count sum_of is_blank every doubt_gap_of counted_gap best_of second_of best_but cheaper_of first_but
c108-pinned = refl
