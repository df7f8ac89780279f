-- Rows of eight planes: what lanewise has for rows of two parts, at GF(16) and the 64 places.
--
--   value_at h row p        the element at lane p of part h: 0 the whole, 1 the slope
--   whole_of row, slope_of row, joined_of a b    a part as an array of four planes, and a row by its parts
--   value-whole, value-slope, whole-joined, slope-joined    their lanes
--   row_sum a b, doubled_row row    the sum in every lane of both parts, and α times a row
--   MultiplesOf row ms     ms i is a row times 0, 1, 2, 3, 0, 4, 8 and 12: two of them add to any multiple
--   Added row by other r   in every lane a row plus by times another; AddedBy: so for every row whose multiples are given
--   Raised row a r         at every place x + a times a row
--   Moved row q c r        the same slopes, and the same values but at place q, where c times the slope is added
unfoldable pub use Rattle.lanewise.specs.Rows.{part_of}
use Rattle.std.specs.Prelude.{◌≡◌, List, [], ◌∷◌, ℕ, get_or}
use Rattle.std.proofs.Math.Path.{refl}
use Rattle.std.specs.Int.Bits.{bit_xor}
use Rattle.lists.specs.Listed.{listed}
use Rattle.galois.specs.Gf16.{gf16}
use Rattle.galois.specs.Field16.{GF}
use Rattle.family.specs.Member.{m16, places, px}
use Rattle.packing.specs.Bits.{from_bits}
use Rattle.lanewise.specs.Lanes.{lane}
use Rattle.lanewise.specs.Elements as Elements
use Rattle.lanewise.specs.Product.{doubled_of}
use Rattle.lanewise.specs.Rows as Rows
use Rattle.lanewise.specs.Multiples as Multiples
use Rattle.planes.specs.Arrays.{planes_in, element_at}

abbrev pub value_at : ℕ → List ℕ → ℕ → GF
value_at h row p = Rows.value_at gf16 h row p

-- ---- rows and their parts
abbrev pub whole_of : List ℕ → List ℕ
whole_of row = get_or row 0 0 ∷ get_or row 1 0 ∷ get_or row 2 0 ∷ get_or row 3 0 ∷ []

abbrev pub slope_of : List ℕ → List ℕ
slope_of row = get_or row 4 0 ∷ get_or row 5 0 ∷ get_or row 6 0 ∷ get_or row 7 0 ∷ []

abbrev pub joined_of : List ℕ → List ℕ → List ℕ
joined_of a b = get_or a 0 0 ∷ get_or a 1 0 ∷ get_or a 2 0 ∷ get_or a 3 0 ∷ get_or b 0 0 ∷ get_or b 1 0 ∷ get_or b 2 0 ∷ get_or b 3 0 ∷ []

-- they are those of lanewise
pub whole_is : (row : List ℕ) → whole_of row ≡ Rows.part_in gf16 0 row
unfolding Rows.part_in part_of listed
whole_is row = refl

pub slope-is : (row : List ℕ) → slope_of row ≡ Rows.part_in gf16 1 row
unfolding Rows.part_in part_of listed
slope-is row = refl

pub joined_is : (a b : List ℕ) → joined_of a b ≡ Rows.joined_of gf16 a b
unfolding Rows.joined_of planes_in listed
joined_is a b = refl

pub value-whole : (row : List ℕ) (p : ℕ) → element_at (whole_of row) p ≡ value_at 0 row p
unfolding Elements.element lane from_bits planes_in part_of
value-whole row p = refl

pub value-slope : (row : List ℕ) (p : ℕ) → element_at (slope_of row) p ≡ value_at 1 row p
unfolding Elements.element lane from_bits planes_in part_of
value-slope row p = refl

pub whole-joined : (a b : List ℕ) (p : ℕ) → value_at 0 (joined_of a b) p ≡ element_at a p
unfolding Elements.element lane from_bits planes_in part_of
whole-joined a b p = refl

pub slope-joined : (a b : List ℕ) (p : ℕ) → value_at 1 (joined_of a b) p ≡ element_at b p
unfolding Elements.element lane from_bits planes_in part_of
slope-joined a b p = refl

-- ---- sums, and α times a row
module _ (a b : List ℕ) where
  abbrev pub row_sum : List ℕ
  row_sum =
      bit_xor (get_or a 0 0) (get_or b 0 0) ∷ bit_xor (get_or a 1 0) (get_or b 1 0) ∷ bit_xor (get_or a 2 0) (get_or b 2 0) ∷ bit_xor (get_or a 3 0) (get_or b 3 0)
      ∷ bit_xor (get_or a 4 0) (get_or b 4 0) ∷ bit_xor (get_or a 5 0) (get_or b 5 0) ∷ bit_xor (get_or a 6 0) (get_or b 6 0) ∷ bit_xor (get_or a 7 0) (get_or b 7 0) ∷ []

  pub row-sum-is : row_sum ≡ Rows.row_sum_of gf16 a b
  unfolding Rows.row_sum_of part_of listed
  row-sum-is = refl

module _ (row : List ℕ) where
  abbrev pub doubled_row : List ℕ
  doubled_row =
      get_or row 3 0 ∷ bit_xor (get_or row 0 0) (get_or row 3 0) ∷ get_or row 1 0 ∷ get_or row 2 0
      ∷ get_or row 7 0 ∷ bit_xor (get_or row 4 0) (get_or row 7 0) ∷ get_or row 5 0 ∷ get_or row 6 0 ∷ []

  pub doubled-is : doubled_row ≡ Rows.doubled_row gf16 row
  unfolding Rows.doubled_row doubled_of part_of listed
  doubled-is = refl

-- ---- multiples: two groups of two bits
abbrev pub MultiplesOf : List ℕ → List (List ℕ) → Type 0
MultiplesOf row ms = Multiples.MultiplesOf gf16 2 2 row ms

abbrev pub Added : List ℕ → ℕ → List ℕ → List ℕ → Type 0
Added row by other r = Rows.Added gf16 row by other r

abbrev pub AddedBy : List ℕ → ℕ → List (List ℕ) → List ℕ → Type 0
AddedBy row by ms r = Multiples.AddedBy gf16 2 2 row by ms r

abbrev pub Raised : List ℕ → ℕ → List ℕ → Type 0
Raised row a r = Rows.Raised gf16 (places m16) (px m16) row a r

abbrev pub Moved : List ℕ → ℕ → ℕ → List ℕ → Type 0
Moved row q c r = Rows.Moved gf16 (places m16) row q c r
