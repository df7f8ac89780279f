-- What the family says of GF(64) with w = 8: 512 places. Nothing is proved here but the numbers.
--
--   genus-8        the genus is 28
--   places-512     the 512 places are different points of the curve; every-place: and every point is one of them
--   workable-512   rates from 28 to 456 have a T
--   reaches-512    without blank places T = 83 at rate 289, where M = 316, and T = 23 at rate 409, where M = 436
--   limits-512     167 blank places at rate 289 and 47 at rate 409 leave a T, which is then 0
--   apart-512      the codewords of different messages differ in at least 512 − M places
--   read-512       reading back gives the message of every codeword, at every rate up to 484
--   near-512       at most one message has its codeword within T of a word, over the places that are not blank
--   no-second-512  with at most 12 doubtful places no two different messages have their codewords near
use Rattle.std.specs.Prelude.{◌≡◌, refl, List, ◌≢◌, ℕ, ◌+◌, ◌<◌, ◌≤◌, T, length}
use Rattle.std.proofs.Math.Option.{some}
use Rattle.std.proofs.Common.{arith}
use Rattle.lists.specs.Words.{Word}
use Rattle.lists.specs.Answers.{Found}
use Rattle.galois.specs.BinaryField.{K}
use Rattle.hermitian.specs.Present.{genus}
use Rattle.hermitian.specs.Points.{Points}
use Rattle.soft.specs.Blank.{open_at, blanks_of}
use Rattle.soft.specs.BlankLaws.{unblanked-length}
use Rattle.soft.specs.TestWord.{test_words}
use Rattle.soft.specs.Total.{everywhere, differing}
use Rattle.family.specs.Curve.{is_on_curve, x_of, y_of}
use Rattle.family.specs.Member.{px, py}
use Rattle.family.specs.Points.{points, every-point}
use Rattle.family.specs.Encoding.{encode_of, read_back_of}
use Rattle.family.specs.Laws.{read-encoded}
use Rattle.near.specs.Near.{m_of, blank_limit, reach_of, near_to, near}
use Rattle.near.specs.Reach.{Workable, count-everywhere, reach-is, reach_in, repairs-open}
use Rattle.near.specs.Distance.{codewords-apart}
use Rattle.near.specs.Codeword.{near-one}
use Rattle.near.specs.Rivals.{genus-few, no-second}
use Rattle.member64.specs.Member64.{gf64, m64}

pub genus-8 : genus 8 ≡ 28
unfolding genus
genus-8 = refl

pub places-512 : Points (K gf64) 8 512 (px m64) (py m64)
places-512 = points m64

pub every_place : (x y : ℕ) → x < 64 → y < 64 → T (is_on_curve gf64 8 x y) → (p : ℕ) × (p < 512) × (x_of 8 p ≡ x) × (y_of gf64 8 p ≡ y)
every_place = every-point m64

pub workable-512 : {k : ℕ} → 28 ≤ k → k ≤ 456 → Workable m64 k
workable-512 l h = record { least = omega (arith, genus-8); most = omega (arith, genus-8) }

pub reaches-512 : (m_of m64 289 ≡ 316) × (reach_of m64 289 0 ≡ 83) × (m_of m64 409 ≡ 436) × (reach_of m64 409 0 ≡ 23)
unfolding reach_of blank_limit m_of genus
reaches-512 = (refl, refl, refl, refl)

pub limits-512 : (blank_limit m64 289 ≡ 167) × (reach_of m64 289 167 ≡ 0) × (blank_limit m64 409 ≡ 47) × (reach_of m64 409 47 ≡ 0)
unfolding reach_of blank_limit m_of genus
limits-512 = (refl, refl, refl, refl)

pub apart-512 : {k : ℕ} → Workable m64 k → {m n : List ℕ} → Word 64 k m → Word 64 k n → (m ≡ n → ⊥)
    → 512 ≤ m_of m64 k + differing 512 (encode_of m64 k m) (encode_of m64 k n)
apart-512 rate u v other = omega (arith, count-everywhere 512, codewords-apart m64 everywhere rate u v other)

pub read-512 : (k : ℕ) → k ≤ 484 → (m : List ℕ) → Word 64 k m → read_back_of m64 k (encode_of m64 k m) ≡ some m
read-512 k most = read-encoded m64 k (omega (arith, genus-8))

pub near-512 : {k : ℕ} → Workable m64 k → (columns : ℕ → List ℕ) → blanks_of 512 columns ≤ blank_limit m64 k → (word : List ℕ) {m n : List ℕ}
    → Found 64 k (near_to m64 (open_at columns) (reach_in m64 k columns) k word) m → Found 64 k (near_to m64 (open_at columns) (reach_in m64 k columns) k word) n
    → m ≡ n
near-512 {k} rate columns few word = near-one m64 (open_at columns) (reach_in m64 k columns) rate word (repairs-open m64 rate columns few)

-- as many as document 02's limit: no more than g, so at every rate and with every number of blank places within the limit
pub no-second-512 : {k : ℕ} → Workable m64 k → (columns : ℕ → List ℕ) → blanks_of 512 columns ≤ blank_limit m64 k → (doubtful : List ℕ)
    → length doubtful ≤ 12 → {m n : List ℕ}
    → Found 64 k (near m64 (open_at columns) (reach_in m64 k columns) k (test_words 512 columns doubtful)) m
    → Found 64 k (near m64 (open_at columns) (reach_in m64 k columns) k (test_words 512 columns doubtful)) n → m ≢ n → ⊥
no-second-512 {k} rate columns few doubtful most =
    no-second m64 rate columns few doubtful
    (genus-few m64 columns (reach-is m64 rate few) doubtful (omega (arith, most, genus-8, unblanked-length (open_at columns) doubtful)))
