-- The hypotheses can be met: y² + y = x³ over the field of four elements, its eight points, and a word with two wrong values.
--
--   Four, four        the elements 0, 1, α and α + 1 = α², and the field that they form
--   eight             the eight points of the curve with w = 2
--   f, word           the function x, of order M = 2, and its values at the eight points, two of them changed
--   samples, places   the points with the word's values, listed
--   f-near            f is within T = 2 of the word
--   radius            2·2 + 2 + genus 2 < 8
--   f-repaired        so f is what division finds from the least Q through the word,
--   f-found           and there is a least Q, with Q1 not zero
use Rattle.std.specs.Prelude.{Bool, List, [], ◌∷◌, ◌≡◌, refl, ◌≢◌, ℕ, zero, suc, ◌+◌, ◌*◌, ◌/◌, ◌%◌, ◌≤◌, get_or, T, eqb}
use Rattle.std.proofs.Common.{sym, ap, ap₂, ◌∙◌, subst, arith, eqb→eq}
use Rattle.std.proofs.Math.Decide.{map_dec, ℕ_discrete}
use Rattle.lists.specs.Every.{both, both_left, both_right, every, every-at}
use Rattle.algebra.specs.Field.{Field, mul-one}
use Rattle.algebra.specs.Power.{pow, pow-nil, pow-one}
use Rattle.algebra.specs.Coefficients.{unit, lead-unit, Lead}
use Rattle.algebra.specs.Least.{Least}
use Rattle.algebra.specs.Distance.{differing, differing-nil, differing-suc-same, differing-suc-le-suc}
use Rattle.hermitian.specs.Present.{genus}
use Rattle.hermitian.specs.Ring.{fn-unit}
use Rattle.hermitian.specs.Value.{Val, monomial, val-unit}
use Rattle.hermitian.specs.Points.{Points, points-some}
use Rattle.hermitian.specs.Decoding.{Radius, Near}
use Rattle.hermitian.specs.Division.{quotient}
use Rattle.hermitian.specs.Interpolant.{without_z, with_z}
use Rattle.hermitian.specs.Interpolation.{Sample, Through}
use Rattle.hermitian.specs.Repair.{x_at, y_at, z_at}
use Rattle.hermitian.proofs.Repair.{near-least, least-with_z, least-repairs}

pub data Four : Type 0 where
  o i a b : Four

abbrev number : Four → ℕ
number o = 0
number i = 1
number a = 2
number b = 3

abbrev element : ℕ → Four
element zero = o
element (suc zero) = i
element (suc (suc zero)) = a
element (suc (suc (suc n))) = b

element-number : (x : Four) → element (number x) ≡ x
element-number o = refl
element-number i = refl
element-number a = refl
element-number b = refl

-- a sum, and a product with α² = α + 1
abbrev sum_of : Four → Four → Four
sum_of o y = y
sum_of i o = i
sum_of i i = o
sum_of i a = b
sum_of i b = a
sum_of a o = a
sum_of a i = b
sum_of a a = o
sum_of a b = i
sum_of b o = b
sum_of b i = a
sum_of b a = i
sum_of b b = o

abbrev product_of : Four → Four → Four
product_of o y = o
product_of i y = y
product_of a o = o
product_of a i = a
product_of a a = b
product_of a b = i
product_of b o = o
product_of b i = b
product_of b a = i
product_of b b = a

abbrev inverse : Four → Four
inverse o = o
inverse i = i
inverse a = b
inverse b = a

-- laws are tested at all elements
abbrev equal : Four → Four → Bool
equal x y = eqb (number x) (number y)

equal-path : (x y : Four) → T (equal x y) → x ≡ y
equal-path x y t = sym (element-number x) ∙ ap element (eqb→eq (number x) (number y) t) ∙ element-number y

abbrev all : (Four → Bool) → Bool
all p = both (p o) (both (p i) (both (p a) (p b)))

all-at : (p : Four → Bool) → T (all p) → (x : Four) → T (p x)
all-at p t o = both_left (p o) _ t
all-at p t i = both_left (p i) _ (both_right (p o) _ t)
all-at p t a = both_left (p a) _ (both_right (p i) _ (both_right (p o) _ t))
all-at p t b = both_right (p a) _ (both_right (p i) _ (both_right (p o) _ t))

law₁ : (f g : Four → Four) → T (all (λ x. equal (f x) (g x))) → (x : Four) → f x ≡ g x
law₁ f g t x = equal-path (f x) (g x) (all-at (λ x. equal (f x) (g x)) t x)

law₂ : (f g : Four → Four → Four) → T (all (λ x. all (λ y. equal (f x y) (g x y)))) → (x y : Four) → f x y ≡ g x y
law₂ f g t x y = law₁ (f x) (g x) (all-at (λ x. all (λ y. equal (f x y) (g x y))) t x) y

law₃ : (f g : Four → Four → Four → Four) → T (all (λ x. all (λ y. all (λ z. equal (f x y z) (g x y z))))) → (x y z : Four) → f x y z ≡ g x y z
law₃ f g t x y z = law₂ (f x) (g x) (all-at (λ x. all (λ y. all (λ z. equal (f x y z) (g x y z)))) t x) y z

same-element : (x y : Four) → Dec (x ≡ y)
same-element x y =
    map_dec (λ e. sym (element-number x) ∙ ap element e ∙ element-number y) (λ e. ap number e) (ℕ_discrete (number x) (number y))

times-inverse : (x : Four) → x ≢ o → product_of x (inverse x) ≡ i
times-inverse o h = absurd (h refl)
times-inverse i h = refl
times-inverse a h = refl
times-inverse b h = refl

pub four : Field Four
four =
    record {
      ◌⊕◌ = sum_of;
      ◌⊗◌ = product_of;
      𝟘 = o;
      𝟙 = i;
      inv = inverse;
      same = same-element;
      plus_assoc = law₃ (λ x y z. sum_of (sum_of x y) z) (λ x y z. sum_of x (sum_of y z)) tt;
      plus_comm = law₂ sum_of (λ x y. sum_of y x) tt;
      plus_zero = law₁ (λ x. sum_of x o) (λ x. x) tt;
      plus_self = law₁ (λ x. sum_of x x) (λ x. o) tt;
      times_assoc = law₃ (λ x y z. product_of (product_of x y) z) (λ x y z. product_of x (product_of y z)) tt;
      times_comm = law₂ product_of (λ x y. product_of y x) tt;
      times_one = law₁ (λ x. product_of x i) (λ x. x) tt;
      times_plus = law₃ (λ x y z. product_of x (sum_of y z)) (λ x y z. sum_of (product_of x y) (product_of x z)) tt;
      times_inv = times-inverse;
      one_ne_zero = λ e. absurd (omega (arith, ap number e));
    }

-- (0, 0), (0, 1), and (x, α), (x, α + 1) for each other x
abbrev pub px : ℕ → Four
px n = element (n / 2)

abbrev pub py : ℕ → Four
py zero = o
py (suc zero) = i
py (suc (suc n)) = element (2 + n % 2)

on_curve : ℕ → Bool
on_curve n = equal (sum_of (pow four (py n) 2) (py n)) (pow four (px n) 3)

-- the number of a point
place : Four → Four → ℕ
place x y = 2 * number x + number y % 2

placed : ℕ → Bool
placed n = eqb (place (px n) (py n)) n

pub eight : Points four 2 8 px py
unfolding on_curve placed place every pow four
eight =
    record {
      on = λ n l. equal-path _ _ (every-at 8 on_curve tt n l);
      distinct = λ m n l h p q.
          let am : place (px m) (py m) ≡ m = eqb→eq _ m (every-at 8 placed tt m (omega arith)) in
          let an : place (px n) (py n) ≡ n = eqb→eq _ n (every-at 8 placed tt n h) in
          absurd (omega (arith, sym am ∙ ap₂ place p q ∙ an));
    }

-- the function x, of order 2
pub f : ℕ → Four
f = unit four 2

-- its values at the points, with two of them changed
pub word : ℕ → Four
word zero = a
word (suc zero) = o
word (suc (suc zero)) = i
word (suc (suc (suc zero))) = i
word (suc (suc (suc (suc zero)))) = a
word (suc (suc (suc (suc (suc zero))))) = o
word (suc (suc (suc (suc (suc (suc n)))))) = b

monomial-x : (x y : Four) → monomial four 2 x y 2 ≡ x
unfolding monomial four
monomial-x x y = ap₂ product_of (pow-one four x) (pow-nil four y) ∙ mul-one four x

-- the eight points with the word's values, in a list
pub samples : ℕ → Sample four 2
samples n = record { x = px (n % 8); y = py (n % 8); z = word (n % 8); on = eight.on (n % 8) (omega arith) }

abbrev pub places : List ℕ
places = 0 ∷ 1 ∷ 2 ∷ 3 ∷ 4 ∷ 5 ∷ 6 ∷ 7 ∷ []

abbrev pub x : ℕ → Four
x = x_at four 2 2 samples 0 places

abbrev pub y : ℕ → Four
y = y_at four 2 2 samples 0 places

abbrev pub z : ℕ → Four
z = z_at four 2 2 samples 0 places

in_order : ℕ → Bool
in_order n = eqb (get_or places n 0 % 8) n

pub points : Points four 2 8 x y
unfolding samples in_order every
points =
    points-some four 2 8 (λ n. get_or places n 0 % 8) (λ n l. omega arith)
    (λ m n l h. omega (arith, eqb→eq _ m (every-at 8 in_order tt m (omega arith)), eqb→eq _ n (every-at 8 in_order tt n h))) eight

wrong-two : differing four 8 x z ≤ 2
unfolding word samples
wrong-two =
    omega (
      arith,
      differing-nil four x z,
      differing-suc-le-suc four 0 x z,
      differing-suc-same four 1 x z refl,
      differing-suc-same four 2 x z refl,
      differing-suc-same four 3 x z refl,
      differing-suc-same four 4 x z refl,
      differing-suc-le-suc four 5 x z,
      differing-suc-same four 6 x z refl,
      differing-suc-same four 7 x z refl,
    )

pub f-near : Near four 2 2 2 8 x y z f
unfolding f
f-near =
    record {
      fn = fn-unit four 2 2 (omega arith);
      order = (lead-unit four 2).above;
      value = x;
      val = λ n l. subst (λ v. Val four 2 (x n) (y n) (unit four 2) v) (monomial-x (x n) (y n)) (val-unit four 2 (omega arith) (x n) (y n) 2);
      few = wrong-two;
    }

pub radius : Radius 2 2 2 8
unfolding genus
radius = omega arith

pub f-repaired : {c : ℕ → Four} {l m : ℕ} → Least four (Through four 2 2 samples places) c l → Lead four (with_z four 2 c) m
    → quotient four 2 m (with_z four 2 c) 2 (without_z four c) ≡ f
f-repaired h lead = least-repairs four 2 2 samples 0 places (omega arith) points f-near radius h lead

pub f-found : (c : ℕ → Four) × (l : ℕ) × (m : ℕ) × Least four (Through four 2 2 samples places) c l × Lead four (with_z four 2 c) m
f-found =
    let Q = near-least four 2 2 samples 0 places (omega arith) points f-near in
    let L = least-with_z four 2 2 samples 0 places (omega arith) points f-near radius Q.2 in
    (Q.0, Q.1, L.0, Q.2, L.2)
