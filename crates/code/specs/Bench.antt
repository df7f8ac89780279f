-- Bench sheet, C3 to C8.
--
--   alone k s         the message of k symbols with a 1 in symbol s alone
--   alone-encodes     its codeword is the monomial of the s-th present order
--   case3, …, case8   the lines of the bench sheet, as tests; c3, …, c8: they pass
use Rattle.std.specs.Prelude.{Bool, cond, ◌≡◌, refl, List, [], ◌∷◌, ◌≢◌, ℕ, ◌<◌, T, eqb, length, take}
use Rattle.std.proofs.Common.{sym, ap, ◌∙◌, subst, lit<, eq-eqb, ne_eqb}
use Rattle.lists.specs.Count.{kept}
use Rattle.lists.specs.Every.{both, both-intro}
use Rattle.lists.specs.Listed.{listed, listed_at, listed-ext}
use Rattle.lists.specs.Same.{same}
use Rattle.lists.specs.XorSum.{xor_sum-single}
use Rattle.galois.specs.Gf16.{times}
use Rattle.galois.specs.Binary as Binary
use Rattle.galois.specs.Field16.{times_comm, times_zero, times_one, times-lt}
use Rattle.hermitian.specs.Present.{genus}
use Rattle.hermitian.specs.Orders.{x_power, y_power, presents, is_present, order_of}
use Rattle.curve.specs.Curve.{power, is_on_curve, fibre, x_of, y_of}
use Rattle.code.specs.Encoding.{monomial, value_at, encode_of}
use Rattle.family.specs.Encoding.{term}
use Rattle.family.specs.Curve as Curve
use Rattle.family.specs.Encoding as Encoding
use Rattle.family.specs.Member.{m16}

unfoldable pub one_at : ℕ → ℕ → ℕ
one_at s t = cond (eqb t s) 1 0

unfoldable pub alone : ℕ → ℕ → List ℕ
alone k s = listed k (one_at s)

unfoldable pub monomial_of : ℕ → ℕ → ℕ
monomial_of s p = monomial (order_of 4 s) p

one-times : (o p : ℕ) → times 1 (monomial o p) ≡ monomial o p
unfolding Encoding.monomial
one-times o p = times_comm 1 _ ∙ times_one _ (times-lt _ _)

alone-term : (k s p : ℕ) → s < k → term m16 (alone k s) p s ≡ monomial_of s p
unfolding Encoding.term alone one_at monomial_of
alone-term k s p h =
    ap (λ a. times a (monomial (order_of 4 s) p)) (listed_at k s (one_at s) 0 h ∙ ap (λ b. cond b 1 0) (eq-eqb s s refl)) ∙ one-times _ p

other-term : (k s p t : ℕ) → t < k → t ≢ s → term m16 (alone k s) p t ≡ 0
unfolding Encoding.term alone one_at
other-term k s p t h n =
    ap (λ a. times a (monomial (order_of 4 t) p)) (listed_at k t (one_at s) 0 h ∙ ap (λ b. cond b 1 0) (ne_eqb t s n)) ∙ times_comm 0 _ ∙ times_zero _

pub alone-encodes : (k s : ℕ) → s < k → encode_of k (alone k s) ≡ listed 64 (monomial_of s)
unfolding Encoding.encode_of Encoding.value_at
alone-encodes k s h =
    listed-ext 64 _ _ (λ p l. xor_sum-single k s (term m16 (alone k s) p) h (λ t b n. other-term k s p t b n) ∙ alone-term k s p h)

-- ---- the lines
unfoldable pub is_point : ℕ → ℕ → ℕ → Bool
is_point p x y = both (eqb (x_of p) x) (eqb (y_of p) y)

-- symbol t multiplies x^i y^j
unfoldable pub multiplies : ℕ → ℕ → ℕ → Bool
multiplies t i j = both (eqb (x_power 4 (order_of 4 t)) i) (eqb (y_power 4 (order_of 4 t)) j)

-- at rate k, the word of a 1 in symbol s alone starts so
unfoldable pub starts : ℕ → ℕ → List ℕ → Bool
starts k s l = same (take (length l) (encode_of k (alone k s))) l

-- places 8 to 11 are (2,10), (2,11), (2,12), (2,13)
unfoldable pub case3 : Bool
case3 = both (both (is_point 8 2 10) (is_point 9 2 11)) (both (is_point 10 2 12) (is_point 11 2 13))

-- place 63 is (15,5)
unfoldable pub case4 : Bool
case4 = is_point 63 15 5

-- message symbol 38 multiplies x^11
unfoldable pub case5 : Bool
case5 = multiplies 38 11 0

-- symbol 48 multiplies x^11 y^2
unfoldable pub case6 : Bool
case6 = multiplies 48 11 2

-- a 1 in symbol 1 alone: place p holds p/4 rounded down
unfoldable pub case7 : Bool
case7 = both (starts 39 1 (listed 64 x_of)) (starts 49 1 (listed 64 x_of))

unfoldable pub first_twelve : List ℕ
first_twelve = 0 ∷ 1 ∷ 6 ∷ 7 ∷ 2 ∷ 3 ∷ 4 ∷ 5 ∷ 10 ∷ 11 ∷ 12 ∷ 13 ∷ []

-- a 1 in symbol 2 alone: the word starts 0, 1, 6, 7, 2, 3, 4, 5, 10, 11, 12, 13
unfoldable pub case8 : Bool
case8 = both (starts 39 2 first_twelve) (starts 49 2 first_twelve)

pub c3 : T case3
unfolding case3 is_point Curve.y_of Curve.fibre kept Curve.is_on_curve Binary.power Binary.times Binary.shift_add Binary.xtime
c3 = tt

pub c4 : T case4
unfolding case4 is_point Curve.y_of Curve.fibre kept Curve.is_on_curve Binary.power Binary.times Binary.shift_add Binary.xtime
c4 = tt

pub c5 : T case5
unfolding case5 multiplies order_of presents is_present genus
c5 = tt

pub c6 : T case6
unfolding case6 multiplies order_of presents is_present genus
c6 = tt

-- what a word starts with, by its monomial alone
starts_by : (k s : ℕ) (l : List ℕ) → s < k → T (same (take (length l) (listed 64 (monomial_of s))) l) → T (starts k s l)
unfolding starts
starts_by k s l h t = subst (λ w. T (same (take (length l) w) l)) (sym (alone-encodes k s h)) t

x-word : T (same (take (length (listed 64 x_of)) (listed 64 (monomial_of 1))) (listed 64 x_of))
unfolding same listed monomial_of order_of presents is_present genus Encoding.monomial Curve.y_of Curve.fibre kept Curve.is_on_curve Binary.power Binary.times Binary.shift_add Binary.xtime
x-word = tt

y-word : T (same (take (length first_twelve) (listed 64 (monomial_of 2))) first_twelve)
unfolding same listed first_twelve monomial_of order_of presents is_present genus Encoding.monomial Curve.y_of Curve.fibre kept Curve.is_on_curve Binary.power Binary.times Binary.shift_add Binary.xtime
y-word = tt

pub c7 : T case7
unfolding case7
c7 =
    both-intro (starts 39 1 (listed 64 x_of)) (starts 49 1 (listed 64 x_of)) (starts_by 39 1 (listed 64 x_of) (lit< tt) x-word) (starts_by 49 1 (listed 64 x_of) (lit< tt) x-word)

pub c8 : T case8
unfolding case8
c8 =
    both-intro (starts 39 2 first_twelve) (starts 49 2 first_twelve) (starts_by 39 2 first_twelve (lit< tt) y-word) (starts_by 49 2 first_twelve (lit< tt) y-word)
