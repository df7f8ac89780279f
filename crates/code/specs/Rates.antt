-- What a known rate is.
--
--   longest          58: so many orders below 64 are present, and up to so many symbols are read back (longest-is)
--   order-fits       the order of one of so many symbols is present, and below 64
--   known-bounds     it is no smaller than the smallest and no larger than the largest; bounds-known: and each such number is one
--   known_small, known-few   so it is small enough to be read back
use Rattle.std.specs.Prelude.{true, ◌≡◌, refl, ℕ, ◌-◌, ◌%◌, ◌<◌, ◌≤◌, leb}
use Rattle.std.proofs.Common.{sym, subst, arith, lit≤}
use borrow.Author.Tests.{leb-true, le-leb}
use Rattle.lists.specs.Distinct.{and_left, and_right, and_both}
use Rattle.hermitian.specs.Present.{Present, genus}
use Rattle.hermitian.specs.Orders.{order_of, order_of-present}
use Rattle.family.specs.Member.{m16, places}
use Rattle.family.specs.Evaluation.{order_below}
use Rattle.code.specs.Encoding.{least_rate, most_rate, known_rate}

abbrev pub longest : ℕ
longest = 58

pub longest-is : places m16 - genus 4 ≡ longest
unfolding genus
longest-is = refl

-- the order of a symbol, whose number counts modulo the longest message
pub order-fits : (t : ℕ) {o : ℕ} → o ≡ order_of 4 (t % longest) → Present 4 o × (o < places m16)
order-fits t {o} e =
    let p : Present 4 o = subst (Present 4) (sym e) (order_of-present 4 (lit≤ tt) (t % longest)) in
    (p, omega (arith, order_below m16 (t % longest) (omega (arith, longest-is))))

pub bounds-known : {k : ℕ} → least_rate ≤ k → k ≤ most_rate → known_rate k ≡ true
unfolding known_rate
bounds-known {k} l h = and_both (leb least_rate k) (leb k most_rate) (le-leb least_rate k l) (le-leb k most_rate h)

module _ (k : ℕ) (known : known_rate k ≡ true) where
  pub known-bounds : (least_rate ≤ k) × (k ≤ most_rate)
  unfolding known_rate
  known-bounds = (
    leb-true least_rate k (and_left (leb least_rate k) (leb k most_rate) known),
    leb-true k most_rate (and_right (leb least_rate k) (leb k most_rate) known),
  )

  pub known_small : k ≤ longest
  known_small = omega (arith, known-bounds)

  pub known-few : k ≤ places m16 - genus 4
  known-few = omega (arith, longest-is, known_small)
