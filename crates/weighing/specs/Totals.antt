-- Single steps of totals and counts, for any number of symbols.
--
--   cost-in                what a word's symbol costs, from the symbol and the list of costs
--   both_bits, both-le     the product of two bits
use Rattle.std.specs.Prelude.{Bool, true, false, ◌&&◌, ◌≡◌, refl, List, ℕ, ◌*◌, ◌≤◌}
use Rattle.std.proofs.Common.{ap, ap₂, ◌∙◌, mul-le-mul}
use Rattle.lists.specs.Count.{bit}
use Rattle.soft.specs.Column.{cost_of, column_of}
use Rattle.soft.specs.Total.{symbol_at, cost_in}

-- what the symbol of a word costs at a place, read off a list of costs
pub cost-in : (symbols : ℕ) (costs word : List ℕ) (p s r : ℕ) → s ≡ symbol_at word p → r ≡ cost_of (column_of symbols costs p) s
    → r ≡ cost_in (column_of symbols costs) word p
cost-in symbols costs word p s r e f = f ∙ ap (λ x. cost_of (column_of symbols costs p) x) e

-- two tests as one number
bits-both : (a b : Bool) → bit a * bit b ≡ bit (a && b)
bits-both true true = refl
bits-both true false = refl
bits-both false true = refl
bits-both false false = refl

pub both_bits : (a b : Bool) {x y : ℕ} → x ≡ bit a → y ≡ bit b → x * y ≡ bit (a && b)
both_bits a b e f = ap₂ (λ m n. m * n) e f ∙ bits-both a b

pub both-le : {x y : ℕ} → x ≤ 1 → y ≤ 1 → x * y ≤ 1
both-le k l = mul-le-mul k l
