-- Single steps of the functions that read columns, over plain lists and numbers, for any number of symbols.
--
--   pair-missing           two bytes past the end
--   column-part, column-missing, cost-missing   a place that has its first costs, or none
--   open-missing           a place that lacks all its costs is blank
--   open-start, open-differs, open_none   its costs compared with the first: before the second one, where one differs, where none does
--   columns-start, columns-turn, columns-end   the columns of a frame's places stored one after the other: before the first, at each, after the last
use Rattle.std.specs.Prelude.{Bool, true, false, not, ◌≡◌, refl, ◌≢◌, take, replicate}
use Rattle.std.proofs.Math.Path.{sym, ap, ap₂}
use Rattle.std.proofs.Common.{◌∙◌, mul-zero, add-one, drop_of_length-le}
use mathlib.Core.List.{List, ◌++◌, append-nil}
use Prim.Native.Nat.{ℕ, ◌+◌, ◌-◌, ◌*◌, ◌^◌, ◌≤◌, ◌<◌}
use Rattle.std.proofs.Math.Nat.{mul-suc, mul_comm}
use Rattle.std.proofs.Math.Decide.{dec_lt}
use native.Mathlib.Omega.{arith}
use Rattle.std.proofs.Math.ListN.{length, get_or, drop, length-drop, get_or-replicate, length-replicate, get_or-eq_default}
use Rattle.std.proofs.Math.Seq.{length-take-le}
use borrow.Rule.Slice.PartMut.{put_mid}
use Rattle.lists.specs.Listed.{listed, listed_by}
use Rattle.lists.specs.Passed.{Passed, passed_start}
use Rattle.lists.specs.Stored.{stored-part}
use Rattle.soft.specs.Column.{cost_of, pair_at, cost_at, column_of, is_blank}
use Rattle.soft.specs.ColumnLaws.{column-length, cost-column}
use Rattle.soft.specs.Blank.{open_at}
use Rattle.soft.specs.BlankLaws.{blank-same, column-none}
use Rattle.soft.specs.Bits.{symbol_cost, bit_column, values_at, bit_columns, bit_costs}
use Rattle.soft.proofs.BitsLaws.{bit-costs-suc, bit-costs-length}

-- a pair of bytes: both missing, or the first present
pub pair-missing : (bytes : List ℕ) (i : ℕ) → length bytes ≤ i → 0 ≡ pair_at bytes i
pair-missing bytes i h =
    sym (ap₂ (λ x y. x * 256 + y) (get_or-eq_default bytes 0 h) (get_or-eq_default bytes 0 (omega arith)))

-- a place of a list of costs that has its first n, and past the last costs none
module _ (q : ℕ) (costs : List ℕ) (p : ℕ) where
  pub column-part : (n : ℕ) (out : List ℕ) → length costs ≤ p * q + n → Passed 0 (λ s c. c ≡ cost_at q costs p s) 0 n (replicate q 0) out
      → out ≡ column_of q costs p
  unfolding column_of
  column-part n out h t =
      listed_by 0 q out (cost_at q costs p) (t.as_long ∙ length-replicate q 0) (λ s l. at s l (dec_lt s n))
    where
      at : (s : ℕ) → s < q → Dec (s < n) → get_or out s 0 ≡ cost_at q costs p s
      at s l (yes k) = t.stored s (omega arith) k
      at s l (no k) = t.later s (omega arith) ∙ get_or-replicate q s 0 0 l ∙ sym (get_or-eq_default costs 0 (omega arith))

  pub column-missing : length costs < p * q → replicate q 0 ≡ column_of q costs p
  column-missing h = column-part 0 (replicate q 0) (omega arith) (passed_start 0 _ 0 (replicate q 0))

  pub cost-missing : length costs < p * q → (s : ℕ) → s < q → 0 ≡ cost_of (column_of q costs p) s
  cost-missing h s l = sym (cost-column q costs p s l ∙ get_or-eq_default costs 0 (omega arith))

-- at a place of a list of costs: it lacks them all, or a loop compares those from the second on with the first
module _ (q : ℕ) (costs : List ℕ) (p : ℕ) where
  pub open-missing : length costs < p * q → false ≡ open_at (column_of q costs) p
  open-missing h = sym (ap not (column-none q costs p (omega arith)))

  pub open_none : (first : ℕ) → ((s : ℕ) → s < q → cost_at q costs p s ≡ first) → false ≡ open_at (column_of q costs) p
  open_none first h = sym (ap not ((blank-same (column_of q costs p)).1 (λ s t ls lt. at s ls ∙ sym (at t lt))))
    where
      at : (s : ℕ) → s < length (column_of q costs p) → cost_of (column_of q costs p) s ≡ first
      at s l =
          let k : s < q = omega (arith, column-length q costs p) in
          cost-column q costs p s k ∙ h s k

  module _ (first : ℕ) (f : first ≡ get_or costs (p * q) 0) where
    pub open-start : (s : ℕ) → s < 1 → cost_at q costs p s ≡ first
    open-start s l = let e : p * q + s ≡ p * q = omega arith in ap (λ i. get_or costs i 0) e ∙ sym f

    pub open-differs : (s : ℕ) → s < q → cost_at q costs p s ≢ first → true ≡ open_at (column_of q costs) p
    open-differs s l d = go (is_blank (column_of q costs p)) refl
      where
        same : is_blank (column_of q costs p) ≡ true → cost_of (column_of q costs p) s ≡ cost_of (column_of q costs p) 0
        same b = (blank-same (column_of q costs p)).0 b s 0 (omega (arith, column-length q costs p)) (omega (arith, column-length q costs p))

        go : (b : Bool) → is_blank (column_of q costs p) ≡ b → true ≡ open_at (column_of q costs) p
        go true b =
            absurd
            (d (sym (cost-column q costs p s l) ∙ same b ∙ cost-column q costs p 0 (omega arith) ∙ open-start 0 (omega arith)))
        go false b = sym (ap not b)

-- a loop that lends the next 2 ^ b costs of `out`, in which a call leaves the column of place p
module _ (b : ℕ) (frame old : List ℕ) where
  pub columns-start : old ≡ bit_costs b 0 frame ++ drop (2 ^ b * 0) old
  unfolding bit_costs
  columns-start = ap (λ k. drop k old) (sym (mul-zero (2 ^ b)))

  pub columns-turn : (out part values : List ℕ) (p : ℕ) → values ≡ values_at b frame p
      → part ≡ listed (length (take (2 ^ b * p + 2 ^ b - 2 ^ b * p) (drop (2 ^ b * p) out))) (symbol_cost b values)
      → 2 ^ b * p + 2 ^ b ≤ length out → out ≡ bit_costs b p frame ++ drop (2 ^ b * p) old
      → put_mid (2 ^ b * p) (2 ^ b * p + 2 ^ b - 2 ^ b * p) out part ≡ bit_costs b (p + 1) frame ++ drop (2 ^ b * (p + 1)) old
  unfolding bit_columns bit_column
  columns-turn out part values p v e fits f =
      let at : ℕ = 2 ^ b * p in
      let lent : length (take (at + 2 ^ b - at) (drop at out)) ≡ 2 ^ b =
      length-take-le (at + 2 ^ b - at) (drop at out) (omega (arith, length-drop at out)) ∙ omega arith in
      let k : at + (at + 2 ^ b - at) ≡ 2 ^ b * (p + 1) = omega (arith, mul-suc (2 ^ b) p, ap (λ n. 2 ^ b * n) (add-one p)) in
      stored-part out old (bit_costs b p frame) part at (at + 2 ^ b - at) (bit-costs-length b frame p ∙ mul_comm p (2 ^ b)) f
      ∙ ap₂ (λ (l : List ℕ) n. l ++ drop n old)
      (ap (λ (l : List ℕ). bit_costs b p frame ++ l) (e ∙ ap₂ (λ n (w : List ℕ). listed n (symbol_cost b w)) lent v)
      ∙ sym (bit-costs-suc b frame p) ∙ ap (λ n. bit_costs b n frame) (sym (add-one p)))
      k

  pub columns-end : (out : List ℕ) (n p : ℕ) → p ≡ n → length old ≡ n * 2 ^ b → out ≡ bit_costs b p frame ++ drop (2 ^ b * p) old → out ≡ bit_costs b n frame
  columns-end out n p e l f =
      let k : length old ≤ 2 ^ b * p = omega (arith, l, mul_comm n (2 ^ b), ap (λ j. 2 ^ b * j) e) in
      f ∙ ap (λ (r : List ℕ). bit_costs b p frame ++ r) (drop_of_length-le old k) ∙ append-nil (bit_costs b p frame) ∙ ap (λ j. bit_costs b j frame) e
