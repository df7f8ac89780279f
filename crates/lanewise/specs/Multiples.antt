-- Multiples of a row: a few of them add to any, for any field and any grouping of its bits.
--
--   Multiple row k m       m is k times row in every lane of both parts
--   multiple-none, multiple-own, multiple-twice, multiple-sum   0 and 1 times a row, α times a multiple, and the sum of two
--   factor s i             the factors in groups of s bits: 0 to 2 ^ s − 1, and the same times 2 ^ s, and so on
--   MultiplesOf s t row ms ms has the multiples of t groups
--   picked s by j          where the multiple stands that has the j-th group of by's bits
--   grouped-is             these groups add to by, below 2 ^ (t s)
--   AddedBy s t row by ms r   a row plus by times whatever row the multiples are of
--   added_more, added-all  group by group they add to that
use Rattle.std.specs.Prelude.{◌≡◌, List, [], get_or}
use Rattle.std.proofs.Common.{sym, ◌∙◌, zero-mul as zero-times, arith, pow_pos}
use Rattle.std.proofs.Math.Path.{ap, ap₂}
use Prim.Native.Nat.{ℕ, zero, suc, ◌+◌, ◌*◌, ◌/◌, ◌%◌, ◌^◌, ◌<◌, ◌≤◌}
use Rattle.std.proofs.Math.Nat.{mod-lt, mod-one, suc-mul, mul-le-mul_right}
use Rattle.std.specs.Int.Bits.{bit_xor, xor_zero_r}
use Rattle.std.proofs.lemmas.Nat.{xor_block, mod-pow-add}
use Rattle.std.proofs.Math.Pow.{low, high}
use Rattle.algebra.specs.Field.{add_assoc, mul_assoc, one-mul, zero-mul, add-mul}
use Rattle.galois.specs.BinaryField.{Gf, K, times, to_f, to_f-add, to_f-times, to_f-zero, to_f-one, to_f-mod}
use Rattle.lanewise.specs.Product.{ProductTests}
use Rattle.lanewise.specs.Arrays.{none-element}
use Rattle.lanewise.specs.Rows.{value_at, row_of, value-whole-of, value-slope-of, row_sum_of, value-sum, doubled_row, value-doubled, Added, added-nothing, added_is}

-- ---- numbers by groups of their bits
unfoldable pub factor : ℕ → ℕ → ℕ
factor s i = i % 2 ^ s * 2 ^ (i / 2 ^ s * s)

abbrev pub group : ℕ → ℕ → ℕ → ℕ
group s by j = by / 2 ^ (j * s) % 2 ^ s

abbrev pub picked : ℕ → ℕ → ℕ → ℕ
picked s by j = j * 2 ^ s + group s by j

unfoldable pub grouped : ℕ → ℕ → ℕ → ℕ
grouped s zero by = 0
grouped s (suc t) by = bit_xor (grouped s t by) (factor s (picked s by t))

factor-picked : (s by j : ℕ) → factor s (picked s by j) ≡ group s by j * 2 ^ (j * s)
unfolding factor
factor-picked s by j =
    let d : group s by j < 2 ^ s = mod-lt (by / 2 ^ (j * s)) (pow_pos s) in
    ap₂ (λ x y. x * 2 ^ (y * s)) (low j s d) (high j s d)

pub grouped-is : (s t by : ℕ) → grouped s t by ≡ by % 2 ^ (t * s)
unfolding grouped
grouped-is s zero by = sym (ap (λ k. by % 2 ^ k) (zero-times s) ∙ mod-one by)
grouped-is s (suc t) by =
    let k : ℕ = t * s in
    let below : by % 2 ^ k < 2 ^ k = mod-lt by (pow_pos k) in
    let e : suc t * s ≡ s + t * s = omega arith in
    ap₂ bit_xor (grouped-is s t by) (factor-picked s by t)
    ∙ ap₂ bit_xor (sym (nothing_above (by % 2 ^ k))) (sym (nothing-below (group s by t * 2 ^ k)))
    ∙ xor_block k 0 (group s by t) (by % 2 ^ k) 0 below (pow_pos k)
    ∙ ap (λ x. group s by t * 2 ^ k + x) (xor_zero_r (by % 2 ^ k))
    ∙ sym (mod-pow-add by s k) ∙ sym (ap (λ n. by % 2 ^ n) e)
  where
    nothing_above : (x : ℕ) → 0 * 2 ^ (t * s) + x ≡ x
    nothing_above x = omega arith

    nothing-below : (x : ℕ) → x + 0 ≡ x
    nothing-below x = omega arith

module _ (𝓕 : Gf) where
  open K 𝓕 use {◌⊕◌, ◌⊗◌, 𝟘}

  -- ---- one multiple
  pub record Multiple (row : List ℕ) (k : ℕ) (m : List ℕ) : Type 0 where
    pub lanes : (h p : ℕ) → h < 2 → value_at 𝓕 h m p ≡ to_f 𝓕 k ⊗ value_at 𝓕 h row p

  -- a row of zeros
  abbrev pub none_row : List ℕ
  none_row = row_of 𝓕 (λ b. 0) (λ b. 0)

  value_none : (h p : ℕ) → h < 2 → value_at 𝓕 h none_row p ≡ 𝟘
  value_none zero p l = value-whole-of 𝓕 _ _ p ∙ none-element 𝓕 p
  value_none (suc zero) p l = value-slope-of 𝓕 _ _ p ∙ none-element 𝓕 p
  value_none (suc (suc h)) p l = absurd (omega arith)

  module _ {row : List ℕ} where
    pub multiple-none : Multiple row 0 none_row
    multiple-none =
        record { lanes = λ h p l. value_none h p l ∙ sym (ap (λ x. x ⊗ value_at 𝓕 h row p) (to_f-zero 𝓕) ∙ zero-mul (K 𝓕) _) }

    pub multiple-own : Multiple row 1 row
    multiple-own = record { lanes = λ h p l. sym (ap (λ x. x ⊗ value_at 𝓕 h row p) (to_f-one 𝓕) ∙ one-mul (K 𝓕) _) }

    pub multiple-twice : ProductTests 𝓕 → {k : ℕ} {m r : List ℕ} → r ≡ doubled_row 𝓕 m → Multiple row k m → Multiple row (times 𝓕 2 k) r
    multiple-twice t {k} {m} {r} e M =
        record {
          lanes = λ h p l.
              ap (λ x. value_at 𝓕 h x p) e ∙ value-doubled 𝓕 m t h p l ∙ ap (λ x. to_f 𝓕 2 ⊗ x) (M.lanes h p l)
              ∙ sym (mul_assoc (K 𝓕) (to_f 𝓕 2) (to_f 𝓕 k) (value_at 𝓕 h row p)) ∙ ap (λ x. x ⊗ value_at 𝓕 h row p) (sym (to_f-times 𝓕 2 k));
        }

    pub multiple-sum : {j k : ℕ} {a b r : List ℕ} → r ≡ row_sum_of 𝓕 a b → Multiple row j a → Multiple row k b → Multiple row (bit_xor j k) r
    multiple-sum {j} {k} {a} {b} {r} e A B =
        record {
          lanes = λ h p l.
              ap (λ x. value_at 𝓕 h x p) e ∙ value-sum 𝓕 a b h p l ∙ ap₂ (λ x y. x ⊕ y) (A.lanes h p l) (B.lanes h p l)
              ∙ sym (add-mul (K 𝓕) (to_f 𝓕 j) (to_f 𝓕 k) (value_at 𝓕 h row p)) ∙ ap (λ x. x ⊗ value_at 𝓕 h row p) (sym (to_f-add 𝓕 j k));
        }

  -- ---- groups of multiples
  module _ (s t : ℕ) where
    pub record MultiplesOf (row : List ℕ) (ms : List (List ℕ)) : Type 0 where
      pub each : (i : ℕ) → i < t * 2 ^ s → Multiple row (factor s i) (get_or ms i [])

    -- whatever row the multiples are of
    pub record AddedBy (row : List ℕ) (by : ℕ) (ms : List (List ℕ)) (r : List ℕ) : Type 0 where
      pub from : (other : List ℕ) → MultiplesOf other ms → Added 𝓕 row by other r

    module _ {row : List ℕ} {ms : List (List ℕ)} where
      pub by-nothing : {d : ℕ} → to_f 𝓕 d ≡ 𝟘 → AddedBy row d ms row
      by-nothing {d} z = record { from = λ other M. added-nothing 𝓕 d z }

      -- one group more
      pub added_more : (by j : ℕ) {r v : List ℕ} → j < t → v ≡ row_sum_of 𝓕 r (get_or ms (picked s by j) []) → AddedBy row (grouped s j by) ms r
          → AddedBy row (grouped s (suc j) by) ms v
      unfolding grouped
      added_more by j {r} {v} l e A =
          record {
            from = λ other M.
                record {
                  lanes = λ h p k.
                      ap (λ x. value_at 𝓕 h x p) e ∙ value-sum 𝓕 r _ h p k
                      ∙ ap₂ (λ x y. x ⊕ y) ((A.from other M).lanes h p k) ((M.each (picked s by j) (inside by j l)).lanes h p k)
                      ∙ add_assoc (K 𝓕) _ _ _
                      ∙ ap (λ x. value_at 𝓕 h row p ⊕ x)
                      (sym (add-mul (K 𝓕) _ _ (value_at 𝓕 h other p)) ∙ ap (λ x. x ⊗ value_at 𝓕 h other p) (sym (to_f-add 𝓕 _ _)));
                };
          }
        where
          inside : (by j : ℕ) → j < t → picked s by j < t * 2 ^ s
          inside by j l =
              let d : group s by j < 2 ^ s = mod-lt (by / 2 ^ (j * s)) (pow_pos s) in
              let m : suc j * 2 ^ s ≤ t * 2 ^ s = mul-le-mul_right (2 ^ s) l in
              omega (arith, suc-mul j (2 ^ s))

      pub added-all : t * s ≡ 𝓕.bits → (by : ℕ) {r : List ℕ} → AddedBy row (grouped s t by) ms r → AddedBy row by ms r
      added-all e by A =
          record { from = λ other M. added_is 𝓕 by (ap (to_f 𝓕) (grouped-is s t by ∙ ap (λ k. by % 2 ^ k) e) ∙ to_f-mod 𝓕 by) (A.from other M) }
