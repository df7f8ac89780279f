-- The loop that takes a multiple of a function away from the rest, byte by byte, for any field of numbers and any width.
--
--   Taken k v            the byte v is that of k
--   taken_at, taken-turn so is the byte that the code stores, at each turn
--   taken-all            below `up` the rest is left as it is
--   taken-nothing        zero times the function leaves all of it
use Rattle.std.specs.Prelude.{◌≡◌, List, ℕ, ◌+◌, ◌-◌, ◌<◌, ◌≤◌, length, get_or, set}
use Rattle.std.proofs.Common.{sym, ap, ◌∙◌, le_refl, arith}
use Rattle.std.proofs.Math.Decide.{dec_lt}
use Rattle.std.specs.Int.Bits.{bit_xor, xor_zero_r}
use Rattle.lists.specs.Listed.{listed, listed_by}
use Rattle.lists.specs.Passed.{Passed, passed-turn}
use Rattle.galois.specs.BinaryField.{Gf, times, times_comm, times_zero}
use Rattle.functions.specs.Dividing.{less_at, less_at-low, less_at-high}

module _ (gf : Gf) (width : ℕ) (rest : List ℕ) (by : ℕ) (f : List ℕ) (up : ℕ) where
  abbrev pub Taken : ℕ → ℕ → Type 0
  Taken k v = v ≡ less_at gf rest by f up k

  pub taken-nothing : by ≡ 0 → length rest ≡ width → rest ≡ listed width (less_at gf rest by f up)
  taken-nothing z n = listed_by 0 width rest (less_at gf rest by f up) n (λ k h. go k (dec_lt k up))
    where
      none : (k : ℕ) → times gf by (get_or f (k - up) 0) ≡ 0
      none k = ap (λ b. times gf b (get_or f (k - up) 0)) z ∙ times_comm gf 0 _ ∙ times_zero gf _

      go : (k : ℕ) → Dec (k < up) → get_or rest k 0 ≡ less_at gf rest by f up k
      go k (yes l) = sym (less_at-low gf rest by f up k l)
      go k (no l) = sym (less_at-high gf rest by f up k (omega arith) ∙ ap (bit_xor (get_or rest k 0)) (none k) ∙ xor_zero_r (get_or rest k 0))

  taken_at : (k p : ℕ) → up ≤ k → p ≡ times gf (get_or f (k - up) 0) by → Taken k (bit_xor (get_or rest k 0) p)
  taken_at k p h e = ap (bit_xor (get_or rest k 0)) (e ∙ times_comm gf _ by) ∙ sym (less_at-high gf rest by f up k h)

  -- where it is read, no turn has stored yet
  pub taken-turn : (out : List ℕ) (k p : ℕ) → up ≤ k → k < length rest → p ≡ times gf (get_or f (k - up) 0) by → Passed 0 Taken up k rest out
      → Passed 0 Taken up (k + 1) rest (set out k (bit_xor (get_or out k 0) p))
  taken-turn out k p h l e P =
      passed-turn 0 Taken _ h l (ap (λ x. bit_xor x p) (P.later k (le_refl k)) ∙ taken_at k p h e) P

  pub taken-all : {i : ℕ} (out : List ℕ) → length out ≡ width → width ≤ i → Passed 0 Taken up i rest out → out ≡ listed width (less_at gf rest by f up)
  taken-all {i} out n l p = listed_by 0 width out (less_at gf rest by f up) n (λ k h. go k h (dec_lt k up))
    where
      go : (k : ℕ) → k < width → Dec (k < up) → get_or out k 0 ≡ less_at gf rest by f up k
      go k h (yes g) = p.earlier k g ∙ sym (less_at-low gf rest by f up k g)
      go k h (no g) = p.stored k (omega arith) (omega arith)
