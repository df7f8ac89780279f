-- Values in bit planes: plane b is a number whose bit p is bit b of the value at lane p. For any number of planes, of any width.
--
--   Planes             the planes by the bit that they hold, lowest first
--   lane n f p         the number at lane p of n planes: below 2 ^ n (lane-lt)
--   bit_at-lane         its bits are those of the planes at p
--   lane-by            a lane whose bits are those of v holds v, below 2 ^ n
--   lane-like, lane-zero    lanes whose bits are equal; no planes
--   lane_xor           exclusive or adds in every lane
--   lane-down          planes divided by 2 ^ k hold lane k + p at lane p
--   lane-up, lane_under    multiplied by 2 ^ k and cut at a width: lane p at k + p, and 0 in lanes below
--   lane-kept, lane-emptied    a mask keeps the lanes of its bits, and empties the others
--   lanewise           an operation of & and ^ that is right on the bits of all numbers below 2 ^ n is right in every lane
--   lanewise-one       the same of one operand
use Rattle.std.specs.Prelude.{◌≡◌, ℕ, ◌+◌, ◌*◌, ◌/◌, ◌%◌, ◌^◌, ◌<◌}
use Rattle.std.proofs.Math.Path.{sym}
use Rattle.std.proofs.Common.{ap, ◌∙◌, mod-eq_of_lt, pow_pos}
use Rattle.std.specs.Int.Bits.{bit_and, bit_xor, and_zero_r}
use Rattle.std.proofs.lemmas.Nat.{and_mask}
use Rattle.packing.specs.Bits.{bit_at, bit_at_lt, bit_at-zero, bit_at-xor, bit_at-and, bit_at-down, bit_at-up, bit_at-under, bit_at-kept, from_bits, from_bits-lt, from_bits-ext, from_bits-xor, bit_at-from_bits, from_bits-bit_at}

abbrev pub Planes : Type 0
Planes = ℕ → ℕ

unfoldable pub lane : ℕ → Planes → ℕ → ℕ
lane n f p = from_bits n (λ b. bit_at (f b) p)

module _ (n : ℕ) where
  pub lane-lt : (f : Planes) (p : ℕ) → lane n f p < 2 ^ n
  unfolding lane
  lane-lt f p = from_bits-lt n _ (λ b. bit_at_lt (f b) p)

  pub bit_at-lane : (f : Planes) (p b : ℕ) → b < n → bit_at (lane n f p) b ≡ bit_at (f b) p
  unfolding lane
  bit_at-lane f p b h = bit_at-from_bits n _ (λ b. bit_at_lt (f b) p) b h

  pub lane-by : (f : Planes) (p v : ℕ) → ((b : ℕ) → b < n → bit_at (f b) p ≡ bit_at v b) → lane n f p ≡ v % 2 ^ n
  unfolding lane
  lane-by f p v h = from_bits-ext n _ (bit_at v) h ∙ from_bits-bit_at n v

  -- lanes whose bits are equal
  pub lane-like : (f g : Planes) (p q : ℕ) → ((b : ℕ) → b < n → bit_at (f b) p ≡ bit_at (g b) q) → lane n f p ≡ lane n g q
  unfolding lane
  lane-like f g p q h = from_bits-ext n _ _ h

  pub lane-zero : (p : ℕ) → lane n (λ b. 0) p ≡ 0
  lane-zero p = lane-by _ p 0 (λ b l. bit_at-zero p ∙ sym (bit_at-zero b)) ∙ mod-eq_of_lt (pow_pos n)

  pub lane_xor : (f g : Planes) (p : ℕ) → lane n (λ b. bit_xor (f b) (g b)) p ≡ bit_xor (lane n f p) (lane n g p)
  unfolding lane
  lane_xor f g p =
      from_bits-ext n _ _ (λ b l. bit_at-xor (f b) p (g b))
      ∙ from_bits-xor n _ _ (λ b. bit_at_lt (f b) p) (λ b. bit_at_lt (g b) p)

  -- ---- lanes that move
  pub lane-down : (f : Planes) (p k : ℕ) → lane n (λ b. f b / 2 ^ k) p ≡ lane n f (k + p)
  lane-down f p k = lane-like _ f p (k + p) (λ b l. bit_at-down (f b) p k)

  module _ (f : Planes) (k width : ℕ) where
    -- what stays of the planes, moved up within their width
    abbrev pub moved_up : Planes
    moved_up b = f b * 2 ^ k % 2 ^ width

    pub lane-up : (p : ℕ) → k + p < width → lane n moved_up (k + p) ≡ lane n f p
    lane-up p h = lane-like moved_up f (k + p) p (λ b l. bit_at-kept (f b * 2 ^ k) (k + p) width h ∙ bit_at-up (f b) p k)

    pub lane_under : (p : ℕ) → p < k → p < width → lane n moved_up p ≡ 0
    lane_under p h w =
        lane-like moved_up (λ b. 0) p p (λ b l. bit_at-kept (f b * 2 ^ k) p width w ∙ bit_at-under (f b) p k h ∙ sym (bit_at-zero p)) ∙ lane-zero p

  -- ---- lanes that a mask keeps
  module _ (f : Planes) (m p : ℕ) where
    pub lane-kept : bit_at m p ≡ 1 → lane n (λ b. bit_and (f b) m) p ≡ lane n f p
    lane-kept e =
        lane-like _ f p p (λ b l. bit_at-and (f b) p m ∙ ap (bit_and (bit_at (f b) p)) e ∙ and_mask (bit_at (f b) p) 1 ∙ mod-eq_of_lt (bit_at_lt (f b) p))

    pub lane-emptied : bit_at m p ≡ 0 → lane n (λ b. bit_and (f b) m) p ≡ 0
    lane-emptied e =
        lane-like _ (λ b. 0) p p (λ b l. bit_at-and (f b) p m ∙ ap (bit_and (bit_at (f b) p)) e ∙ and_zero_r (bit_at (f b) p) ∙ sym (bit_at-zero p))
        ∙ lane-zero p

  -- ---- an operation on planes, by its values on single bits
  module _ (F : Planes → Planes → Planes) where
    -- the operation, on the bits of two numbers
    abbrev pub on_bits : ℕ → ℕ → ℕ
    on_bits a b = from_bits n (F (bit_at a) (bit_at b))

    -- it works bit by bit, and on the first n planes alone
    pub record Bitwise : Type 0 where
      pub at_lane : (f g : Planes) (p b : ℕ) → b < n → bit_at (F f g b) p ≡ F (λ i. bit_at (f i) p) (λ i. bit_at (g i) p) b
      pub first : (f g h k : Planes) → ((i : ℕ) → i < n → f i ≡ h i) → ((i : ℕ) → i < n → g i ≡ k i) → (b : ℕ) → b < n → F f g b ≡ F h k b

    pub lanewise : Bitwise → (op : ℕ → ℕ → ℕ) → ((a b : ℕ) → a < 2 ^ n → b < 2 ^ n → on_bits a b ≡ op a b)
        → (f g : Planes) (p : ℕ) → lane n (F f g) p ≡ op (lane n f p) (lane n g p)
    unfolding lane
    lanewise bitwise op right f g p =
        from_bits-ext n _ _ (λ b l. bitwise.at_lane f g p b l
        ∙ bitwise.first _ _ _ _ (λ i h. sym (bit_at-lane f p i h)) (λ i h. sym (bit_at-lane g p i h)) b l)
        ∙ right (lane n f p) (lane n g p) (lane-lt f p) (lane-lt g p)

  module _ (F : Planes → Planes) where
    pub record BitwiseOne : Type 0 where
      pub at_lane : (f : Planes) (p b : ℕ) → b < n → bit_at (F f b) p ≡ F (λ i. bit_at (f i) p) b
      pub first : (f h : Planes) → ((i : ℕ) → i < n → f i ≡ h i) → (b : ℕ) → b < n → F f b ≡ F h b

    pub lanewise-one : BitwiseOne → (op : ℕ → ℕ) → ((a : ℕ) → a < 2 ^ n → from_bits n (F (bit_at a)) ≡ op a)
        → (f : Planes) (p : ℕ) → lane n (F f) p ≡ op (lane n f p)
    unfolding lane
    lanewise-one bitwise op right f p =
        from_bits-ext n _ _ (λ b l. bitwise.at_lane f p b l ∙ bitwise.first _ _ (λ i h. sym (bit_at-lane f p i h)) b l)
        ∙ right (lane n f p) (lane-lt f p)
