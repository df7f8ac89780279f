-- The elements of a field at the lanes of its planes, for any field of numbers: as many planes as it has bits.
--
--   element f p        the element at lane p: that of the number there (element-lane)
--   element-like       lanes with equal numbers hold equal elements
--   element-xor        exclusive or adds in every lane
--   Carries n v f      the planes hold v p at each lane p below n
--   carries-by         they do where their bits at a lane are those of its value
--   carries-tested     or where a test that is computed says so of each lane
use Rattle.std.specs.Prelude.{◌≡◌, ℕ, ◌<◌, T}
use Rattle.std.proofs.Math.Path.{refl, ap}
use Rattle.std.proofs.Common.{◌∙◌, eqb→eq}
use Rattle.std.specs.Int.Bits.{bit_xor}
use Rattle.std.proofs.Math.Dec.{eqb}
use Rattle.lists.specs.Every.{every, every-at}
use Rattle.galois.specs.BinaryField.{Gf, GF, K, to_f, to_f-add, to_f-mod}
use Rattle.packing.specs.Bits.{bit_at}
use Rattle.lanewise.specs.Lanes.{Planes, lane, lane-by, lane_xor}

module _ (𝓕 : Gf) where
  open K 𝓕 use {◌⊕◌}

  unfoldable pub element : Planes → ℕ → GF 𝓕
  element f p = to_f 𝓕 (lane 𝓕.bits f p)

  pub element-lane : (f : Planes) (p : ℕ) → element f p ≡ to_f 𝓕 (lane 𝓕.bits f p)
  unfolding element
  element-lane f p = refl

  pub element-like : (f g : Planes) (p q : ℕ) → lane 𝓕.bits f p ≡ lane 𝓕.bits g q → element f p ≡ element g q
  unfolding element
  element-like f g p q e = ap (to_f 𝓕) e

  pub element-xor : (f g : Planes) (p : ℕ) → element (λ b. bit_xor (f b) (g b)) p ≡ element f p ⊕ element g p
  unfolding element
  element-xor f g p = ap (to_f 𝓕) (lane_xor 𝓕.bits f g p) ∙ to_f-add 𝓕 _ _

  pub record Carries (n : ℕ) (v : ℕ → GF 𝓕) (f : Planes) : Type 0 where
    pub lanes : (p : ℕ) → p < n → element f p ≡ v p

  pub carries-by : (n : ℕ) (v : ℕ → ℕ) (f : Planes) → ((p b : ℕ) → p < n → b < 𝓕.bits → bit_at (f b) p ≡ bit_at (v p) b) → Carries n (λ p. to_f 𝓕 (v p)) f
  unfolding element
  carries-by n v f h = record { lanes = λ p l. ap (to_f 𝓕) (lane-by 𝓕.bits f p (v p) (λ b k. h p b l k)) ∙ to_f-mod 𝓕 (v p) }

  pub carries-tested : (n : ℕ) (v : ℕ → ℕ) (f : Planes) → T (every n (λ p. eqb (lane 𝓕.bits f p) (v p))) → Carries n (λ p. to_f 𝓕 (v p)) f
  unfolding element
  carries-tested n v f t =
      record { lanes = λ p l. ap (to_f 𝓕) (eqb→eq _ _ (every-at n (λ p. eqb (lane 𝓕.bits f p) (v p)) t p l)) }
