-- The two parts of the polynomial that values hold, for every member, and whatever way coefficients are read off values.
--
--   first_at word v p       the number of the value of Q0 at place p: that of Q and the word's symbol times the slope
--   second_at v p           the number of the value of Q1 there
--   Recovers read          read gives the coefficients of a function on the curve, with orders below the number of places, by the list of its values
--   first_of read word v, second_of read v    the coefficients of Q0 and Q1, by order
--   first-recovered, second-recovered    where v has the values of a Q, and these orders are below the number of places, these are the parts of Q
--   parts_join             two parts make Q
use Rattle.std.specs.Prelude.{◌≡◌, List, ℕ, ◌<◌, get_or}
use Rattle.std.proofs.Common.{sym, ap, ◌∙◌}
use Rattle.lists.specs.Listed.{listed, listed_at}
use Rattle.algebra.specs.Coefficients.{Below}
use Rattle.algebra.specs.Weighted.{weighted-is}
use Rattle.galois.specs.BinaryField.{GF, K, to_f, value, to_f-value}
use Rattle.hermitian.specs.Ring.{Fn}
use Rattle.hermitian.specs.Value.{Val}
use Rattle.hermitian.specs.Interpolant.{Interpolant, without_z, with_z, joined, without-joined, with-joined, gap-joined, gap, parts-ext, fn-without_z, fn_with_z}
use Rattle.family.specs.Member.{Member, places, px, py}
use Rattle.values.specs.Holds.{Values, Holds, first-value}

module _ (𝓜 : Member) where
  open 𝓜 use {gf, w}
  open K gf use {◌⊕◌, ◌⊗◌}

  unfoldable pub first_at : List ℕ → Values 𝓜 → ℕ → ℕ
  first_at word v p = value gf (v 0 p ⊕ to_f gf (get_or word p 0) ⊗ v 1 p)

  unfoldable pub second_at : Values 𝓜 → ℕ → ℕ
  second_at v p = value gf (v 1 p)

  pub record Recovers (read : List ℕ → List ℕ) : Type 0 where
    pub recovered : {f : ℕ → GF gf} → Fn (K gf) w f → Below (K gf) f (places 𝓜) → (v : List ℕ)
        → ((p : ℕ) → p < places 𝓜 → Val (K gf) w (px 𝓜 p) (py 𝓜 p) f (to_f gf (get_or v p 0))) → (o : ℕ) → to_f gf (get_or (read v) o 0) ≡ f o

  module _ (read : List ℕ → List ℕ) where
    unfoldable pub first_of : List ℕ → Values 𝓜 → List ℕ
    first_of word v = read (listed (places 𝓜) (first_at word v))

    unfoldable pub second_of : Values 𝓜 → List ℕ
    second_of v = read (listed (places 𝓜) (second_at v))

  module _ {M : ℕ} {word : List ℕ} {v : Values 𝓜} {Q : ℕ → GF gf} (is-Q : Interpolant (K gf) w M Q) (H : Holds 𝓜 M word v Q) where
    first-values : (p : ℕ) → p < places 𝓜 → Val (K gf) w (px 𝓜 p) (py 𝓜 p) (without_z (K gf) Q) (to_f gf (get_or (listed (places 𝓜) (first_at word v)) p 0))
    unfolding first_at
    first-values p l =
        weighted-is (K gf) (sym (ap (to_f gf) (listed_at (places 𝓜) p (first_at word v) 0 l) ∙ to_f-value gf _))
        (first-value 𝓜 M p (get_or word p 0) (H.whole p l) (H.slope p l))

    second-values : (p : ℕ) → p < places 𝓜 → Val (K gf) w (px 𝓜 p) (py 𝓜 p) (with_z (K gf) M Q) (to_f gf (get_or (listed (places 𝓜) (second_at v)) p 0))
    unfolding second_at
    second-values p l =
        weighted-is (K gf) (sym (ap (to_f gf) (listed_at (places 𝓜) p (second_at v) 0 l) ∙ to_f-value gf _)) (H.slope p l)

    module _ {read : List ℕ → List ℕ} (reads : Recovers read) where
      pub first-recovered : Below (K gf) (without_z (K gf) Q) (places 𝓜) → (o : ℕ) → to_f gf (get_or (first_of read word v) o 0) ≡ without_z (K gf) Q o
      unfolding first_of
      first-recovered b = reads.recovered (fn-without_z (K gf) w M is-Q) b (listed (places 𝓜) (first_at word v)) first-values

      pub second-recovered : Below (K gf) (with_z (K gf) M Q) (places 𝓜) → (o : ℕ) → to_f gf (get_or (second_of read v) o 0) ≡ with_z (K gf) M Q o
      unfolding second_of
      second-recovered b = reads.recovered (fn_with_z (K gf) w M is-Q) b (listed (places 𝓜) (second_at v)) second-values

  module _ {M : ℕ} {Q : ℕ → GF gf} (is-Q : Interpolant (K gf) w M Q) where
    pub parts_join : {c d : ℕ → GF gf} → c ≡ without_z (K gf) Q → d ≡ with_z (K gf) M Q → joined (K gf) M c d ≡ Q
    parts_join e f =
        parts-ext (K gf) M (gap-joined (K gf) M _ _) (gap (K gf) w M is-Q) (without-joined (K gf) M _ _ ∙ e) (with-joined (K gf) M _ _ ∙ f)
