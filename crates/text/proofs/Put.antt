-- A loop that puts text behind other text, byte by byte.
--
--   Putting d at s i out     i bytes of the text s stand behind the first `at` bytes of d
--   putting-start, putting-turn, putting-end   before the loop, at each turn, after it; putting-whole: the text ends where its length says
--   putting-room             the next byte has a place
--   putting-length           the buffer is as long as before
--   mapped_at                an entry of a mapped list
use mathlib.Core.Path.{◌≡◌, refl, sym, ap, ◌∙◌, subst}
use mathlib.Core.List.{List, [], ◌∷◌, ◌++◌, map}
use Prim.Native.Nat.{ℕ, zero, suc, ◌+◌, ◌≤◌, ◌<◌}
use native.Mathlib.Nat.{le_of_suc-le-suc, not-suc-le-zero}
use native.Mathlib.Numerals.{add-one}
use native.Mathlib.Omega.{arith}
use lib.ListN.{length, get_or, set, take}
use lib.Seq.{paste, paste-zero, paste-suc, take-paste, length-paste, take_all}
use Rattle.text.specs.Appended.{Appended}

pub record Putting (d : List ℕ) (at : ℕ) (s : List ℕ) (i : ℕ) (out : List ℕ) : Type 0 where
  pub within : i ≤ length s
  pub fits : at + length s ≤ length d
  pub text : out ≡ paste d at s i

pub putting-start : (d : List ℕ) (at : ℕ) (s : List ℕ) → at + length s ≤ length d → Putting d at s 0 d
putting-start d at s h = record { within = omega arith; fits = h; text = paste-zero d at s }

module _ {d s out : List ℕ} {at i : ℕ} (p : Putting d at s i out) where
  pub putting-length : length out ≡ length d
  putting-length = ap length p.text ∙ length-paste d at s i (omega (arith, p.within, p.fits)) p.within

  pub putting-room : i < length s → at + i < length out
  putting-room h = omega (arith, p.fits, putting-length)

  pub putting-turn : {v : ℕ} → i < length s → v ≡ get_or s i 0 → Putting d at s (i + 1) (set out (at + i) v)
  putting-turn {v} h e =
      record {
        within = omega arith;
        fits = p.fits;
        text =
            ap (λ (l : List ℕ). set l (at + i) v) p.text ∙ ap (set (paste d at s i) (at + i)) e
            ∙ paste-suc d at s i 0 (omega (arith, p.fits)) h ∙ ap (paste d at s) (sym (add-one i));
      }

  pub putting-end : length s ≤ i → Appended d at s (at + i) out
  putting-end h =
      let e : i ≡ length s = omega (arith, p.within) in
      record {
        end = omega arith;
        there =
            ap (take (at + i)) p.text ∙ take-paste d at s i (omega (arith, p.fits)) p.within
            ∙ ap (λ (l : List ℕ). take at d ++ l) (take_all i s h);
        room = putting-length;
      }

  pub putting-whole : {n : ℕ} → length s ≤ i → n ≡ length s → Appended d at s (at + n) out
  putting-whole {n} h e =
      let f : i ≡ n = omega (arith, p.within, e) in
      subst (λ k. Appended d at s (at + k) out) f (putting-end h)

pub mapped_at : (f : ℕ → ℕ) (l : List ℕ) (i : ℕ) → i < length l → get_or (map f l) i 0 ≡ f (get_or l i 0)
mapped_at f [] i h = absurd (not-suc-le-zero h)
mapped_at f (x ∷ l) zero h = refl
mapped_at f (x ∷ l) (suc i) h = mapped_at f l i (le_of_suc-le-suc h)
