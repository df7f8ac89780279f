-- A list kept in an array of fixed width: its entries from the front, zeros behind them.
--
--   padded w l       the first w entries of l, and zeros up to w entries
--   padded-length    it has w entries
--   padded-nil       the empty list is all zeros, and so is one of zeros: padded-zeros
--   padded-snoc, padded-full   one entry more is one store, while there is room; without room nothing changes
--   padded-if        one entry more or none, by a test
--   padded-take      a list with room is read back from the front
--   padded-rest      behind the list stand zeros
--   padded-over      it is the list written over zeros
--   padded-same      a list as long as the array is itself
use Rattle.std.specs.Prelude.{Bool, true, false, cond, ◌≡◌, refl, List, [], ◌∷◌, ◌++◌, ℕ, zero, suc, ◌<◌, ◌≤◌, length, set, take, drop, replicate}
use Rattle.std.proofs.Common.{sym, ap, ◌∙◌, append-nil, le_of_suc-le-suc, arith}
use Rattle.std.proofs.Math.Decide.{dec_le}
use Rattle.std.proofs.Math.Seq.{set_out}
use Rattle.std.proofs.lemmas.List.{length-replicate}
use Rattle.lists.specs.Over.{over, over-same}

unfoldable pub padded : ℕ → List ℕ → List ℕ
padded zero [] = []
padded zero (x ∷ l) = []
padded (suc w) [] = 0 ∷ padded w []
padded (suc w) (x ∷ l) = x ∷ padded w l

pub padded-length : (w : ℕ) (l : List ℕ) → length (padded w l) ≡ w
unfolding padded
padded-length zero [] = refl
padded-length zero (x ∷ l) = refl
padded-length (suc w) [] = ap suc (padded-length w [])
padded-length (suc w) (x ∷ l) = ap suc (padded-length w l)

pub padded-nil : (w : ℕ) → padded w [] ≡ replicate w 0
unfolding padded
padded-nil zero = refl
padded-nil (suc w) = ap (λ (r : List ℕ). 0 ∷ r) (padded-nil w)

pub padded-zeros : (w n : ℕ) → padded w (replicate n 0) ≡ replicate w 0
unfolding padded
padded-zeros w zero = padded-nil w
padded-zeros zero (suc n) = refl
padded-zeros (suc w) (suc n) = ap (λ (r : List ℕ). 0 ∷ r) (padded-zeros w n)

pub padded-full : (w : ℕ) (l m : List ℕ) → w ≤ length l → padded w (l ++ m) ≡ padded w l
unfolding padded
padded-full zero [] [] h = refl
padded-full zero [] (y ∷ m) h = refl
padded-full zero (x ∷ l) m h = refl
padded-full (suc w) [] m h = absurd (omega arith)
padded-full (suc w) (x ∷ l) m h = ap (λ (r : List ℕ). x ∷ r) (padded-full w l m (le_of_suc-le-suc h))

pub padded-take : (w : ℕ) (l : List ℕ) → length l ≤ w → take (length l) (padded w l) ≡ l
unfolding padded
padded-take zero [] h = refl
padded-take zero (x ∷ l) h = absurd (omega arith)
padded-take (suc w) [] h = refl
padded-take (suc w) (x ∷ l) h = ap (λ (r : List ℕ). x ∷ r) (padded-take w l (le_of_suc-le-suc h))

pub padded-rest : (w : ℕ) (l : List ℕ) → drop (length l) (padded w l) ≡ drop (length l) (replicate w 0)
unfolding padded
padded-rest zero [] = refl
padded-rest zero (x ∷ l) = refl
padded-rest (suc w) [] = padded-nil (suc w)
padded-rest (suc w) (x ∷ l) = padded-rest w l

pub padded-over : (w : ℕ) (l : List ℕ) → over l (replicate w 0) ≡ padded w l
unfolding over padded
padded-over zero [] = refl
padded-over zero (x ∷ l) = refl
padded-over (suc w) [] = sym (padded-nil (suc w))
padded-over (suc w) (x ∷ l) = ap (λ (r : List ℕ). x ∷ r) (padded-over w l)

pub padded-snoc : (w : ℕ) (l : List ℕ) (x : ℕ) → length l < w → set (padded w l) (length l) x ≡ padded w (l ++ (x ∷ []))
unfolding padded
padded-snoc zero l x h = absurd (omega arith)
padded-snoc (suc w) [] x h = refl
padded-snoc (suc w) (y ∷ l) x h = ap (λ (r : List ℕ). y ∷ r) (padded-snoc w l x (le_of_suc-le-suc h))

-- one entry more or none, by a test: a store or none, and beyond the width a store changes nothing
pub padded-if : (w : ℕ) (l : List ℕ) (x at : ℕ) (b : Bool) → at ≡ length l → cond b (set (padded w l) at x) (padded w l) ≡ padded w (l ++ cond b (x ∷ []) [])
padded-if w l x at false e = ap (padded w) (sym (append-nil l))
padded-if w l x at true e = go (dec_le w at)
  where
    go : Dec (w ≤ at) → set (padded w l) at x ≡ padded w (l ++ (x ∷ []))
    go (yes h) = set_out (padded w l) at x (omega (arith, padded-length w l)) ∙ sym (padded-full w l (x ∷ []) (omega arith))
    go (no h) = ap (λ n. set (padded w l) n x) e ∙ padded-snoc w l x (omega arith)

pub padded-same : (w : ℕ) (l : List ℕ) → length l ≡ w → padded w l ≡ l
padded-same w l e = sym (padded-over w l) ∙ over-same l (replicate w 0) (length-replicate {A = ℕ} w 0 ∙ sym e)
