-- Changed places by the best symbols and the flags of the places that are not blank, for any number of places.
--
--   changed_by symbol best flag   the symbol is not the best one, at a place whose flag is 1
--   changed-best, changed-other   so it is where the symbol is not the best one, if the flag is 1
--   changed_in word best counts p   the same at a place, by the arrays
--   changed-flag           the flag of a place by its symbol
--   changed-listed         over the arrays of columns it is what is changed at each place
use Rattle.std.specs.Prelude.{Bool, true, false, not, ◌&&◌, ◌≡◌, refl, List, ◌≢◌, ℕ, eqb, get_or}
use Rattle.std.proofs.Math.Path.{sym}
use Rattle.std.proofs.Common.{ap, ap₂, ◌∙◌, eq-eqb, ne_eqb}
use Rattle.lists.specs.Count.{bit}
use Rattle.lists.specs.Listed.{listed, listed_at, listed-ext}
use Rattle.soft.specs.Blank.{flags_of, flag_at}
use Rattle.soft.specs.BlankLaws.{flags-at}
use Rattle.soft.specs.TestWord.{best_at, best_word}
use Rattle.soft.specs.Total.{symbol_at, changed_flags}

unfoldable pub changed_by : ℕ → ℕ → ℕ → Bool
changed_by symbol best flag = eqb flag 1 && not (eqb symbol best)

module _ (s best flag : ℕ) where
  nothing : (a b : Bool) → b ≡ true → (a && not b) ≡ false
  nothing true b h = ap not h
  nothing false b h = refl

  alone : (a b : Bool) → b ≡ false → (a && not b) ≡ a
  alone true b h = ap not h
  alone false b h = refl

  pub changed-best : s ≡ best → false ≡ changed_by s best flag
  unfolding changed_by
  changed-best h = sym (nothing (eqb flag 1) _ (eq-eqb s best h))

  pub changed-other : s ≢ best → eqb flag 1 ≡ changed_by s best flag
  unfolding changed_by
  changed-other h = sym (alone (eqb flag 1) _ (ne_eqb s best h))

-- at a place, by the arrays
unfoldable pub changed_in : List ℕ → List ℕ → List ℕ → ℕ → Bool
changed_in word best counts p = changed_by (symbol_at word p) (get_or best p 0) (get_or counts p 0)

-- the flag of a place, from its symbol
pub changed-flag : (word best counts : List ℕ) (p : ℕ) {s x : ℕ} {b : Bool} → s ≡ symbol_at word p → b ≡ changed_by s (get_or best p 0) (get_or counts p 0) → x ≡ bit b
    → x ≡ bit (changed_in word best counts p)
unfolding changed_in
changed-flag word best counts p s b x = x ∙ ap bit (b ∙ ap (λ y. changed_by y (get_or best p 0) (get_or counts p 0)) s)

pub changed-listed : (n : ℕ) (columns : ℕ → List ℕ) (word : List ℕ) {best counts : List ℕ} → best ≡ best_word n columns → counts ≡ flags_of n columns
    → listed n (λ p. bit (changed_in word best counts p)) ≡ changed_flags n columns word
unfolding changed_flags best_word changed_by changed_in
changed-listed n columns word e f =
    listed-ext n _ _
    (λ p l.
    ap₂ (λ (a : Bool) b. bit (a && not (eqb (symbol_at word p) b))) (ap (λ (c : List ℕ). flag_at c p) f ∙ flags-at n columns p l)
    (ap (λ (c : List ℕ). get_or c p 0) e ∙ listed_at n p (best_at columns) 0 l))
