-- A list read from its end, so that its first entry is the one of the highest index: what a numeral is to its digits.
--
--   falling n f          f (n − 1), …, f 1, f 0
--   from_end l k          the entry of l with k entries behind it, and 0 where there is none
--   falling-length, falling-at, falling-beyond, falling-ext   its length and its entries; equal rules
--   from_end-beyond       past the length there is none
--   falling-from_end      every list is falling by its entries from the end; fromEnd-ext: so they determine it
--   falling-below, from_end-below   with entries below q
--   falling-lex          of two such lists the one with the smaller entry at the highest difference stands first
use Rattle.std.specs.Prelude.{Bool, true, false, cond, ◌≡◌, refl, List, [], ◌∷◌, ℕ, zero, suc, ◌<◌, ◌≤◌, T, eqb, ltb, length}
use Rattle.std.proofs.Common.{sym, ap, ap₂, ◌∙◌, subst, ⊎_elim, eq-or-lt_of_le, le_of_suc-le-suc, lt-suc_self, arith, lt→ltb, ltb→lt, eq-eqb, ne_eqb}
use Rattle.std.proofs.Math.Nat.{le_step}
use Rattle.lists.specs.Every.{both_left, both_right, both-intro}
use Rattle.lists.specs.Words.{all_below, Lex, lex_here, lex_later}

unfoldable pub falling : ℕ → (ℕ → ℕ) → List ℕ
falling zero f = []
falling (suc n) f = f n ∷ falling n f

unfoldable pub from_end : List ℕ → ℕ → ℕ
from_end [] k = 0
from_end (a ∷ l) k = cond (eqb k (length l)) a (from_end l k)

-- the first entry has the rest behind it
from_end-first : (a : ℕ) (l : List ℕ) (k : ℕ) → k ≡ length l → from_end (a ∷ l) k ≡ a
unfolding from_end
from_end-first a l k e = ap (λ b. cond b a (from_end l k)) (eq-eqb k (length l) e)

from_end-rest : (a : ℕ) (l : List ℕ) (k : ℕ) → (k ≡ length l → ⊥) → from_end (a ∷ l) k ≡ from_end l k
unfolding from_end
from_end-rest a l k h = ap (λ b. cond b a (from_end l k)) (ne_eqb k (length l) h)

pub from_end-beyond : (l : List ℕ) (k : ℕ) → length l ≤ k → from_end l k ≡ 0
unfolding from_end
from_end-beyond [] k h = refl
from_end-beyond (a ∷ l) k h = from_end-rest a l k (λ e. omega arith) ∙ from_end-beyond l k (omega arith)

pub falling-length : (n : ℕ) (f : ℕ → ℕ) → length (falling n f) ≡ n
unfolding falling
falling-length zero f = refl
falling-length (suc n) f = ap suc (falling-length n f)

pub falling-at : (n : ℕ) (f : ℕ → ℕ) (k : ℕ) → k < n → from_end (falling n f) k ≡ f k
unfolding falling
falling-at zero f k h = absurd (omega arith)
falling-at (suc n) f k h = ⊎_elim here (λ l. later l (falling-at n f k l)) (eq-or-lt_of_le (le_of_suc-le-suc h))
  where
    here : k ≡ n → from_end (f n ∷ falling n f) k ≡ f k
    here e = from_end-first (f n) (falling n f) k (e ∙ sym (falling-length n f)) ∙ ap f (sym e)

    later : k < n → from_end (falling n f) k ≡ f k → from_end (f n ∷ falling n f) k ≡ f k
    later l ih = from_end-rest (f n) (falling n f) k (λ e. omega (arith, falling-length n f)) ∙ ih

pub falling-beyond : (n : ℕ) (f : ℕ → ℕ) (k : ℕ) → n ≤ k → from_end (falling n f) k ≡ 0
falling-beyond n f k h = from_end-beyond (falling n f) k (omega (arith, falling-length n f))

pub falling-ext : (n : ℕ) (f g : ℕ → ℕ) → ((k : ℕ) → k < n → f k ≡ g k) → falling n f ≡ falling n g
unfolding falling
falling-ext zero f g h = refl
falling-ext (suc n) f g h = ap₂ (λ a l. a ∷ l) (h n (lt-suc_self n)) (falling-ext n f g (λ k l. h k (le_step l)))

pub falling-from_end : (l : List ℕ) → falling (length l) (from_end l) ≡ l
unfolding falling
falling-from_end [] = refl
falling-from_end (a ∷ l) =
    ap₂ (λ b r. b ∷ r) (from_end-first a l (length l) refl)
    (falling-ext (length l) (from_end (a ∷ l)) (from_end l) (λ k h. from_end-rest a l k (λ e. omega arith)) ∙ falling-from_end l)

-- two lists of one length with the same entries are one
pub from_end-ext : (l m : List ℕ) → length l ≡ length m → ((k : ℕ) → k < length m → from_end l k ≡ from_end m k) → l ≡ m
from_end-ext l m e h =
    sym (falling-from_end l) ∙ ap (λ n. falling n (from_end l)) e ∙ falling-ext (length m) (from_end l) (from_end m) h ∙ falling-from_end m

pub falling-below : (q n : ℕ) (f : ℕ → ℕ) → ((k : ℕ) → k < n → f k < q) → T (all_below q (falling n f))
unfolding falling all_below
falling-below q zero f h = tt
falling-below q (suc n) f h =
    both-intro (ltb (f n) q) (all_below q (falling n f)) (lt→ltb (f n) q (h n (lt-suc_self n))) (falling-below q n f (λ k l. h k (le_step l)))

pub from_end-below : (q : ℕ) (l : List ℕ) → 0 < q → T (all_below q l) → (k : ℕ) → from_end l k < q
unfolding from_end all_below
from_end-below q [] p t k = p
from_end-below q (a ∷ l) p t k = go (eqb k (length l)) (from_end-below q l p (both_right (ltb a q) (all_below q l) t) k)
  where
    go : (b : Bool) → from_end l k < q → cond b a (from_end l k) < q
    go true ih = ltb→lt a q (both_left (ltb a q) (all_below q l) t)
    go false ih = ih

pub falling-lex : (n : ℕ) (f g : ℕ → ℕ) (k : ℕ) → k < n → f k < g k → ((j : ℕ) → k < j → j < n → f j ≡ g j) → Lex (falling n f) (falling n g)
unfolding falling
falling-lex zero f g k h l e = absurd (omega arith)
falling-lex (suc n) f g k h l e =
    ⊎_elim (λ (q : k ≡ n). lex_here (subst (λ i. f i < g i) q l))
    (λ b. lex_later (e n b (lt-suc_self n)) (falling-lex n f g k b l (λ j p r. e j p (le_step r)))) (eq-or-lt_of_le (le_of_suc-le-suc h))
