-- The list of n entries that a rule gives, and the three steps of a loop that stores it.
--
--   listed n f       f 0, f 1, …, f (n − 1)
--   listed_start, listed-turn, listed-end   a loop that stores f i at i: before it, at each turn, after it
--   listed-store     a turn whose value is f i by an equation
--   listed-read      what it has stored so far can be read
--   listed-length, listed_at, listed-ext    its length, its entries, equal rules
--   listed_cons      from the front
--   take-listed      the first k of them; listed-take: a list's first entries are listed by its entries
--   listed-get_d      every list is listed by its entries; listed_by: a list whose entries a rule gives
use Rattle.std.specs.Prelude.{◌≡◌, set, take, drop}
use Rattle.std.proofs.Math.Path.{refl, sym, ap, ap₂}
use Rattle.std.proofs.Common.{◌∙◌, lt-suc_self, eq-or-lt_of_le, le_of_suc-le-suc, arith, drop_of_length-le, drop-cons, take-suc, ext_get_or}
use mathlib.Core.List.{List, [], ◌∷◌, ◌++◌, append_assoc, append-nil}
use Rattle.std.proofs.Math.Logic.{⊎_elim}
use Prim.Native.Nat.{ℕ, zero, suc, ◌+◌, ◌<◌, ◌≤◌}
use Rattle.std.proofs.Math.Nat.{le_step}
use Rattle.std.proofs.Math.Numerals.{add-one}
use Rattle.std.proofs.Math.ListN.{length, get_or, length-append, get_or-append}
use Rattle.std.proofs.lemmas.List.{set_at}
use Rattle.std.proofs.Math.Seq.{get_or_at, take-length}

module _ {ℓ} {A : Type ℓ} where
  unfoldable pub listed : ℕ → (ℕ → A) → List A
  listed zero f = []
  listed (suc n) f = listed n f ++ (f n ∷ [])

  pub listed_nil : (f : ℕ → A) → listed 0 f ≡ []
  unfolding listed
  listed_nil f = refl

  pub listed_suc : (n : ℕ) (f : ℕ → A) → listed (suc n) f ≡ listed n f ++ (f n ∷ [])
  unfolding listed
  listed_suc n f = refl

  -- from the front
  pub listed_cons : (n : ℕ) (f : ℕ → A) → listed (suc n) f ≡ f 0 ∷ listed n (λ k. f (suc k))
  unfolding listed
  listed_cons zero f = refl
  listed_cons (suc n) f = ap (λ (l : List A). l ++ (f (suc n) ∷ [])) (listed_cons n f)

  pub listed-length : (n : ℕ) (f : ℕ → A) → length (listed n f) ≡ n
  unfolding listed
  listed-length zero f = refl
  listed-length (suc n) f =
      let h : length (listed n f) ≡ n = listed-length n f in
      length-append (listed n f) (f n ∷ []) ∙ ap (λ k. k + 1) h ∙ add-one n

  pub listed_at : (n k : ℕ) (f : ℕ → A) (d : A) → k < n → get_or (listed n f) k d ≡ f k
  unfolding listed
  listed_at zero k f d h = absurd (omega arith)
  listed_at (suc n) k f d h = ⊎_elim last (λ l. earlier l (listed_at n k f d l)) (eq-or-lt_of_le (le_of_suc-le-suc h))
    where
      last : k ≡ n → get_or (listed n f ++ (f n ∷ [])) k d ≡ f k
      last e =
          ap (λ j. get_or (listed n f ++ (f n ∷ [])) j d) e ∙ get_or_at (listed n f) (f n) [] d n (listed-length n f) ∙ ap f (sym e)

      earlier : k < n → get_or (listed n f) k d ≡ f k → get_or (listed n f ++ (f n ∷ [])) k d ≡ f k
      earlier l ih = get_or-append (listed n f) (f n ∷ []) d k (rw listed-length l) ∙ ih

  pub listed-ext : (n : ℕ) (f g : ℕ → A) → ((k : ℕ) → k < n → f k ≡ g k) → listed n f ≡ listed n g
  unfolding listed
  listed-ext zero f g h = refl
  listed-ext (suc n) f g h =
      ap₂ (λ (l : List A) x. l ++ (x ∷ [])) (listed-ext n f g (λ k l. h k (le_step l))) (h n (lt-suc_self n))

  pub listed-take : (n : ℕ) (l : List A) (d : A) → n ≤ length l → listed n (λ k. get_or l k d) ≡ take n l
  unfolding listed
  listed-take zero l d h = refl
  listed-take (suc n) l d h = ap (λ (r : List A). r ++ (get_or l n d ∷ [])) (listed-take n l d (omega arith)) ∙ sym (take-suc l n d h)

  pub take-listed : (d : A) (k n : ℕ) (f : ℕ → A) → k ≤ n → take k (listed n f) ≡ listed k f
  take-listed d k n f h =
      sym (listed-take k (listed n f) d (omega (arith, listed-length n f)))
      ∙ listed-ext k _ f (λ i l. listed_at n i f d (omega arith))

  pub listed-get_d : (l : List A) (d : A) → listed (length l) (λ k. get_or l k d) ≡ l
  listed-get_d l d = listed-take (length l) l d (omega arith) ∙ take-length l

  pub listed_by : (d : A) (n : ℕ) (l : List A) (f : ℕ → A) → length l ≡ n → ((k : ℕ) → k < n → get_or l k d ≡ f k) → l ≡ listed n f
  listed_by d n l f e h =
      ext_get_or d l (listed n f) (e ∙ sym (listed-length n f)) (λ k b. let q : k < n = omega arith in h k q ∙ sym (listed_at n k f d q))

  -- a loop that stores f i at i: what the array holds before it,
  pub listed_start : (l : List A) (f : ℕ → A) → l ≡ listed 0 f ++ drop 0 l
  unfolding listed
  listed_start l f = refl

  -- at each turn,
  pub listed-turn : (d : A) (out l : List A) (f : ℕ → A) (i : ℕ) → i < length l → out ≡ listed i f ++ drop i l
      → set out i (f i) ≡ listed (i + 1) f ++ drop (i + 1) l
  listed-turn d out l f i h e =
      ap (λ r. set r i (f i)) (e ∙ ap (λ r. listed i f ++ r) (drop-cons l i d h))
      ∙ set_at (listed i f) (get_or l i d) (drop (suc i) l) (f i) i (listed-length i f)
      ∙ sym (append_assoc (listed i f) (f i ∷ []) (drop (suc i) l))
      ∙ rw (add-one, listed_suc)

  -- the same where what is stored is only known to be f i,
  pub listed-store : (d : A) (out l : List A) (f : ℕ → A) (i : ℕ) (v : A) → i < length l → v ≡ f i → out ≡ listed i f ++ drop i l
      → set out i v ≡ listed (i + 1) f ++ drop (i + 1) l
  listed-store d out l f i v h q e = ap (set out i) q ∙ listed-turn d out l f i h e

  -- what is stored so far,
  pub listed-read : (out rest : List A) (f : ℕ → A) (i k : ℕ) (d : A) → k < i → out ≡ listed i f ++ rest → get_or out k d ≡ f k
  listed-read out rest f i k d h e =
      ap (λ (l : List A). get_or l k d) e ∙ get_or-append (listed i f) rest d k (rw listed-length h) ∙ listed_at i k f d h

  -- and after it
  pub listed-end : (out l : List A) (f : ℕ → A) (i : ℕ) → length l ≤ i → out ≡ listed i f ++ drop i l → out ≡ listed i f
  listed-end out l f i h e = e ∙ ap (λ r. listed i f ++ r) (drop_of_length-le l h) ∙ append-nil (listed i f)
