-- A table whose rows of equal width stand one after the other in one list.
--
--   block w q l        row number q, of width w
--   put_block w q r l   the table with r as its row number q
--   block-length, block_at        a row's length and entries
--   put-length, put_same, put_other   the table keeps its length; row q is r; every other row is as it was
--   block-ext          tables of equal rows are equal
--   block-replicate    the rows of a table of equal entries
use Rattle.std.specs.Prelude.{◌≡◌, List, ◌++◌, ℕ, ◌+◌, ◌-◌, ◌*◌, ◌/◌, ◌%◌, ◌<◌, ◌≤◌, take, drop, replicate}
use Rattle.std.proofs.Math.Path.{sym, ap}
use Rattle.std.proofs.Common.{◌∙◌, subst, mul-suc, mul-le-mul_left, div-add-mod', mod-lt, mul_comm, div-lt_iff_lt-mul, length-append, get_or-append-add}
use Rattle.std.proofs.Math.Decide.{dec_le}
use native.Mathlib.Omega.{arith}
use Rattle.std.proofs.Math.ListN.{length, get_or, length-drop, get_or-append}
use Rattle.std.proofs.lemmas.List.{get_or-replicate, length-replicate}
use Rattle.std.proofs.Math.Seq.{get_or-take, get_or-drop, ext_get_or, paste, length-paste, length_paste_head, length-take-le}

unfoldable pub block {ℓ} : {A : Type ℓ} → ℕ → ℕ → List A → List A
block w q l = take w (drop (w * q) l)

unfoldable pub put_block {ℓ} : {A : Type ℓ} → ℕ → ℕ → List A → List A → List A
put_block w q r l = paste l (w * q) r w

-- row q ends where row q + 1 begins
pub row-end : (w q n : ℕ) → q < n → w * q + w ≤ w * n
row-end w q n h = subst (λ k. k ≤ w * n) (mul-suc w q) (mul-le-mul_left w h)

module _ {A : Type 0} where
  pub block-length : (w q : ℕ) (l : List A) → w * q + w ≤ length l → length (block w q l) ≡ w
  unfolding block
  block-length w q l h = length-take-le w (drop (w * q) l) (rw length-drop (omega arith))

  pub block_at : (w q : ℕ) (l : List A) (i : ℕ) (d : A) → i < w → get_or (block w q l) i d ≡ get_or l (w * q + i) d
  unfolding block
  block_at w q l i d h = get_or-take w (drop (w * q) l) i d h ∙ get_or-drop (w * q) l i d

  -- the entries of a copy: those of the source where they were copied to,
  paste-at : (l : List A) (at : ℕ) (s : List A) (n i : ℕ) (d : A) → at ≤ length l → n ≤ length s → i < n
      → get_or (paste l at s n) (at + i) d ≡ get_or s i d
  paste-at l at s n i d h k b =
      let e : length (take at l) ≡ at = length-take-le at l h in
      get_or-append (take at l ++ take n s) (drop (at + n) l) d (at + i) (rw (length_paste_head l at s n h k) (omega arith))
      ∙ ap (λ j. get_or (take at l ++ take n s) (j + i) d) (sym e) ∙ get_or-append-add (take at l) (take n s) i d ∙ get_or-take n s i d b

  -- and the old ones before and after them
  paste-before : (l : List A) (at : ℕ) (s : List A) (n i : ℕ) (d : A) → at ≤ length l → i < at → get_or (paste l at s n) i d ≡ get_or l i d
  paste-before l at s n i d h b =
      let e : length (take at l) ≡ at = length-take-le at l h in
      get_or-append (take at l ++ take n s) (drop (at + n) l) d i (rw (length-append) (omega arith))
      ∙ get_or-append (take at l) (take n s) d i (omega arith) ∙ get_or-take at l i d b

  paste-after : (l : List A) (at : ℕ) (s : List A) (n i : ℕ) (d : A) → at ≤ length l → n ≤ length s
      → get_or (paste l at s n) (at + n + i) d ≡ get_or l (at + n + i) d
  paste-after l at s n i d h k =
      ap (λ j. get_or (paste l at s n) (j + i) d) (sym (length_paste_head l at s n h k))
      ∙ get_or-append-add (take at l ++ take n s) (drop (at + n) l) i d ∙ get_or-drop (at + n) l i d

  module _ (w q : ℕ) (r l : List A) (fits : w * q + w ≤ length l) (wide : length r ≡ w) where
    pub put-length : length (put_block w q r l) ≡ length l
    unfolding put_block
    put-length = length-paste l (w * q) r w fits (omega arith)

    pub put_same : (d : A) → block w q (put_block w q r l) ≡ r
    unfolding put_block
    put_same d =
        let n : length (put_block w q r l) ≡ length l = put-length in
        let m : length (block w q (put_block w q r l)) ≡ w = block-length w q (put_block w q r l) (omega arith) in
        ext_get_or d (block w q (put_block w q r l)) r (omega arith)
        (λ i h. block_at w q (put_block w q r l) i d (omega arith)
        ∙ paste-at l (w * q) r w i d (omega arith) (omega arith) (omega arith))

    pub put_other : (d : A) (p : ℕ) → w * p + w ≤ length l → (p ≡ q → ⊥) → block w p (put_block w q r l) ≡ block w p l
    unfolding put_block
    put_other d p h ne =
        let n : length (put_block w q r l) ≡ length l = put-length in
        let m : length (block w p (put_block w q r l)) ≡ w = block-length w p (put_block w q r l) (omega arith) in
        let k : length (block w p l) ≡ w = block-length w p l h in
        ext_get_or d (block w p (put_block w q r l)) (block w p l) (omega arith)
        (λ i b. block_at w p (put_block w q r l) i d (omega arith) ∙ go i (omega arith) (dec_le q p)
        ∙ sym (block_at w p l i d (omega arith)))
      where
        go : (i : ℕ) → i < w → Dec (q ≤ p) → get_or (paste l (w * q) r w) (w * p + i) d ≡ get_or l (w * p + i) d
        go i b (yes e) =
            let f : w * q + w ≤ w * p = row-end w q p (omega arith) in
            let g : w * p + i ≡ w * q + w + (w * p - (w * q + w) + i) = omega arith in
            ap (λ j. get_or (paste l (w * q) r w) j d) g
            ∙ paste-after l (w * q) r w (w * p - (w * q + w) + i) d (omega arith) (omega arith)
            ∙ ap (λ j. get_or l j d) (sym g)
        go i b (no e) =
            let f : w * p + w ≤ w * q = row-end w p q (omega arith) in
            paste-before l (w * q) r w (w * p + i) d (omega arith) (omega arith)

  -- an entry of the table is an entry of its row
  at_block : (w k : ℕ) (l : List A) (d : A) → 0 < w → get_or l k d ≡ get_or (block w (k / w) l) (k % w) d
  at_block w k l d h =
      ap (λ j. get_or l j d) (sym (div-add-mod' k w) ∙ ap (λ j. j + k % w) (mul_comm (k / w) w))
      ∙ sym (block_at w (k / w) l (k % w) d (mod-lt k h))

  pub block-ext : (d : A) (w n : ℕ) (l m : List A) → 0 < w → length l ≡ w * n → length m ≡ w * n
      → ((q : ℕ) → q < n → block w q l ≡ block w q m) → l ≡ m
  block-ext d w n l m h a b same =
      ext_get_or d l m (omega arith)
      (λ k c. at_block w k l d h ∙ ap (λ (r : List A). get_or r (k % w) d) (same (k / w) (inside k c)) ∙ sym (at_block w k m d h))
    where
      inside : (k : ℕ) → k < length l → k / w < n
      inside k c = (div-lt_iff_lt-mul h).1 (subst (λ j. k < j) (a ∙ mul_comm w n) c)

  pub block-replicate : (w q n : ℕ) (a : A) → w * q + w ≤ n → block w q (replicate n a) ≡ replicate w a
  block-replicate w q n a h =
      let e : length (replicate n a) ≡ n = length-replicate n a in
      let f : length (replicate w a) ≡ w = length-replicate w a in
      let g : length (block w q (replicate n a)) ≡ w = block-length w q (replicate n a) (omega arith) in
      ext_get_or a (block w q (replicate n a)) (replicate w a) (omega arith)
      (λ i b. block_at w q (replicate n a) i a (omega arith) ∙ get_or-replicate n (w * q + i) a a (omega arith)
      ∙ sym (get_or-replicate w i a a (omega arith)))
