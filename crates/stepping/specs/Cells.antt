-- The rows of a step in planes, for any field: the cells of each class, a cell being a row of two parts at some of the places, stored one after another.
--
--   Cleared f pivot cells k cell   what is stored at k: the cell there and f k times the pivot's
--   cleared-turn             a turn that clears the next cell
--   NextCells n x at a ds cells cells'   the cells after a step at class at, by class, at n lanes with these x
--   cells-like               they count by class
--   cells-stored             the pivot's is cleared by nothing, and is the last to be stored; class r stands at index r
--   MovedCell n q c cells k cell, moved-turn   the cell there by another symbol at lane q
use Rattle.std.specs.Prelude.{◌≡◌, List, [], ◌≢◌, ℕ, ◌+◌, ◌<◌, ◌≤◌, length, get_or, set}
use Rattle.std.proofs.Common.{sym, ap, subst, subst₂, le_refl, arith, get_or-set_same, get_or-set_other}
use Rattle.lists.specs.Passed.{Passed, passed-turn}
use Rattle.galois.specs.BinaryField.{Gf, GF, to_f, times, inverse}
use Rattle.lanewise.specs.Rows.{Added, added_is, Raised, Moved}
use Rattle.lanewise.specs.Multiples.{MultiplesOf, AddedBy}

module _ (𝓕 : Gf) where
  -- what is stored at k
  pub record Cleared (f : ℕ → ℕ) (pivot : List ℕ) (cells : List (List ℕ)) (k : ℕ) (cell : List ℕ) : Type 0 where
    pub added : Added 𝓕 (get_or cells k []) (f k) pivot cell

  -- a turn reads the cell where no turn has stored yet
  pub cleared-turn : (s t from : ℕ) (f : ℕ → ℕ) (pivot : List ℕ) (cells out : List (List ℕ)) (k : ℕ) (v : List ℕ) {ms : List (List ℕ)} → from ≤ k → k < length cells
      → Passed [] (Cleared f pivot cells) from k cells out → AddedBy 𝓕 s t (get_or out k []) (f k) ms v → MultiplesOf 𝓕 s t pivot ms
      → Passed [] (Cleared f pivot cells) from (k + 1) cells (set out k v)
  cleared-turn s t from f pivot cells out k v {ms} low l P A made =
      passed-turn [] (Cleared f pivot cells) v low l
      (record { added = subst (λ (row : List ℕ). Added 𝓕 row (f k) pivot v) (P.later k (le_refl k)) (A.from pivot made) }) P

  -- the factor that takes the discrepancy of class r away
  abbrev pub cancelling : List ℕ → ℕ → ℕ → ℕ
  cancelling ds at r = times 𝓕 (get_or ds r 0) (inverse 𝓕 (get_or ds at 0))

  pub record NextCells (c n : ℕ) (x : ℕ → GF 𝓕) (at a : ℕ) (ds : List ℕ) (cells cells' : ℕ → List ℕ) : Type 0 where
    pub pivot : Raised 𝓕 n x (cells at) a (cells' at)
    pub other : (r : ℕ) → r < c → r ≢ at → Added 𝓕 (cells r) (cancelling ds at r) (cells at) (cells' r)

  pub cells-like : {c n : ℕ} {x : ℕ → GF 𝓕} {at a : ℕ} {ds : List ℕ} → at < c → (f g h k : ℕ → List ℕ) → ((r : ℕ) → r < c → f r ≡ h r)
      → ((r : ℕ) → r < c → g r ≡ k r) → NextCells c n x at a ds f g → NextCells c n x at a ds h k
  cells-like {c} {n} {x} {at} {a} {ds} l f g h k e d N =
      record {
        pivot = subst₂ (λ (row r : List ℕ). Raised 𝓕 n x row a r) (e at l) (d at l) N.pivot;
        other = λ r m o.
            subst (λ (row : List ℕ). Added 𝓕 row (cancelling ds at r) (h at) (k r)) (e r m)
            (subst₂ (λ (p q : List ℕ). Added 𝓕 (f r) (cancelling ds at r) p q) (e at l) (d r m) (N.other r m o));
      }

  pub cells-stored : (c n : ℕ) {x : ℕ → GF 𝓕} (index : ℕ → ℕ) (at a : ℕ) (ds : List ℕ) (f : ℕ → ℕ) (cells out : List (List ℕ)) (from i : ℕ) (last : List ℕ) → at < c
      → ((r : ℕ) → r < c → (from ≤ index r) × (index r < i) × (index r < length cells)) → ((r : ℕ) → r < c → index r ≡ index at → r ≡ at)
      → ((r : ℕ) → r < c → r ≢ at → f (index r) ≡ cancelling ds at r)
      → Passed [] (Cleared f (get_or cells (index at) []) cells) from i cells out → Raised 𝓕 n x (get_or cells (index at) []) a last
      → NextCells c n x at a ds (λ r. get_or cells (index r) []) (λ r. get_or (set out (index at) last) (index r) [])
  cells-stored c n {x} index at a ds f cells out from i last h within apart e P R =
      record {
        pivot = subst (Raised 𝓕 n x (get_or cells (index at) []) a) (sym (get_or-set_same out (index at) last [] (omega (arith, P.as_long, within at h)))) R;
        other = λ r l m.
            subst (Added 𝓕 (get_or cells (index r) []) (cancelling ds at r) (get_or cells (index at) []))
            (sym (get_or-set_other out (index at) (index r) last [] (λ q. m (apart r l q))))
            (added_is 𝓕 _ (ap (to_f 𝓕) (e r l m)) (P.stored (index r) (within r l).0 (within r l).1).added);
      }

  -- ---- by another symbol
  pub record MovedCell (n q c : ℕ) (cells : List (List ℕ)) (k : ℕ) (cell : List ℕ) : Type 0 where
    pub is : Moved 𝓕 n (get_or cells k []) q c cell

  pub moved-turn : (n q c from : ℕ) (cells out : List (List ℕ)) (k : ℕ) (v : List ℕ) → from ≤ k → k < length cells
      → Passed [] (MovedCell n q c cells) from k cells out → Moved 𝓕 n (get_or out k []) q c v → Passed [] (MovedCell n q c cells) from (k + 1) cells (set out k v)
  moved-turn n q c from cells out k v low l P m =
      passed-turn [] (MovedCell n q c cells) v low l
      (record { is = subst (λ (row : List ℕ). Moved 𝓕 n row q c v) (P.later k (le_refl k)) m }) P
