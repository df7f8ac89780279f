-- Rows kept block by block, for every member: block g has some of the places, one cell for each class, and the cells stand one block after another.
--
--   cells_of rows g r         the cell of class r in block g
--   block_values rows r h p   the values of row r by part and place
--   blocks-next              a step at every block is a step of all rows
--   blocks-moved             the cells by another symbol, in the block of its place, and no others
--   blocks-started           first terms in every cell are the start rows
--   Blocks P g before out    a loop over blocks: P holds of the cells of those passed, and the others are as before; blocks_start, blocks-turn
use Rattle.std.specs.Prelude.{◌≡◌, refl, ◌≢◌, ℕ, ◌+◌, ◌*◌, ◌/◌, ◌%◌, ◌<◌, ◌≤◌, length, get_or}
use Rattle.std.proofs.Common.{sym, ap₂, ◌∙◌, ⊎_elim, mod-lt, div-add-mod', div-lt_iff_lt-mul, eq-or-lt_of_le, le_of_suc-le-suc, add-one, arith}
use Rattle.std.proofs.Math.Path.{ap, subst}
use mathlib.Core.List.{List, []}
use Rattle.std.proofs.Math.Decide.{ℕ_discrete}
use Rattle.galois.specs.BinaryField.{GF, K, to_f}
use Rattle.family.specs.Member.{Member, places, px}
use Rattle.values.specs.Holds.{Values}
use Rattle.values.specs.Start.{StartRows}
use Rattle.lanewise.specs.Rows.{value_at, Moved}
use Rattle.stepping.specs.Step.{classes, NextRows, MovedRows}
use Rattle.stepping.specs.Cells.{NextCells}
use Rattle.stepping.specs.Starting.{FirstTerm, rows-started}

-- ---- a loop over blocks
module _ {A : Type 0} (d : A) (c : ℕ) where
  abbrev pub cells_of : List A → ℕ → ℕ → A
  cells_of rows g r = get_or rows (g * c + r) d

  module _ (P : ℕ → (ℕ → A) → (ℕ → A) → Type 0) where
    pub record Blocks (g : ℕ) (before out : List A) : Type 0 where
      pub as_long : length out ≡ length before
      pub done : (b : ℕ) → b < g → P b (cells_of before b) (cells_of out b)
      pub left : (b r : ℕ) → g ≤ b → r < c → cells_of out b r ≡ cells_of before b r

    pub blocks_start : (before : List A) → Blocks 0 before before
    blocks_start before = record { as_long = refl; done = λ b l. absurd (omega arith); left = λ b r l h. refl }

    -- what a turn stores in its block, and leaves in the others; cells count by class alone
    pub blocks-turn : ((b : ℕ) (f g h k : ℕ → A) → ((r : ℕ) → r < c → f r ≡ h r) → ((r : ℕ) → r < c → g r ≡ k r) → P b f g → P b h k)
        → (g : ℕ) (before out next : List A) → length next ≡ length out → P g (cells_of out g) (cells_of next g)
        → ((b r : ℕ) → b ≢ g → r < c → cells_of next b r ≡ cells_of out b r) → Blocks g before out → Blocks (g + 1) before next
    blocks-turn like g before out next long here others B =
        record {
          as_long = long ∙ B.as_long;
          done = λ b l.
              ⊎_elim
              (λ (e : b ≡ g). subst (λ j. P j (cells_of before j) (cells_of next j)) (sym e) (like g _ _ _ _ (λ r h. B.left g r (omega arith) h) (λ r h. refl) here))
              (λ (m : b < g). like b _ _ _ _ (λ r h. refl) (λ r h. sym (others b r (λ (e : b ≡ g). absurd (omega arith)) h)) (B.done b m))
              (eq-or-lt_of_le (le_of_suc-le-suc (subst (λ j. b < j) (add-one g) l)));
          left = λ b r l h. others b r (λ (e : b ≡ g). absurd (omega arith)) h ∙ B.left b r (omega arith) h;
        }

module _ (𝓜 : Member) (n : ℕ) where
  open 𝓜 use {gf}

  unfoldable pub block_values : List (List ℕ) → ℕ → Values 𝓜
  block_values rows r h p = value_at gf h (cells_of [] (classes 𝓜) rows (p / n) r) (p % n)

  -- the x of a block's lanes
  abbrev pub block_x : ℕ → ℕ → GF gf
  block_x g l = px 𝓜 (g * n + l)

-- n lanes in each of the blocks are all places
module _ (𝓜 : Member) (n blocks : ℕ) (some_lanes : 0 < n) (layout : blocks * n ≡ places 𝓜) where
  open 𝓜 use {gf}
  open K gf use {◌⊕◌, ◌⊗◌}

  block_within : (p : ℕ) → p < places 𝓜 → p / n < blocks
  block_within p l = (div-lt_iff_lt-mul some_lanes).1 (subst (λ k. p < k) (sym layout) l)

  lane-within : (p : ℕ) → p % n < n
  lane-within p = mod-lt p some_lanes

  pub blocks-next : (at a : ℕ) (ds : List ℕ) (rows out : List (List ℕ))
      → ((g : ℕ) → g < blocks → NextCells gf (classes 𝓜) n (block_x 𝓜 n g) at a ds (cells_of [] (classes 𝓜) rows g) (cells_of [] (classes 𝓜) out g))
      → NextRows 𝓜 at a ds (block_values 𝓜 n rows) (block_values 𝓜 n out)
  unfolding block_values
  blocks-next at a ds rows out N =
      record {
        pivot = λ h p k l.
            (N (p / n) (block_within p l)).pivot.lanes h (p % n) k (lane-within p)
            ∙ ap (λ q. (px 𝓜 q ⊕ to_f gf a) ⊗ block_values 𝓜 n rows at h p) (div-add-mod' p n);
        other = λ r m e h p k l. ((N (p / n) (block_within p l)).other r m e).lanes h (p % n) k;
      }

  pub blocks-moved : (p c : ℕ) (rows out : List (List ℕ)) → p < places 𝓜
      → ((r : ℕ) → r < classes 𝓜 → Moved gf n (cells_of [] (classes 𝓜) rows (p / n) r) (p % n) c (cells_of [] (classes 𝓜) out (p / n) r))
      → ((g r : ℕ) → g ≢ p / n → r < classes 𝓜 → cells_of [] (classes 𝓜) out g r ≡ cells_of [] (classes 𝓜) rows g r)
      → MovedRows 𝓜 p c (block_values 𝓜 n rows) (block_values 𝓜 n out)
  unfolding block_values
  blocks-moved p c rows out inside M others =
      record {
        slopes = λ r q h l. slope r q h (ℕ_discrete (q / n) (p / n));
        here = λ r h. (M r h).here;
        elsewhere = λ r q h l m. whole r q h m (ℕ_discrete (q / n) (p / n));
      }
    where
      same : (r q h : ℕ) → r < classes 𝓜 → q / n ≢ p / n → block_values 𝓜 n out r h q ≡ block_values 𝓜 n rows r h q
      same r q h l m = ap (λ (cell : List ℕ). value_at gf h cell (q % n)) (others (q / n) r m l)

      slope : (r q : ℕ) → r < classes 𝓜 → Dec (q / n ≡ p / n) → block_values 𝓜 n out r 1 q ≡ block_values 𝓜 n rows r 1 q
      slope r q h (yes e) =
          subst (λ g. value_at gf 1 (cells_of [] (classes 𝓜) out g r) (q % n) ≡ value_at gf 1 (cells_of [] (classes 𝓜) rows g r) (q % n)) (sym e)
          ((M r h).slopes (q % n))
      slope r q h (no m) = same r q 1 h m

      -- another place of the block is another lane
      whole : (r q : ℕ) → r < classes 𝓜 → q ≢ p → Dec (q / n ≡ p / n) → block_values 𝓜 n out r 0 q ≡ block_values 𝓜 n rows r 0 q
      whole r q h m (yes e) =
          subst (λ g. value_at gf 0 (cells_of [] (classes 𝓜) out g r) (q % n) ≡ value_at gf 0 (cells_of [] (classes 𝓜) rows g r) (q % n)) (sym e)
          ((M r h).elsewhere (q % n) (lane-within q)
          (λ (f : q % n ≡ p % n). m (sym (div-add-mod' q n) ∙ ap₂ (λ g l. g * n + l) e f ∙ div-add-mod' p n)))
      whole r q h m (no o) = same r q 0 h o

  pub blocks-started : (M : ℕ) (word : List ℕ) (rows : List (List ℕ))
      → ((g r l : ℕ) → g < blocks → r < classes 𝓜 → l < n
      → FirstTerm 𝓜 M r (g * n + l) (to_f gf (get_or word (g * n + l) 0)) (value_at gf 0 (cells_of [] (classes 𝓜) rows g r) l)
      (value_at gf 1 (cells_of [] (classes 𝓜) rows g r) l))
      → StartRows 𝓜 M word (block_values 𝓜 n rows)
  unfolding block_values
  blocks-started M word rows F =
      rows-started 𝓜 M word
      (λ r p h l.
      subst (λ q. FirstTerm 𝓜 M r q (to_f gf (get_or word q 0)) (block_values 𝓜 n rows r 0 p) (block_values 𝓜 n rows r 1 p)) (div-add-mod' p n)
      (F (p / n) r (p % n) (block_within p l) h (lane-within p)))
