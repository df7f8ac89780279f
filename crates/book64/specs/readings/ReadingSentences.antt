-- What document 01's sentences about interpolant readings speak of. Those of a book's readings stand in proofs/.
--
--   ShowsLeast M ns bytes   98 bytes show the least Q through the nodes: each coefficient in its byte, none outside the bytes, and 0 for missing orders;
--                        shows-least: so does every reading
--   Reads book bytes     98 bytes show the least Q through the row's settled places, those taken, not doubtful and not blank
use Rattle.std.specs.Prelude.{◌≡◌, ◌≢◌, length, get_or}
use Rattle.std.proofs.Common.{◌∙◌}
use mathlib.Core.List.{List}
use Prim.Native.Nat.{ℕ, ◌+◌, ◌≤◌}
use Rattle.hermitian.specs.Present.{Present}
use Rattle.hermitian.specs.Keys.{Term, plain, times_z, key}
use Rattle.family.specs.Nodes.{Node}
use Rattle.interpolant.specs.LeastQ.{coefficient, reading_length, reading_of}
use Rattle.interpolant.specs.Meaning.{IsLeastQ, Shown}
use Rattle.interpolant.proofs.Least.{least_q-some}
use Rattle.interpolant.proofs.Reading.{reading-size, reading-plain, reading-z, missing-plain, missing-z, all_shown}
use Rattle.book.specs.Book.{Book}
use Rattle.book64.specs.readings.Reading.{highest_order, settled_of}
use Rattle.book64.specs.Here.{places}

-- ---- 'the … bytes of the least Q for the row's settled places', of document 02 98 of them; a blank place 'is not interpolated'

pub record ShowsLeast (M : ℕ) (ns : List Node) (bytes : List ℕ) : Type 0 where
  pub q : List ℕ
  pub highest : Term
  pub least : IsLeastQ M ns q highest
  pub size : length bytes ≡ reading_length
  pub without_z : (o : ℕ) → o ≤ 64 → get_or bytes o 0 ≡ coefficient q (key M (plain o))
  pub with_z : (o : ℕ) → o ≤ 32 → get_or bytes (65 + o) 0 ≡ coefficient q (key M (times_z o))
  -- 'It shows the least Q': all of it
  pub all_there : (k : ℕ) → coefficient q k ≢ 0 → Shown M k
  -- 'missing orders hold 0'
  pub missing_zero : (o : ℕ) → ¬ Present 4 o → (o ≤ 64 → get_or bytes o 0 ≡ 0) × (o ≤ 32 → get_or bytes (65 + o) 0 ≡ 0)

-- through at most as many nodes as there are places, from the smallest M on
pub shows-least : (M : ℕ) (ns : List Node) → 11 ≤ M → length ns ≤ places → ShowsLeast M ns (reading_of M ns)
shows-least M ns large few =
    let l = least_q-some M ns in
    record {
      q = l.0;
      highest = l.1;
      least = l.4;
      size = reading-size M ns;
      without_z = reading-plain M ns l.2;
      with_z = reading-z M ns l.2;
      all_there = all_shown M ns l.2 large few;
      missing_zero = λ o n. (
        λ h. reading-plain M ns l.2 o h ∙ missing-plain M ns l.2 o n,
        λ h. reading-z M ns l.2 o h ∙ missing-z M ns l.2 o n,
      );
    }

abbrev pub Reads : Book → List ℕ → Type 0
Reads book bytes = ShowsLeast (highest_order book) (settled_of book) bytes
