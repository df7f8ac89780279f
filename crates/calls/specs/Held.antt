-- What a session holds, as numbers and lists, whatever the struct that keeps them: the book that they stand for, and which of them hold one. For every
-- modem.
--
--   Held                 the fields of a session: the rate; how many places are doubtful, and the list; a flag for each place, set where it is taken;
--                        and the table of costs
--   new_held rate list    those of a newly opened one: the doubtful list with zeros behind it, no flag set, and costs of zero
--   entry_at costs p      a place and its column in the table
--   entries_below flags costs n   the places below n whose flag is set, rising, with their columns
--   taken_below flags n   the flag of every place below n is set
--   all_taken flags       those of all the modem's places are
--   book_of h             the rate, the doubtful list, and the places taken with their columns, rising: of the order of arrival nothing is held
--   Good h               what holds of every session from opening: a count within its list, a known rate, a fit list, a flag and a column for each
--                        place, and zeros wherever nothing is held
--   with_column h p column    the fields with a place and its column more
--   without_column h p    the fields with the flag of a place not set, and zeros for its column
use Rattle.std.specs.Prelude.{Bool, true, false, cond, ◌≡◌, List, [], ◌∷◌, ◌++◌, ℕ, zero, suc, ◌*◌, ◌≤◌, ◌<◌, length, get_or, set, take, drop, replicate}
use Rattle.lists.specs.Every.{every}
use Rattle.lists.specs.Block.{block, put_block}
use Rattle.lists.specs.Padded.{padded}
use Rattle.book.specs.Model.{Model, places, width}
use Rattle.book.specs.Book.{Entry, Book}
use Rattle.book.specs.opening.Opening.{fit_doubt}

pub record Held : Type 0 where
  pub rate : ℕ
  pub doubt : ℕ
  pub doubtful : List ℕ
  pub taken : List Bool
  pub costs : List ℕ

unfoldable pub taken_below : List Bool → ℕ → Bool
taken_below flags n = every n (λ p. get_or flags p false)

module _ (𝓓 : Model) where
  open 𝓓 use {known, most_doubt}

  unfoldable pub new_held : ℕ → List ℕ → Held
  new_held rate list =
      record {
        rate = rate;
        doubt = length list;
        doubtful = padded most_doubt list;
        taken = replicate (places 𝓓) false;
        costs = replicate (places 𝓓 * width 𝓓) 0;
      }

  abbrev pub all_taken : List Bool → Bool
  all_taken flags = taken_below flags (places 𝓓)

  unfoldable pub entry_at : List ℕ → ℕ → Entry
  entry_at costs p = record { place = p; column = block (width 𝓓) p costs }

  unfoldable pub entries_below : List Bool → List ℕ → ℕ → List Entry
  entries_below flags costs zero = []
  entries_below flags costs (suc p) =
      cond (get_or flags p false) (entries_below flags costs p ++ (entry_at costs p ∷ [])) (entries_below flags costs p)

  unfoldable pub book_of : Held → Book
  book_of h =
      record {
        rate = h.rate;
        doubtful = take h.doubt h.doubtful;
        row = entries_below h.taken h.costs (places 𝓓);
      }

  unfoldable pub with_column : Held → ℕ → List ℕ → Held
  with_column h p column =
      record {
        rate = h.rate;
        doubt = h.doubt;
        doubtful = h.doubtful;
        taken = set h.taken p true;
        costs = put_block (width 𝓓) p column h.costs;
      }

  unfoldable pub without_column : Held → ℕ → Held
  without_column h p =
      record {
        rate = h.rate;
        doubt = h.doubt;
        doubtful = h.doubtful;
        taken = set h.taken p false;
        costs = put_block (width 𝓓) p (replicate (width 𝓓) 0) h.costs;
      }

  pub record Good (h : Held) : Type 0 where
    pub rate_known : known h.rate ≡ true
    pub list_room : length h.doubtful ≡ most_doubt
    pub doubt_fits : h.doubt ≤ most_doubt
    pub list_fit : fit_doubt 𝓓 (take h.doubt h.doubtful) ≡ true
    pub list_rest : drop h.doubt h.doubtful ≡ drop h.doubt (replicate most_doubt 0)
    pub row_room : length h.taken ≡ places 𝓓
    pub table_room : length h.costs ≡ places 𝓓 * width 𝓓
    pub table_rest : (p : ℕ) → p < places 𝓓 → get_or h.taken p false ≡ false → block (width 𝓓) p h.costs ≡ replicate (width 𝓓) 0
