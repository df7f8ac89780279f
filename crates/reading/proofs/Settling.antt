-- The places flagged, each with the word's symbol, are the book's settled places.
--
--   flag-away, flag-doubtful, flag-blank, flag-settled   the four cases of a flag
--   settled-session      the nodes of the word of best symbols and the flags are those of the session's book
--   session-reading      so their reading is the book's
use mathlib.Core.Bool.{Bool, true, false, cond, not, ◌&&◌}
use mathlib.Core.Path.{◌≡◌, sym, ap, ap₂, ◌∙◌}
use mathlib.Core.List.{List, ◌∷◌}
use mathlib.Core.Logic.{◌≢◌}
use Prim.Native.Nat.{ℕ, zero, suc, ◌+◌, ◌<◌, ◌≤◌}
use native.Mathlib.Omega.{arith}
use lib.Dec.{eqb}
use lib.ListN.{get_or, take}
use borrow.Author.Tests.{eq-eqb, ne_eqb}
use Rattle.lists.specs.Listed.{listed, listed_at}
use Rattle.lists.specs.Distinct.{among}
use Rattle.soft.specs.Column.{symbols, column_of}
use Rattle.soft.specs.Blank.{open_at, flags_of}
use Rattle.soft.specs.BlankLaws.{bit-flag, flags-at}
use Rattle.soft.specs.TestWord.{best_word}
use Rattle.soft.specs.TestWordLaws.{best_word-at}
use Rattle.family.specs.Nodes.{Node, node}
use Rattle.near.specs.Here.{m_of}
use Rattle.near.proofs.Here.{m-is}
use Rattle.interpolant.specs.LeastQ.{reading_of}
use Rattle.values.specs.Settled.{settled, settled-nil, settled-suc}
use Rattle.book64.specs.readings.Reading.{is_settled, settled_at, settled_below, settled_of}
use Rattle.book64.specs.Here.{places}
use Rattle.session.specs.declared.Session.{Session}
use Rattle.session.specs.View.{book_of, Good}
use Rattle.session.specs.Table.{settled-taken, settled-table}
use Rattle.reading.specs.Flags.{flag_of, read_flag}

module _ (there : Bool) (doubtful : List ℕ) (p counts : ℕ) where
  pub flag-away : there ≡ false → 0 ≡ flag_of there doubtful p counts
  unfolding flag_of
  flag-away e = rw e

  pub flag-doubtful : there ≡ true → among p doubtful ≡ true → 0 ≡ flag_of there doubtful p counts
  unfolding flag_of
  flag-doubtful e d = rw (e, d)

  pub flag-blank : there ≡ true → among p doubtful ≡ false → counts ≢ 1 → 0 ≡ flag_of there doubtful p counts
  unfolding flag_of
  flag-blank e d b = rw (e, d, ne_eqb counts 1 b)

  pub flag-settled : there ≡ true → among p doubtful ≡ false → counts ≡ 1 → 1 ≡ flag_of there doubtful p counts
  unfolding flag_of
  flag-settled e d b = rw (e, d, eq-eqb counts 1 b)

module _ (s : Session) (good : Good s) (word counts flags : List ℕ) (w : word ≡ best_word places (column_of symbols s.costs))
    (o : counts ≡ flags_of places (column_of symbols s.costs))
    (f : flags ≡ listed places (read_flag s.taken (take s.doubt s.doubtful) counts)) where
  opened : (p : ℕ) → p < places → eqb (get_or counts p 0) 1 ≡ open_at (column_of symbols s.costs) p
  opened p h = ap (λ (l : List ℕ). eqb (get_or l p 0) 1) o ∙ flags-at places (column_of symbols s.costs) p h

  flagged : (p : ℕ) → p < places → eqb (get_or flags p 0) 1 ≡ is_settled (book_of s) p
  unfolding flag_of read_flag
  flagged p h =
      let list = take s.doubt s.doubtful in
      ap (λ x. eqb x 1) (ap (λ (l : List ℕ). get_or l p 0) f ∙ listed_at places p (read_flag s.taken list counts) 0 h)
      ∙ bit-flag (get_or s.taken p false && (not (among p list) && eqb (get_or counts p 0) 1))
      ∙ ap (λ b. get_or s.taken p false && (not (among p list) && b)) (opened p h) ∙ sym (settled-taken s good p)

  noded : (p : ℕ) → p < places → node p (get_or word p 0) ≡ settled_at (book_of s) p
  noded p h =
      ap (λ (l : List ℕ). node p (get_or l p 0)) w ∙ ap (node p) (best_word-at places (column_of symbols s.costs) p h)
      ∙ sym (settled-table s good p)

  pub settled-session : (n : ℕ) → n ≤ places → settled word flags n ≡ settled_below (book_of s) n
  unfolding settled_below
  settled-session zero h = settled-nil word flags
  settled-session (suc n) h =
      let ih : settled word flags n ≡ settled_below (book_of s) n = settled-session n (omega arith) in
      settled-suc word flags n
      ∙ ap (λ b. cond b (node n (get_or word n 0) ∷ settled word flags n) (settled word flags n)) (flagged n h)
      ∙ ap₂ (λ (x : Node) (l : List Node). cond (is_settled (book_of s) n) (x ∷ l) l) (noded n h) ih

  pub session-reading : reading_of (s.rate + 5) (settled word flags 64) ≡ reading_of (m_of s.rate) (settled_of (book_of s))
  unfolding settled_of
  session-reading = ap₂ reading_of (sym (m-is s.rate)) (settled-session 64 (omega arith))
