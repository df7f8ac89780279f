-- Table decoding by a threshold: rate, then sizes, then the maximum, then blank places, then nearness; and why it answers as table decoding does with a
-- doubt that is counted, and as a session does that was opened with the places that the threshold picks.
--
--   picked_below table t m  the doubtful places with the threshold t and the maximum m, as `soft` Threshold has them: the first that is not blank, and then
--                          those whose gap is smaller than t, never more than m
--   table_below_of rate table t m message report   1 if the rate is unknown, 2 if a buffer has the wrong size, 4 if the maximum m is 0 or larger than the
--                          largest doubt; else what decoding by the table's columns and these places answers
--   doubt_for table t m     the doubt that is counted: how many places have a gap below t, but 1 at least and m at most (doubt-for-some, doubt-for-most)
use Rattle.std.specs.Prelude.{◌&&◌, ℕ}
use Rattle.std.proofs.Math.Bool.{cond}
use mathlib.Core.List.{List}
use Rattle.std.proofs.Math.Dec.{leb}
use Rattle.refusals.specs.Refusal.{unknown_rate, wrong_size, wrong_doubt}
use Rattle.soft.specs.Threshold.{closest_of, doubt_below}
use Rattle.book.specs.Model.{Model, places}
use Rattle.book.specs.closing.Closing.{Closed, refused_closing, decode_of}
use Rattle.book.specs.tables.Table.{table_columns, table_fits}

module _ (𝓓 : Model) where
  open 𝓓 use {known, most_doubt}

  unfoldable pub picked_below : List ℕ → ℕ → ℕ → List ℕ
  picked_below table t m = closest_of (places 𝓓) t m (table_columns 𝓓 table)

  unfoldable pub table_below_of : ℕ → List ℕ → ℕ → ℕ → List ℕ → List ℕ → Closed
  table_below_of rate table t m message report =
      cond (known rate)
      (cond (table_fits 𝓓 rate table message report)
      (cond (leb 1 m && leb m most_doubt) (decode_of 𝓓 rate (table_columns 𝓓 table) (picked_below table t m) message report)
      (refused_closing wrong_doubt message report))
      (refused_closing wrong_size message report))
      (refused_closing unknown_rate message report)

  -- ---- the places picked

  abbrev pub doubt_for : List ℕ → ℕ → ℕ → ℕ
  doubt_for table t m = doubt_below (places 𝓓) t m (table_columns 𝓓 table)
