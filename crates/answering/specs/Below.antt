-- What table decoding with a threshold hands to the search, and what comes of it, in every modem: what table decoding does with the doubt that is
-- counted.
--
--   below-askable      the search may be asked for the places picked, where few enough places are blank
--   below-answers      what decoding answers is what table decoding with the threshold does
use Rattle.std.specs.Prelude.{true, ◌≡◌, ℕ, ◌*◌, ◌≤◌, length, take}
use Rattle.std.proofs.Common.{sym, ◌∙◌, arith}
use Rattle.std.proofs.Math.Path.{ap}
use mathlib.Core.List.{List}
use Rattle.soft.specs.Column.{costs_from, column_of}
use Rattle.soft.specs.Doubt.{doubtful_of}
use Rattle.soft.specs.Threshold.{closest_of, doubt_below}
use Rattle.soft.specs.ThresholdLaws.{closest-doubtful}
use Rattle.weighing.specs.Picked.{PickedIn, picked_same}
use Rattle.book.specs.Model.{Model, places, width}
use Rattle.book.specs.closing.Closing.{Closed, report_length, decode_of}
use Rattle.book.specs.tables.Table.{table_length, table_columns}
use Rattle.book.specs.tables.Below.{doubt_for, table_below_of}
use Rattle.book.proofs.tables.Below.{doubt-for-most, below-as-table}
use Rattle.answering.specs.Asked.{Askable}
use Rattle.answering.specs.Tabled.{table-askable, table-answers}

module _ (𝓓 : Model) where
  open 𝓓 use {known, most_doubt}

  module _ (table : List ℕ) (t m : ℕ) (few : m ≤ most_doubt) {costs array : List ℕ} {n : ℕ} (c : costs ≡ costs_from (places 𝓓 * width 𝓓) table)
      (d : PickedIn most_doubt (closest_of (places 𝓓) t m (column_of (width 𝓓) costs)) array n) (rate : ℕ) (known : known rate ≡ true) where
    abbrev doubt : ℕ
    doubt = doubt_for 𝓓 table t m

    doubt-few : doubt ≤ most_doubt
    doubt-few = omega (arith, doubt-for-most 𝓓 table t m)

    counted : PickedIn most_doubt (doubtful_of (places 𝓓) doubt (column_of (width 𝓓) costs)) array n
    unfolding table_columns
    counted =
        picked_same d
        (closest-doubtful (places 𝓓) t m (column_of (width 𝓓) costs)
        ∙ ap (λ (l : List ℕ). doubtful_of (places 𝓓) (doubt_below (places 𝓓) t m (column_of (width 𝓓) l)) (column_of (width 𝓓) costs)) c)

    pub below-askable : Askable 𝓓 rate costs array n
    below-askable = table-askable 𝓓 table doubt doubt-few c counted rate known

    pub below-answers : 1 ≤ m → (message report : List ℕ) → length table ≡ table_length 𝓓 → length message ≡ rate → length report ≡ report_length 𝓓
        → {a : Closed} → a ≡ decode_of 𝓓 rate (column_of (width 𝓓) costs) (take n array) message report
        → a ≡ table_below_of 𝓓 rate table t m message report
    below-answers some message report whole long whole_report e =
        table-answers 𝓓 table doubt doubt-few c counted rate known message report whole long whole_report e
        ∙ sym (below-as-table 𝓓 table t m some few rate message report)
