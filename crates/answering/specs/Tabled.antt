-- What table decoding hands to the search, and what comes of it, in every modem; the places picked are given by their array and their number.
--
--   table-list         the places picked, from the front of the array that holds them
--   table-askable      the search may be asked for them, where few enough places are blank
--   table-answers      what decoding answers is what table decoding does
use Rattle.std.specs.Prelude.{true, ◌≡◌, ℕ, ◌*◌, ◌≤◌, length, take}
use Rattle.std.proofs.Math.Path.{sym, ap, ap₂}
use Rattle.std.proofs.Common.{◌∙◌, arith}
use mathlib.Core.List.{List}
use Rattle.soft.specs.Column.{costs_from, column_of}
use Rattle.soft.specs.ColumnLaws.{costs-length}
use Rattle.soft.specs.Doubt.{doubtful_of}
use Rattle.soft.specs.DoubtLaws.{doubtful-most}
use Rattle.weighing.specs.Picked.{PickedIn, picked-take}
use Rattle.book.specs.Model.{Model, places, width}
use Rattle.book.specs.opening.Opening.{fit_doubt}
use Rattle.book.specs.closing.Closing.{Closed, report_length, decode_of}
use Rattle.book.specs.tables.Table.{table_length, table_columns, picked_of, table_of}
use Rattle.book.proofs.tables.Table.{table-decoded, picked_fit}
use Rattle.answering.specs.Asked.{Askable, askable-fit}

module _ (𝓓 : Model) where
  open 𝓓 use {known, most_doubt}

  module _ (table : List ℕ) (doubt : ℕ) (few : doubt ≤ most_doubt) {costs array : List ℕ} {n : ℕ} (c : costs ≡ costs_from (places 𝓓 * width 𝓓) table)
      (d : PickedIn most_doubt (doubtful_of (places 𝓓) doubt (column_of (width 𝓓) costs)) array n) where
    short : n ≤ most_doubt
    short = omega (arith, d.count, doubtful-most (places 𝓓) doubt (column_of (width 𝓓) costs))

    pub table-list : take n array ≡ picked_of 𝓓 table doubt
    unfolding picked_of table_columns
    table-list = picked-take d short ∙ ap (λ (l : List ℕ). doubtful_of (places 𝓓) doubt (column_of (width 𝓓) l)) c

    module _ (rate : ℕ) (known : known rate ≡ true) where
      pub table-askable : Askable 𝓓 rate costs array n
      table-askable =
          askable-fit 𝓓 rate costs array n known (ap (fit_doubt 𝓓) table-list ∙ picked_fit 𝓓 table doubt few)
          (ap length c ∙ costs-length (places 𝓓 * width 𝓓) table) short

      pub table-answers : (message report : List ℕ) → length table ≡ table_length 𝓓 → length message ≡ rate → length report ≡ report_length 𝓓
          → {a : Closed} → a ≡ decode_of 𝓓 rate (column_of (width 𝓓) costs) (take n array) message report
          → a ≡ table_of 𝓓 rate table doubt message report
      unfolding table_columns
      table-answers message report whole long whole_report e =
          e ∙ ap₂ (λ (l list : List ℕ). decode_of 𝓓 rate (column_of (width 𝓓) l) list message report) c table-list
          ∙ sym (table-decoded 𝓓 rate table doubt message report known whole long whole_report few)
