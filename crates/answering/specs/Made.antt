-- What decoding from bit values hands to the search, and what comes of it, in every modem with a symbol for each word of b bits: what table decoding
-- does with the table that the frame makes.
--
--   bits-askable       the search may be asked for the places picked, where few enough places are blank
--   bits-answers       what decoding answers is what decoding from bit values does
use Rattle.std.specs.Prelude.{true, ◌≡◌, List, ℕ, ◌*◌, ◌^◌, ◌≤◌, length, take}
use Rattle.std.proofs.Common.{sym, ap, ◌∙◌}
use Rattle.soft.specs.Column.{costs_from, column_of}
use Rattle.soft.specs.Doubt.{doubtful_of}
use Rattle.soft.specs.Bits.{bit_costs}
use Rattle.soft.proofs.BitsLaws.{costs-bits}
use Rattle.weighing.specs.Picked.{PickedIn}
use Rattle.book.specs.Model.{Model, places, width}
use Rattle.book.specs.closing.Closing.{Closed, report_length, decode_of}
use Rattle.book.specs.tables.Bits.{frame_length, table_made, bits_of}
use Rattle.book.proofs.tables.Bits.{made-length, bits-as-table}
use Rattle.answering.specs.Asked.{Askable}
use Rattle.answering.specs.Tabled.{table-askable, table-answers}

module _ (𝓓 : Model) (b : ℕ) (power : width 𝓓 ≡ 2 ^ b) where
  open 𝓓 use {known, most_doubt}

  module _ (frame : List ℕ) (doubt : ℕ) (few : doubt ≤ most_doubt) {costs array : List ℕ} {n : ℕ} (c : costs ≡ bit_costs b (places 𝓓) frame)
      (d : PickedIn most_doubt (doubtful_of (places 𝓓) doubt (column_of (width 𝓓) costs)) array n) (rate : ℕ) (known : known rate ≡ true) where
    made : costs ≡ costs_from (places 𝓓 * width 𝓓) (table_made 𝓓 b frame)
    made = c ∙ sym (costs-bits b frame (places 𝓓)) ∙ ap (λ q. costs_from (places 𝓓 * q) (table_made 𝓓 b frame)) (sym power)

    pub bits-askable : Askable 𝓓 rate costs array n
    bits-askable = table-askable 𝓓 (table_made 𝓓 b frame) doubt few made d rate known

    pub bits-answers : (message report : List ℕ) → length frame ≡ frame_length 𝓓 b → length message ≡ rate → length report ≡ report_length 𝓓
        → {a : Closed} → a ≡ decode_of 𝓓 rate (column_of (width 𝓓) costs) (take n array) message report
        → a ≡ bits_of 𝓓 b rate frame doubt message report
    bits-answers message report whole long whole_report e =
        table-answers 𝓓 (table_made 𝓓 b frame) doubt few made d rate known message report (made-length 𝓓 b frame power) long whole_report e
        ∙ sym (bits-as-table 𝓓 b frame power rate doubt message report whole)
