-- What table decoding answers where rate and sizes are right and the doubt is too large.
use mathlib.Core.Path.{◌≡◌, sym}
use mathlib.Core.List.{List}
use Prim.Native.Nat.{ℕ, ◌<◌}
use lib.ListN.{length}
use Rattle.std.proofs.Common.{refl}
use Rattle.refusals.specs.Refusal.{accepted, wrong_doubt}
use Rattle.soft.specs.Doubt.{most_doubt}
use Rattle.book64.specs.Modem64.{modem64}
use Rattle.book64.specs.Here.{table_length, checks_of, table_of}
use Rattle.book.specs.closing.Closing.{refused_closing}
use Rattle.book.specs.tables.Table.{closed}
use Rattle.book.proofs.tables.Table.{table-doubt}
use Rattle.answering.specs.Checks.{passed}

pub doubt_too_large : (rate : ℕ) (table : List ℕ) (doubt : ℕ) (message report : List ℕ)
    → accepted ≡ checks_of rate (length table) table_length (length message) (length report) → most_doubt < doubt
    → closed wrong_doubt message report ≡ table_of rate table doubt message report
unfolding refused_closing
doubt_too_large rate table doubt message report e more =
    let k = passed modem64 _ _ _ _ _ e refl in
    sym (table-doubt modem64 rate table doubt message report k.rated k.whole k.long k.whole_report more)
