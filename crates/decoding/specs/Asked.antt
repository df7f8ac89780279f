-- When the search may be asked, at the modem of 64 places.
--
--   Askable rate costs doubtful doubt   a known rate, 1,024 costs, and at most 12 doubtful places, different and below 64: `answering` Asked
--   asked-open, unasked-blank   so the search may be asked, exactly if no more places are blank than the limit
use Rattle.std.specs.Prelude.{List, ℕ, ◌<◌, ◌≤◌}
use Rattle.std.proofs.Common.{arith}
use Rattle.soft.specs.Column.{symbols, column_of}
use Rattle.near.specs.Here.{blank_limit, blanks_in}
use Rattle.book64.specs.Modem64.{modem64}
use Rattle.answering.specs.Asked as Answering
use Rattle.chase.specs.Call.{Asked}

abbrev pub Askable : ℕ → List ℕ → List ℕ → ℕ → Type 0
Askable rate costs doubtful doubt = Answering.Askable modem64 rate costs doubtful doubt

module _ (rate : ℕ) (costs doubtful : List ℕ) (doubt : ℕ) where
  pub asked-open : Askable rate costs doubtful doubt → blanks_in (column_of symbols costs) ≤ blank_limit rate → Asked rate costs doubtful doubt
  asked-open a h = record { known = a.known; size = a.size; few = a.few; fit = a.fit; few_blank = h }

  pub unasked-blank : blank_limit rate < blanks_in (column_of symbols costs) → ¬ Asked rate costs doubtful doubt
  unasked-blank h asked = omega (arith, asked.few_blank)
