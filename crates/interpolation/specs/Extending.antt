-- One node more: what stepping says of a place that is added, at this member, with rows in planes.
--
--   Stored M word L ns rows leads   the rows have the values of a basis up to L of the Q through the nodes ns, with the word's symbols for z
--   ExtendsOwn L p rows leads rows' leads'   for every M, every word and every list of nodes: what stores a basis of the Q through some nodes, stores one
--                     of the Q that also vanish at the place p, with the word's own symbol there
--   ExtendsIf L p flag …   so for a place whose flag is 1; nothing changes for another
--   Extends L p c …   so with the symbol that is c away from the word's own; the word has it from then on
use Rattle.std.specs.Prelude.{List, ℕ}
use Rattle.family.specs.Member.{m16}
use Rattle.family.specs.Nodes.{Node}
use Rattle.stepping.specs.Extending as Stepping
use Rattle.basis.specs.Step.{row_values}

abbrev pub Stored : ℕ → List ℕ → ℕ → List Node → List (List ℕ) → List ℕ → Type 0
Stored M word L ns rows leads = Stepping.Stored m16 row_values M word L ns rows leads

abbrev pub ExtendsOwn : ℕ → ℕ → List (List ℕ) → List ℕ → List (List ℕ) → List ℕ → Type 0
ExtendsOwn L p rows leads rows' leads' = Stepping.ExtendsOwn m16 row_values L p rows leads rows' leads'

abbrev pub ExtendsIf : ℕ → ℕ → ℕ → List (List ℕ) → List ℕ → List (List ℕ) → List ℕ → Type 0
ExtendsIf L p flag rows leads rows' leads' = Stepping.ExtendsIf m16 row_values L p flag rows leads rows' leads'

abbrev pub Extends : ℕ → ℕ → ℕ → List (List ℕ) → List ℕ → List (List ℕ) → List ℕ → Type 0
Extends L p c rows leads rows' leads' = Stepping.Extends m16 row_values L p c rows leads rows' leads'
