-- What a node of the tree knows, and what it finds, in document 01's modem: as the family has it, of eight rows in planes, their leads and the struct.
--
--   Lowest leads parity n r   r is a class with this parity, and of the first n of them none has a smaller lead
--   Ready k columns word ps rows leads   the rows have, by the word, the values of a basis up to the limit through the nodes decided so far: those of
--                          the word at the places that are not blank, but for the places ps, of which none is blank
--   DecidedOf …            what is found by a row that decides a node
--   SearchOf …             what a search of the tree finds
--   BranchOf …             what a branch of a node finds
use Rattle.std.specs.Prelude.{List, ℕ}
use Rattle.basis.specs.Choice.{lead_at}
use Rattle.basis.specs.Step.{classes, row_values}
use Rattle.parts.specs.Parts.{values_of}
use Rattle.family.specs.Member.{m16}
use Rattle.search.specs.Searching as Family
use Rattle.answers.specs.declared.Finding.{Finding}
use Rattle.answers.specs.Result.{fields_of}

abbrev pub Lowest : List ℕ → ℕ → ℕ → ℕ → Type 0
Lowest leads parity n r = Family.Lowest classes (lead_at leads) parity n r

abbrev pub Ready : ℕ → (ℕ → List ℕ) → List ℕ → List ℕ → List (List ℕ) → List ℕ → Type 0
Ready k columns word ps rows leads = Family.Ready m16 row_values lead_at k columns word ps rows leads

abbrev pub DecidedOf : ℕ → (ℕ → List ℕ) → List ℕ → List ℕ → List ℕ → ℕ → ℕ → Finding → Type 0
DecidedOf k columns word ps row lead left f = Family.DecidedOf m16 k columns word ps (values_of row) lead left (fields_of f)

abbrev pub SearchOf : ℕ → (ℕ → List ℕ) → List ℕ → List ℕ → List (List ℕ) → List ℕ → ℕ → Finding → Type 0
SearchOf k columns word ps rows leads left f = Family.SearchOf m16 row_values lead_at k columns word ps rows leads left (fields_of f)

abbrev pub BranchOf : ℕ → (ℕ → List ℕ) → List ℕ → ℕ → ℕ → List ℕ → List (List ℕ) → List ℕ → ℕ → Finding → Type 0
BranchOf k columns word place symbol ps rows leads left f = Family.BranchOf m16 row_values lead_at k columns word place symbol ps rows leads left (fields_of f)
