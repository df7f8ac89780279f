-- One node more: what adding a place with a symbol makes of rows and leads, for every member and whatever way an array keeps the rows: read gives
-- their values.
--
--   Stored M word L ns rows leads   the rows have the values of a basis up to L of the Q through the nodes ns, with the word's symbols for z
--   ExtendsOwn L p rows leads rows' leads'   for every M, every word and every list of nodes: what stores a basis of the Q through some nodes, stores one
--                     of the Q that also vanish at the place p, with the word's own symbol there
--   ExtendsIf L p flag …   so for a place whose flag is 1; nothing changes for another
--   Extends L p c …   so with the symbol that is c away from the word's own; the word has it from then on
--   Started M word before rows   the start rows are laid where as many rows stood
use Rattle.std.specs.Prelude.{◌≡◌, List, ◌∷◌, ℕ, ◌<◌, length, get_or, set}
use Rattle.std.specs.Int.Bits.{bit_xor}
use Rattle.family.specs.Member.{Member}
use Rattle.family.specs.Nodes.{Node, node}
use Rattle.values.specs.Holds as Holds
use Rattle.values.specs.Holds.{Values}
use Rattle.values.specs.Start.{StartRows}
use Rattle.values.specs.Settling.{OneMore, Passes}
use Rattle.stepping.specs.Choice.{lead_at}

module _ (𝓜 : Member) (read : List (List ℕ) → ℕ → Values 𝓜) where
  abbrev pub Stored : ℕ → List ℕ → ℕ → List Node → List (List ℕ) → List ℕ → Type 0
  Stored M word L ns rows leads = Holds.Stored 𝓜 M word L ns (read rows) (lead_at leads)

  pub record ExtendsOwn (L p : ℕ) (rows : List (List ℕ)) (leads : List ℕ) (rows' : List (List ℕ)) (leads' : List ℕ) : Type 0 where
    pub rows_long : length rows' ≡ length rows
    pub as_long : length leads' ≡ length leads
    pub stored : OneMore 𝓜 L p (read rows) (lead_at leads) (read rows') (lead_at leads')

  pub record ExtendsIf (L p flag : ℕ) (rows : List (List ℕ)) (leads : List ℕ) (rows' : List (List ℕ)) (leads' : List ℕ) : Type 0 where
    pub rows_long : length rows' ≡ length rows
    pub as_long : length leads' ≡ length leads
    pub stored : Passes 𝓜 L p (read rows) (lead_at leads) (read rows') (lead_at leads') flag

  pub record Extends (L p c : ℕ) (rows : List (List ℕ)) (leads : List ℕ) (rows' : List (List ℕ)) (leads' : List ℕ) : Type 0 where
    pub rows_long : length rows' ≡ length rows
    pub as_long : length leads' ≡ length leads
    pub stored : (M : ℕ) (word : List ℕ) (ns : List Node) (z : ℕ) → p < length word → c ≡ bit_xor (get_or word p 0) z → Stored M word L ns rows leads
        → Stored M (set word p z) L (node p z ∷ ns) rows' leads'

  pub record Started (M : ℕ) (word : List ℕ) (before rows : List (List ℕ)) : Type 0 where
    pub as_long : length rows ≡ length before
    pub are : StartRows 𝓜 M word (read rows)
