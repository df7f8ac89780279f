-- The loop over the settled places on rows of values, for every member: before it and at each place.
--
--   OneMore L p rows leads rows' leads'   for every M, every word and every list of nodes: what stores a basis of the Q through some nodes, stores one
--                    of the Q that also vanish at the place p, with the word's own symbol there
--   stepped-more     so does what a step makes of rows and leads
--   Passes L p flag …   one node more for a place whose flag is 1, and none for another; passes-taken, passes-not
--   settle-start     the start rows store a basis through the settled places below the first
--   settle-turn      where the rows store one through those below a place, they store one through those below the next when it is passed
use Rattle.std.specs.Prelude.{◌≡◌, List, ◌∷◌, ◌≢◌, ℕ, ◌+◌, ◌*◌, ◌<◌, get_or, cond}
use Rattle.std.proofs.Common.{sym, ap, ◌∙◌, subst, add-one, eq-eqb, ne_eqb}
use Rattle.hermitian.specs.Keys.{first}
use Rattle.family.specs.Member.{Member, places}
use Rattle.family.specs.Nodes.{Node, node}
use Rattle.values.specs.Holds.{Values, Stored}
use Rattle.values.specs.Step.{Stepped, stepped-stored}
use Rattle.values.specs.Start.{StartRows, start-stored}
use Rattle.values.specs.Settled.{taken, settled, settled-nil, settled-suc}

module _ (𝓜 : Member) where
  open 𝓜 use {w}

  module _ (L p : ℕ) (rows : ℕ → Values 𝓜) (leads : ℕ → ℕ) (rows' : ℕ → Values 𝓜) (leads' : ℕ → ℕ) where
    abbrev pub OneMore : Type 0
    OneMore = (M : ℕ) (word : List ℕ) (ns : List Node) → Stored 𝓜 M word L ns rows leads → Stored 𝓜 M word L (node p (get_or word p 0) ∷ ns) rows' leads'

    pub stepped-more : p < places 𝓜 → Stepped 𝓜 L p rows leads rows' leads' → OneMore
    stepped-more inside s M word ns S = stepped-stored 𝓜 S p inside s

    abbrev pub Passes : ℕ → Type 0
    Passes flag = (M : ℕ) (word : List ℕ) (ns : List Node) → Stored 𝓜 M word L ns rows leads → Stored 𝓜 M word L (taken word p flag ns) rows' leads'

  module _ (L p flag : ℕ) (rows : ℕ → Values 𝓜) (leads : ℕ → ℕ) where
    pub passes-taken : {rows' : ℕ → Values 𝓜} {leads' : ℕ → ℕ} → flag ≡ 1 → OneMore L p rows leads rows' leads' → Passes L p rows leads rows' leads' flag
    passes-taken {rows'} {leads'} e more M word ns S =
        subst (λ b. Stored 𝓜 M word L (cond b (node p (get_or word p 0) ∷ ns) ns) rows' leads') (sym (eq-eqb flag 1 e)) (more M word ns S)

    pub passes-not : flag ≢ 1 → Passes L p rows leads rows leads flag
    passes-not e M word ns S =
        subst (λ b. Stored 𝓜 M word L (cond b (node p (get_or word p 0) ∷ ns) ns) rows leads) (sym (ne_eqb flag 1 e)) S

  module _ (L M : ℕ) (word flags : List ℕ) where
    pub settle-start : {rows : ℕ → Values 𝓜} {leads : ℕ → ℕ} → StartRows 𝓜 M word rows → ((r : ℕ) → r < 2 * w → leads r ≡ first w M r)
        → Stored 𝓜 M word L (settled word flags 0) rows leads
    settle-start {rows} {leads} s e =
        subst (λ ns. Stored 𝓜 M word L ns rows leads) (sym (settled-nil word flags)) (start-stored 𝓜 M word L s e)

    pub settle-turn : (p : ℕ) {rows : ℕ → Values 𝓜} {leads : ℕ → ℕ} {rows' : ℕ → Values 𝓜} {leads' : ℕ → ℕ} → Passes L p rows leads rows' leads' (get_or flags p 0)
        → Stored 𝓜 M word L (settled word flags p) rows leads → Stored 𝓜 M word L (settled word flags (p + 1)) rows' leads'
    settle-turn p {rows} {leads} {rows'} {leads'} t S =
        subst (λ ns. Stored 𝓜 M word L ns rows' leads') (sym (ap (settled word flags) (add-one p) ∙ settled-suc word flags p))
        (t M word (settled word flags p) S)
