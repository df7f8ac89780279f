-- Why a place that is added is one node more: by the class chosen, a step of Kötter's algorithm on the values.
--
--   chosen_live       the lead of the class chosen is within the limit
--   extends-same      where no class is chosen, nothing changes
--   extends-raised    a step at the class chosen
--   extends-moved     another symbol: the rows are moved first
--   extends-kept      no other symbol: the step alone
--   extends-taken, extends-not   a place whose flag is 1, and another
--   listed_start      the start rows, with the first keys as leads
use Rattle.std.specs.Prelude.{◌≡◌, refl, List, ◌∷◌, ◌≢◌, ℕ, ◌+◌, ◌<◌, ◌≤◌, length, set}
use Rattle.std.proofs.Common.{sym, ◌∙◌, subst, arith, pow_pos, get_or-set_same}
use Rattle.std.proofs.Math.Path.{ap, ap₂}
use Rattle.std.proofs.Math.Decide.{dec_le, ℕ_discrete}
use Rattle.std.specs.Int.Bits.{bit_xor}
use Rattle.std.proofs.Math.ListN.{get_or, length-set}
use Rattle.std.proofs.Math.Seq.{get_or-set_other}
use Rattle.lists.specs.Listed.{listed, listed_at}
use Rattle.lists.specs.Smallest.{Smallest}
use Rattle.algebra.specs.Field.{add-zero, add-self, zero-mul}
use Rattle.algebra.specs.Koetter.{Pivot}
use Rattle.galois.specs.BinaryField.{K, to_f, to_f-add, to_f-times, to_f-inverse, to_f-zero, to_f-injective, inverse}
use Rattle.hermitian.specs.Keys.{first}
use Rattle.family.specs.Member.{Member, places, px}
use Rattle.family.specs.Nodes.{Node, node}
use Rattle.values.specs.Holds.{Values}
use Rattle.values.specs.Start.{StartRows}
use Rattle.values.specs.Step.{Stepped, same, raised_at, moved-stored}
use Rattle.values.specs.Settled.{settled}
use Rattle.values.specs.Settling.{stepped-more, passes-taken, passes-not, settle-start}
use Rattle.stepping.specs.Choice.{lead_at, Nonzero, Chosen, none, one}
use Rattle.stepping.specs.Step.{classes, DiscrepanciesAt, NextRows, MovedRows}
use Rattle.stepping.specs.Extending.{Stored, ExtendsOwn, ExtendsIf, Extends}

-- ---- the word's own symbol
module _ (𝓜 : Member) (read : List (List ℕ) → ℕ → Values 𝓜) (L : ℕ) (rows : List (List ℕ)) (leads : List ℕ) (p : ℕ) (inside : p < places 𝓜) (ds : List ℕ)
    (known : DiscrepanciesAt 𝓜 L leads (read rows) p ds) where
  open 𝓜 use {gf, w}
  open K gf use {◌⊕◌, ◌⊗◌, 𝟘}

  zero-byte : (r : ℕ) → r < classes 𝓜 → lead_at leads r ≤ L → read rows r 0 p ≡ 𝟘 → get_or ds r 0 ≡ 0
  zero-byte r h u z =
      to_f-injective gf (get_or ds r 0) 0 (known.small r h) (pow_pos gf.bits) (known.live r h u ∙ z ∙ sym (to_f-zero gf))

  -- a class whose discrepancy is not zero is not spent
  live : (r : ℕ) → r < classes 𝓜 → get_or ds r 0 ≢ 0 → lead_at leads r ≤ L
  live r h n = go (dec_le (lead_at leads r) L)
    where
      go : Dec (lead_at leads r ≤ L) → lead_at leads r ≤ L
      go (yes u) = u
      go (no u) = absurd (n (known.spent r h (omega arith)))

  pivot : (at : ℕ) → Smallest (classes 𝓜) (Nonzero ds) (lead_at leads) at → Pivot (K gf) (classes 𝓜) L (lead_at leads) (λ r. read rows r 0 p) at
  pivot at s =
      let u : lead_at leads at ≤ L = live at s.within s.passes.nonzero in
      record {
        within = s.within;
        passes = record { unspent = u; nonzero = λ z. s.passes.nonzero (zero-byte at s.within u z) };
        least = λ k h v.
            s.least k h (record { nonzero = λ z. v.nonzero (sym (known.live k h v.unspent) ∙ ap (to_f gf) z ∙ to_f-zero gf) });
      }

  module _ (at : ℕ) (chosen : Chosen (classes 𝓜) (classes 𝓜) ds leads at) where
    pub chosen_live : at < classes 𝓜 → get_or leads at 0 ≤ L
    unfolding lead_at
    chosen_live h = go chosen
      where
        go : Chosen (classes 𝓜) (classes 𝓜) ds leads at → get_or leads at 0 ≤ L
        go (none q z) = absurd (omega arith)
        go (one s f) = live at h s.passes.nonzero

    pub extends-same : classes 𝓜 ≤ at → ExtendsOwn 𝓜 read L p rows leads rows leads
    extends-same h = record { rows_long = refl; as_long = refl; stored = stepped-more 𝓜 L p _ _ _ _ inside (go chosen) }
      where
        go : Chosen (classes 𝓜) (classes 𝓜) ds leads at → Stepped 𝓜 L p (read rows) (lead_at leads) (read rows) (lead_at leads)
        go (none q z) = same (λ r l u. sym (known.live r l u) ∙ ap (to_f gf) (z r l) ∙ to_f-zero gf) (λ r l. refl) (λ r l u a b c d. refl)
        go (one s f) = absurd (omega (arith, s.within))

    pub extends-raised : (rows' : List (List ℕ)) (x : ℕ) → at < classes 𝓜 → length leads ≡ classes 𝓜 → length rows' ≡ length rows → to_f gf x ≡ px 𝓜 p
        → NextRows 𝓜 at x ds (read rows) (read rows') → ExtendsOwn 𝓜 read L p rows leads rows' (set leads at (get_or leads at 0 + classes 𝓜))
    unfolding lead_at
    extends-raised rows' x h size long point next =
        record {
          rows_long = long;
          as_long = length-set leads at (get_or leads at 0 + classes 𝓜);
          stored = stepped-more 𝓜 L p _ _ _ _ inside (go chosen);
        }
      where
        go : Chosen (classes 𝓜) (classes 𝓜) ds leads at
            → Stepped 𝓜 L p (read rows) (lead_at leads) (read rows') (lead_at (set leads at (get_or leads at 0 + classes 𝓜)))
        go (none q z) = absurd (omega arith)
        go (one s f) =
            raised_at at (pivot at s) (get_or-set_same leads at _ 0 (omega arith)) (λ r l n. get_or-set_other leads at r _ 0 n)
            (λ k q a b. next.pivot k q a b ∙ ap (λ y. (px 𝓜 q ⊕ y) ⊗ read rows at k q) point)
            (λ r l n u k q a b.
            next.other r l n k q a b
            ∙ ap (λ y. read rows r k q ⊕ y ⊗ read rows at k q)
            (to_f-times gf (get_or ds r 0) (inverse gf (get_or ds at 0))
            ∙ ap₂ (λ y z. y ⊗ z) (known.live r l u) (to_f-inverse gf (get_or ds at 0) ∙ ap (K gf).inv (known.live at h (live at h s.passes.nonzero)))))

-- ---- another symbol
module _ (𝓜 : Member) where
  open 𝓜 use {gf}
  open K gf use {◌⊕◌, ◌⊗◌, 𝟘}

  -- the word's symbols, before and after
  change-here : (word : List ℕ) (p c z : ℕ) → p < length word → c ≡ bit_xor (get_or word p 0) z
      → to_f gf (get_or word p 0) ⊕ to_f gf (get_or (set word p z) p 0) ≡ to_f gf c
  change-here word p c z h e =
      ap (λ x. to_f gf (get_or word p 0) ⊕ to_f gf x) (get_or-set_same word p z 0 h) ∙ sym (to_f-add gf (get_or word p 0) z) ∙ ap (to_f gf) (sym e)

  change-there : (word : List ℕ) (p z q : ℕ) → q ≢ p → to_f gf (get_or word q 0) ⊕ to_f gf (get_or (set word p z) q 0) ≡ 𝟘
  change-there word p z q n = ap (λ x. to_f gf (get_or word q 0) ⊕ to_f gf x) (get_or-set_other word p q z 0 n) ∙ add-self (K gf) _

  module _ (read : List (List ℕ) → ℕ → Values 𝓜) {L p c : ℕ} {rows : List (List ℕ)} {leads : List ℕ} {rows' : List (List ℕ)} {leads' : List ℕ} where
    -- what the step makes of rows that are moved
    extends-by : (between : List (List ℕ)) → length between ≡ length rows
        → ((M : ℕ) (word : List ℕ) (ns : List Node) (z : ℕ) → p < length word → c ≡ bit_xor (get_or word p 0) z → Stored 𝓜 read M word L ns rows leads
        → Stored 𝓜 read M (set word p z) L ns between leads)
        → ExtendsOwn 𝓜 read L p between leads rows' leads' → Extends 𝓜 read L p c rows leads rows' leads'
    extends-by between long move E =
        record {
          rows_long = E.rows_long ∙ long;
          as_long = E.as_long;
          stored = λ M word ns z h e S.
              subst (λ s. Stored 𝓜 read M (set word p z) L (node p s ∷ ns) rows' leads') (get_or-set_same word p z 0 h)
              (E.stored M (set word p z) ns (move M word ns z h e S));
        }

    pub extends-moved : (between : List (List ℕ)) → length between ≡ length rows → MovedRows 𝓜 p c (read rows) (read between)
        → ExtendsOwn 𝓜 read L p between leads rows' leads' → Extends 𝓜 read L p c rows leads rows' leads'
    extends-moved between long moved E =
        extends-by between long
        (λ M word ns z h e S.
        moved-stored 𝓜 S (set word p z) (λ r q l k. whole word z h e r q l k (ℕ_discrete q p)) (λ r q l k. moved.slopes r q l k))
        E
      where
        whole : (word : List ℕ) (z : ℕ) → p < length word → c ≡ bit_xor (get_or word p 0) z → (r q : ℕ) → r < classes 𝓜 → q < places 𝓜 → Dec (q ≡ p)
            → read between r 0 q ≡ read rows r 0 q ⊕ (to_f gf (get_or word q 0) ⊕ to_f gf (get_or (set word p z) q 0)) ⊗ read rows r 1 q
        whole word z h e r q l k (yes i) =
            subst (λ t. read between r 0 t ≡ read rows r 0 t ⊕ (to_f gf (get_or word t 0) ⊕ to_f gf (get_or (set word p z) t 0)) ⊗ read rows r 1 t) (sym i)
            (moved.here r l ∙ ap (λ x. read rows r 0 p ⊕ x ⊗ read rows r 1 p) (sym (change-here word p c z h e)))
        whole word z h e r q l k (no n) =
            moved.elsewhere r q l k n
            ∙ sym (ap (λ x. read rows r 0 q ⊕ x ⊗ read rows r 1 q) (change-there word p z q n)
            ∙ ap (λ x. read rows r 0 q ⊕ x) (zero-mul (K gf) _) ∙ add-zero (K gf) _)

    -- no change: the symbols are the same elements, though not always the same numbers
    pub extends-kept : c ≡ 0 → ExtendsOwn 𝓜 read L p rows leads rows' leads' → Extends 𝓜 read L p c rows leads rows' leads'
    extends-kept no_change E =
        extends-by rows refl
        (λ M word ns z h e S. moved-stored 𝓜 S (set word p z) (λ r q l k. whole word z h e r q (ℕ_discrete q p)) (λ r q l k. refl)) E
      where
        apart : (word : List ℕ) (z : ℕ) → p < length word → c ≡ bit_xor (get_or word p 0) z → (q : ℕ) → Dec (q ≡ p)
            → to_f gf (get_or word q 0) ⊕ to_f gf (get_or (set word p z) q 0) ≡ 𝟘
        apart word z h e q (yes i) =
            ap (λ t. to_f gf (get_or word t 0) ⊕ to_f gf (get_or (set word p z) t 0)) i ∙ change-here word p c z h e ∙ ap (to_f gf) no_change ∙ to_f-zero gf
        apart word z h e q (no n) = change-there word p z q n

        whole : (word : List ℕ) (z : ℕ) → p < length word → c ≡ bit_xor (get_or word p 0) z → (r q : ℕ) → Dec (q ≡ p)
            → read rows r 0 q ≡ read rows r 0 q ⊕ (to_f gf (get_or word q 0) ⊕ to_f gf (get_or (set word p z) q 0)) ⊗ read rows r 1 q
        whole word z h e r q d =
            sym (ap (λ x. read rows r 0 q ⊕ x ⊗ read rows r 1 q) (apart word z h e q d)
            ∙ ap (λ x. read rows r 0 q ⊕ x) (zero-mul (K gf) _) ∙ add-zero (K gf) _)

-- ---- the loop over the settled places
module _ (𝓜 : Member) (read : List (List ℕ) → ℕ → Values 𝓜) where
  open 𝓜 use {w}

  module _ {L p flag : ℕ} {rows : List (List ℕ)} {leads : List ℕ} where
    pub extends-taken : {rows' : List (List ℕ)} {leads' : List ℕ} → flag ≡ 1 → ExtendsOwn 𝓜 read L p rows leads rows' leads'
        → ExtendsIf 𝓜 read L p flag rows leads rows' leads'
    extends-taken e t = record { rows_long = t.rows_long; as_long = t.as_long; stored = passes-taken 𝓜 L p flag _ _ e t.stored }

    pub extends-not : flag ≢ 1 → ExtendsIf 𝓜 read L p flag rows leads rows leads
    extends-not e = record { rows_long = refl; as_long = refl; stored = passes-not 𝓜 L p flag _ _ e }

  -- the leads as the code has them
  pub listed_start : (L M : ℕ) (word flags : List ℕ) (rows : List (List ℕ)) (leads : List ℕ) → leads ≡ listed (classes 𝓜) (first w M)
      → StartRows 𝓜 M word (read rows) → Stored 𝓜 read M word L (settled word flags 0) rows leads
  unfolding lead_at
  listed_start L M word flags rows leads e s =
      settle-start 𝓜 L M word flags s (λ r h. ap (λ l. get_or l r 0) e ∙ listed_at (classes 𝓜) r (first w M) 0 h)
