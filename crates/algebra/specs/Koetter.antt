-- Kötter's step with a limit: a basis of W up to the limit becomes one of the kernel of a functional on W.
--
--   InClass K s W c m r       c is in W and has the lead m, which is in class r: m % s ≡ r
--   Basis K s L W G l      in each class r < s no element of W leads below l r, and where l r ≤ L the row G r has that lead
--   Discrepancies          Δ r is the value of the row G r, for the classes that are not spent (a class is spent where l r > L)
--   Live, Pivot            not spent and of non-zero discrepancy; the class of least lead among these
--   raised                 what the step makes of the pivot's row; the others are `cleared`
--   Step                   the equations of rows and leads after a step at a pivot
--   quiet                  where all discrepancies vanish, the basis of W is one of the kernel
--   step                   rows and leads that meet the equations of a step at a pivot are a basis of the kernel
--   basis-same, basis-ext  the same elements; the same rows and leads
--   pivot-or-quiet, step-exists   every basis has a step
--   koetter                so there is a basis of the common kernel of any list of functionals, from any start
--   start                  terms that stand at the least lead of each class are a basis
use Rattle.std.specs.Prelude.{◌≡◌, refl, List, [], ◌∷◌, ◌≢◌, ◌⊎◌, ℕ, suc, ◌+◌, ◌%◌, ◌<◌, ◌≤◌}
use Rattle.std.proofs.Common.{sym, ap, ◌∙◌, subst, subst₂, inl, inr, ⊎_elim, mod-lt, le_refl, arith}
use mathlib.Core.List.Memᴰ
use Rattle.std.proofs.Math.Nat.{add-mod_right}
use Rattle.std.proofs.Math.Decide.{dec_le, ℕ_discrete}
use Rattle.lists.specs.Residue.{residue-multiple, residue-gap}
use Rattle.lists.specs.Smallest.{Smallest, search-below}
use Rattle.algebra.specs.Field.{Field, add-self, zero-add, mul-ne-zero, inv-ne-zero}
use Rattle.algebra.specs.Coefficients.{choose, choose_yes, choose_no, plus, scale, shift, Below, Lead, below-mono, below-scale, lead-shift, lead-plus, cancel, unit, lead-unit}
use Rattle.algebra.specs.Subspace.{Space, Functional, Kernel, Common, ◌⊆◌, kernel-space, val-zero, lift-lead, reduce, cleared, cleared-kernel, cleared-lead, common-inside, on-common, common-start, common-more, common-less, common-space, values}

module _ {F : Type 0} (K : Field F) (s : ℕ) where
  open K use {◌⊕◌, ◌⊗◌, 𝟘, 𝟙, inv}

  pub record InClass (W : (ℕ → F) → Type 0) (c : ℕ → F) (m r : ℕ) : Type 0 where
    pub member : W c
    pub leads : Lead K c m
    pub class : m % s ≡ r

  -- c shifted, with a times itself: where a shift multiplies values by a, this has the value zero
  abbrev pub raised : F → (ℕ → F) → ℕ → F
  raised a c = plus K (shift K s c) (scale K a c)

  module _ (L : ℕ) where
    pub record Basis (W : (ℕ → F) → Type 0) (G : ℕ → ℕ → F) (l : ℕ → ℕ) : Type 0 where
      pub least : (r : ℕ) → r < s → (c : ℕ → F) (m : ℕ) → InClass W c m r → l r ≤ m
      pub held : (r : ℕ) → r < s → l r ≤ L → InClass W (G r) (l r) r

    pub record Discrepancies (Val : (ℕ → F) → F → Type 0) (G : ℕ → ℕ → F) (l : ℕ → ℕ) (Δ : ℕ → F) : Type 0 where
      pub at : (r : ℕ) → r < s → l r ≤ L → Val (G r) (Δ r)

    -- a class that the step at p has to clear: not spent, and not zero
    pub record Live (l : ℕ → ℕ) (Δ : ℕ → F) (r : ℕ) : Type 0 where
      pub unspent : l r ≤ L
      pub nonzero : Δ r ≢ 𝟘

    abbrev pub Pivot : (ℕ → ℕ) → (ℕ → F) → ℕ → Type 0
    Pivot l Δ p = Smallest s (Live l Δ) l p

    -- the rows G' and leads l' after a step at p; a is the functional's multiplier
    pub record Step (a : F) (p : ℕ) (Δ : ℕ → F) (G : ℕ → ℕ → F) (l : ℕ → ℕ) (G' : ℕ → ℕ → F) (l' : ℕ → ℕ) : Type 0 where
      pub lead_pivot : l' p ≡ l p + s
      pub lead_other : (r : ℕ) → r < s → r ≢ p → l' r ≡ l r
      pub row_pivot : l' p ≤ L → G' p ≡ raised a (G p)
      pub row_other : (r : ℕ) → r < s → r ≢ p → l r ≤ L → G' r ≡ cleared K (Δ r) (Δ p) (G r) (G p)

    pub basis-same : {W W' : (ℕ → F) → Type 0} {G : ℕ → ℕ → F} {l : ℕ → ℕ} → ◌⊆◌ K W W' → ◌⊆◌ K W' W → Basis W G l → Basis W' G l
    basis-same into from B =
        record {
          least = λ r h c m e. B.least r h c m (record { member = from c e.member; leads = e.leads; class = e.class });
          held = λ r h u. let e = B.held r h u in record { member = into _ e.member; leads = e.leads; class = e.class };
        }

    pub basis-ext : {W : (ℕ → F) → Type 0} {G G' : ℕ → ℕ → F} {l l' : ℕ → ℕ} → ((r : ℕ) → r < s → l' r ≡ l r)
        → ((r : ℕ) → r < s → l r ≤ L → G' r ≡ G r) → Basis W G l → Basis W G' l'
    basis-ext {W} {G} {G'} {l} {l'} el eG B =
        record {
          least = λ r h c m e. subst (λ x. x ≤ m) (sym (el r h)) (B.least r h c m e);
          held = λ r h u.
              let u' : l r ≤ L = subst (λ x. x ≤ L) (el r h) u in
              subst (λ x. InClass W (G' r) x r) (sym (el r h)) (subst (λ g. InClass W g (l r) r) (sym (eG r h u')) (B.held r h u'));
        }

    module _ {W : (ℕ → F) → Type 0} (S : Space K s W) (D : Functional K s W) (G : ℕ → ℕ → F) (l : ℕ → ℕ) (Δ : ℕ → F)
        (B : Basis W G l) (E : Discrepancies D.Val G l Δ) where
      -- a class that is not spent and of zero discrepancy is held in the kernel
      kept : (r : ℕ) → r < s → l r ≤ L → Δ r ≡ 𝟘 → InClass (Kernel K W D.Val) (G r) (l r) r
      kept r h u z =
          let e = B.held r h u in
          record {
            member = record { member = e.member; vanishes = subst (D.Val (G r)) z (E.at r h u) };
            leads = e.leads;
            class = e.class;
          }

      -- the kernel has no lead that W has not
      larger : (r : ℕ) → r < s → (c : ℕ → F) (m : ℕ) → InClass (Kernel K W D.Val) c m r → l r ≤ m
      larger r h c m e = B.least r h c m (record { member = e.member.member; leads = e.leads; class = e.class })

      pub quiet : ((r : ℕ) → r < s → l r ≤ L → Δ r ≡ 𝟘) → Basis (Kernel K W D.Val) G l
      quiet z = record { least = larger; held = λ r h u. kept r h u (z r h u) }

      module _ (p : ℕ) (P : Pivot l Δ p) where
        positive : 0 < s
        positive = omega (arith, P.within)

        base : InClass W (G p) (l p) p
        base = B.held p P.within P.passes.unspent

        base-value : D.Val (G p) (Δ p)
        base-value = E.at p P.within P.passes.unspent

        -- below the lead of the pivot every class has discrepancy zero
        earlier-zero : (r : ℕ) → r < s → l r < l p → Δ r ≡ 𝟘
        earlier-zero r h lt = go (K.same (Δ r) 𝟘)
          where
            go : Dec (Δ r ≡ 𝟘) → Δ r ≡ 𝟘
            go (yes z) = z
            go (no z) = absurd (omega (arith, P.least r h (record { unspent = omega (arith, P.passes.unspent); nonzero = z })))

        -- so the kernel has every lead of W that is smaller than the pivot's,
        same-lead : (c : ℕ → F) (m : ℕ) → m < l p → W c → Lead K c m → (d : ℕ → F) × Kernel K W D.Val d × Lead K d m
        same-lead c m lt h leads =
            let r : ℕ = m % s in
            let hr : r < s = mod-lt m positive in
            let le : l r ≤ m = B.least r hr c m (record { member = h; leads = leads; class = refl }) in
            let e = kept r hr (omega (arith, P.passes.unspent)) (earlier-zero r hr (omega arith)) in
            let q = residue-multiple s positive le e.class in
            let t = lift-lead K (kernel-space K S D) e.member e.leads q.0 in
            (t.0, t.1, subst (Lead K t.0) (sym q.1) t.2)

        -- and holds every such element
        kernel-below : (c : ℕ → F) → W c → Below K c (l p) → Kernel K W D.Val c
        kernel-below c h below =
            reduce K S (kernel-space K S D) (λ d e. e.member) (l p) (λ d e z. record { member = e; vanishes = val-zero K S D e z })
            same-lead (l p) (le_refl (l p)) c h below

        -- no element of the kernel has the pivot's own lead: less a multiple of the pivot's row, it would be in the kernel and not zero
        not-pivot : (c : ℕ → F) → Kernel K W D.Val c → ¬ Lead K c (l p)
        not-pivot c h leads =
            let k : F = c (l p) ⊗ inv (G p (l p)) in
            let hk : k ≢ 𝟘 = mul-ne-zero K _ _ leads.ne (inv-ne-zero K _ base.leads.ne) in
            let d : ℕ → F = plus K c (scale K k (G p)) in
            let e = kernel-below d (S.sums h.member (S.multiples k base.member)) (cancel K leads.above base.leads) in
            let v : D.Val d (𝟘 ⊕ k ⊗ Δ p) = D.val_plus h.vanishes (D.val_scale k base-value) in
            mul-ne-zero K k (Δ p) hk P.passes.nonzero (sym (zero-add K (k ⊗ Δ p)) ∙ D.unique v e.vanishes)

        above-pivot : (c : ℕ → F) (m : ℕ) → InClass (Kernel K W D.Val) c m p → l p + s ≤ m
        above-pivot c m e = go (ℕ_discrete (l p) m)
          where
            le : l p ≤ m
            le = larger p P.within c m e

            go : Dec (l p ≡ m) → l p + s ≤ m
            go (yes q) = absurd (not-pivot c e.member (subst (Lead K c) (sym q) e.leads))
            go (no q) = residue-gap s positive (omega (arith, le)) (base.class ∙ sym e.class)

        -- the pivot's row, multiplied so that it vanishes
        raised-held : InClass (Kernel K W D.Val) (raised D.multiplier (G p)) (l p + s) p
        raised-held =
            record {
              member = record {
                member = S.sums (S.shifts base.member) (S.multiples _ base.member);
                vanishes =
                    subst (D.Val (raised D.multiplier (G p))) (add-self K (D.multiplier ⊗ Δ p))
                    (D.val_plus (D.val_shift base-value) (D.val_scale _ base-value));
              };
              leads =
                  lead-plus K (lead-shift K s base.leads)
                  (below-mono K (omega (arith, positive)) (below-scale K _ base.leads.above));
              class = add-mod_right (l p) s ∙ base.class;
            }

        -- another row, less the multiple of the pivot's row that has its value
        cleared-held : (r : ℕ) → r < s → r ≢ p → l r ≤ L
            → InClass (Kernel K W D.Val) (cleared K (Δ r) (Δ p) (G r) (G p)) (l r) r
        cleared-held r h ne u =
            record {
              member = cleared-kernel K S D e.member base.member (E.at r h u) base-value P.passes.nonzero;
              leads = cleared-lead K e.leads base.leads smaller;
              class = e.class;
            }
          where
            e : InClass W (G r) (l r) r
            e = B.held r h u

            smaller : Δ r ≢ 𝟘 → l p < l r
            smaller z =
                let le : l p ≤ l r = P.least r h (record { unspent = u; nonzero = z }) in
                let other : l p ≢ l r = λ q. ne (sym e.class ∙ ap (λ x. x % s) (sym q) ∙ base.class) in
                omega arith

        pub step : (G' : ℕ → ℕ → F) (l' : ℕ → ℕ) → Step D.multiplier p Δ G l G' l' → Basis (Kernel K W D.Val) G' l'
        step G' l' T =
            record {
              least = λ r h c m e. least r h c m e (ℕ_discrete r p);
              held = λ r h u. held r h u (ℕ_discrete r p);
            }
          where
            least : (r : ℕ) → r < s → (c : ℕ → F) (m : ℕ) → InClass (Kernel K W D.Val) c m r → Dec (r ≡ p) → l' r ≤ m
            least r h c m e (yes q) =
                subst (λ x. l' x ≤ m) (sym q) (omega (arith, T.lead_pivot, above-pivot c m (subst (InClass (Kernel K W D.Val) c m) q e)))
            least r h c m e (no q) = omega (arith, T.lead_other r h q, larger r h c m e)

            held : (r : ℕ) → r < s → l' r ≤ L → Dec (r ≡ p) → InClass (Kernel K W D.Val) (G' r) (l' r) r
            held r h u (yes q) =
                let u' : l' p ≤ L = subst (λ x. l' x ≤ L) q u in
                subst (λ x. InClass (Kernel K W D.Val) (G' x) (l' x) x) (sym q)
                (subst₂ (λ g x. InClass (Kernel K W D.Val) g x p) (sym (T.row_pivot u')) (sym T.lead_pivot) raised-held)
            held r h u (no q) =
                let u' : l r ≤ L = omega (arith, T.lead_other r h q) in
                subst₂ (λ g x. InClass (Kernel K W D.Val) g x r) (sym (T.row_other r h q u')) (sym (T.lead_other r h q)) (cleared-held r h q u')

    -- either every discrepancy is zero, or there is a pivot
    pub pivot-or-quiet : (l : ℕ → ℕ) (Δ : ℕ → F) → ((r : ℕ) → r < s → l r ≤ L → Δ r ≡ 𝟘) ⊎ ((p : ℕ) × Pivot l Δ p)
    pivot-or-quiet l Δ =
        ⊎_elim (λ none. inl (λ r h u. zero-there r u (none r h) (K.same (Δ r) 𝟘))) (λ t. inr t) (search-below (Live l Δ) test l s)
      where
        zero-there : (r : ℕ) → l r ≤ L → ¬ Live l Δ r → Dec (Δ r ≡ 𝟘) → Δ r ≡ 𝟘
        zero-there r u not (yes z) = z
        zero-there r u not (no z) = absurd (not (record { unspent = u; nonzero = z }))

        both : (r : ℕ) → Dec (l r ≤ L) → Dec (Δ r ≡ 𝟘) → Dec (Live l Δ r)
        both r (yes u) (yes z) = no (λ h. h.nonzero z)
        both r (yes u) (no z) = yes (record { unspent = u; nonzero = z })
        both r (no u) (yes z) = no (λ h. u h.unspent)
        both r (no u) (no z) = no (λ h. u h.unspent)

        test : (r : ℕ) → Dec (Live l Δ r)
        test r = both r (dec_le (l r) L) (K.same (Δ r) 𝟘)

    module _ {W : (ℕ → F) → Type 0} (S : Space K s W) (D : Functional K s W) (G : ℕ → ℕ → F) (l : ℕ → ℕ) (B : Basis W G l) where
      pub discrepancies-exist : (Δ : ℕ → F) × Discrepancies D.Val G l Δ
      discrepancies-exist = ((λ r. (value r).0), record { at = λ r. (value r).1 })
        where
          go : (r : ℕ) → Dec (r < s) → Dec (l r ≤ L) → (v : F) × (r < s → l r ≤ L → D.Val (G r) v)
          go r (yes h) (yes u) =
              let t = D.total (B.held r h u).member in
              (t.0, λ h' u'. t.1)
          go r (yes h) (no u) = (𝟘, λ h' u'. absurd (u u'))
          go r (no h) (yes u) = (𝟘, λ h' u'. absurd (h h'))
          go r (no h) (no u) = (𝟘, λ h' u'. absurd (h h'))

          value : (r : ℕ) → (v : F) × (r < s → l r ≤ L → D.Val (G r) v)
          value r = go r (dec_le (suc r) s) (dec_le (l r) L)

      pub step-exists : (G' : ℕ → ℕ → F) × (l' : ℕ → ℕ) × Basis (Kernel K W D.Val) G' l'
      step-exists =
          let t = discrepancies-exist in
          ⊎_elim (λ z. (G, l, quiet S D G l t.0 B t.1 z)) (λ q. at-pivot t.0 t.1 q.0 q.1) (pivot-or-quiet l t.0)
        where
          at-pivot : (Δ : ℕ → F) → Discrepancies D.Val G l Δ → (p : ℕ) → Pivot l Δ p
              → (G' : ℕ → ℕ → F) × (l' : ℕ → ℕ) × Basis (Kernel K W D.Val) G' l'
          at-pivot Δ E p P =
              let row : ℕ → ℕ → F = λ r.
              choose (ℕ_discrete r p) (raised D.multiplier (G p))
              (cleared K (Δ r) (Δ p) (G r) (G p)) in
              let lead : ℕ → ℕ = λ r. choose (ℕ_discrete r p) (l p + s) (l r) in (
                row,
                lead,
                step S D G l Δ B E p P row lead (record {
                  lead_pivot = choose_yes (ℕ_discrete p p) _ _ refl;
                  lead_other = λ r h ne. choose_no (ℕ_discrete r p) _ _ ne;
                  row_pivot = λ u. choose_yes (ℕ_discrete p p) _ _ refl;
                  row_other = λ r h ne u. choose_no (ℕ_discrete r p) _ _ ne;
                }),
              )

    pub koetter : {P : Type 0} {W : (ℕ → F) → Type 0} → Space K s W → (D : P → Functional K s W) (G : ℕ → ℕ → F) (l : ℕ → ℕ)
        → Basis W G l → (ps : List P) → (G' : ℕ → ℕ → F) × (l' : ℕ → ℕ) × Basis (Common K W (values K D) ps) G' l'
    koetter S D G l B [] = (G, l, basis-same (common-start K) (common-inside K []) B)
    koetter S D G l B (p ∷ ps) =
        let t = koetter S D G l B ps in
        let u = step-exists (common-space K D S ps) (on-common K D p ps) t.0 t.1 t.2 in
        (u.0, u.1, basis-same (common-more K (λ q m. Memᴰ.cases_cons m)) (common-less K (Memᴰ.head refl) (λ q m. Memᴰ.tail m)) u.2)

    -- where the least lead of class r is that of one term, these terms are a basis
    pub start : {W : (ℕ → F) → Type 0} (first : ℕ → ℕ) → ((r : ℕ) → r < s → (c : ℕ → F) (m : ℕ) → InClass W c m r → first r ≤ m)
        → ((r : ℕ) → r < s → first r ≤ L → first r % s ≡ r) → ((r : ℕ) → r < s → first r ≤ L → W (unit K (first r)))
        → Basis W (λ r. unit K (first r)) first
    start first least class member =
        record {
          least = least;
          held = λ r h u. record { member = member r h u; leads = lead-unit K (first r); class = class r h u };
        }
