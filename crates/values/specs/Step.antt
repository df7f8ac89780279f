-- Kötter's step on rows of values, for every member: at a place, with the word's own symbol there, the discrepancy of a row is its value.
--
--   discrepancies       so are those of the basis that the rows store
--   Stepped L p rows leads rows' leads'   rows and leads after a step at place p: all discrepancies are zero and nothing changes, or the row of least lead
--                       among those of another discrepancy is raised, and the others are cleared by it
--   stepped-stored      what stores a basis of the Q through some nodes, stores then one of the Q that vanish at this place too
--   moved-stored        what stores a basis by one word, stores it by another, where the values have moved by the slopes
use Rattle.std.specs.Prelude.{◌≡◌, List, ◌∷◌, ◌≢◌, ℕ, ◌+◌, ◌*◌, ◌<◌, ◌≤◌, get_or}
use Rattle.std.proofs.Math.Path.{refl, subst}
use Rattle.std.proofs.Common.{sym, arith}
use mathlib.Core.List.Memᴰ
use Rattle.std.proofs.Math.Decide.{ℕ_discrete}
use Rattle.algebra.specs.Coefficients.{choose, choose_yes, choose_no}
use Rattle.algebra.specs.Subspace.{Functional, Kernel, cleared, restrict, common-inside, common-more, common-less}
use Rattle.algebra.specs.Koetter.{Basis, Discrepancies, Pivot, quiet, step, basis-same, basis-ext, raised}
use Rattle.galois.specs.BinaryField.{GF, K, to_f}
use Rattle.hermitian.specs.Interpolation.{evaluation, through-space}
use Rattle.family.specs.Member.{Member, places, px}
use Rattle.family.specs.Nodes.{Node, node, sample_at, ThroughNodes}
use Rattle.values.specs.Holds.{Values, Holds, Stored, holds-ext, holds-added, holds-raised, holds-moved}

module _ (𝓜 : Member) where
  open 𝓜 use {gf, w, wide}
  open K gf use {◌⊕◌, ◌⊗◌, 𝟘, inv}

  pub data Stepped (L p : ℕ) (rows : ℕ → Values 𝓜) (leads : ℕ → ℕ) (rows' : ℕ → Values 𝓜) (leads' : ℕ → ℕ) : Type 0 where
    same : ((r : ℕ) → r < 2 * w → leads r ≤ L → rows r 0 p ≡ 𝟘)
        → ((r : ℕ) → r < 2 * w → leads' r ≡ leads r)
        → ((r : ℕ) → r < 2 * w → leads r ≤ L → (h q : ℕ) → h < 2 → q < places 𝓜 → rows' r h q ≡ rows r h q)
        → Stepped L p rows leads rows' leads'
    raised_at : (at : ℕ) → Pivot (K gf) (2 * w) L leads (λ r. rows r 0 p) at
        → leads' at ≡ leads at + 2 * w
        → ((r : ℕ) → r < 2 * w → r ≢ at → leads' r ≡ leads r)
        → ((h q : ℕ) → h < 2 → q < places 𝓜 → rows' at h q ≡ (px 𝓜 q ⊕ px 𝓜 p) ⊗ rows at h q)
        → ((r : ℕ) → r < 2 * w → r ≢ at → leads r ≤ L → (h q : ℕ) → h < 2 → q < places 𝓜
        → rows' r h q ≡ rows r h q ⊕ (rows r 0 p ⊗ inv (rows at 0 p)) ⊗ rows at h q)
        → Stepped L p rows leads rows' leads'

  module _ {M : ℕ} {word : List ℕ} {L : ℕ} {ns : List Node} {rows : ℕ → Values 𝓜} {leads : ℕ → ℕ} (S : Stored 𝓜 M word L ns rows leads) where
    open S use {polynomials, basis, held}

    pub moved-stored : {rows' : ℕ → Values 𝓜} (word' : List ℕ)
        → ((r p : ℕ) → r < 2 * w → p < places 𝓜 → rows' r 0 p ≡ rows r 0 p ⊕ (to_f gf (get_or word p 0) ⊕ to_f gf (get_or word' p 0)) ⊗ rows r 1 p)
        → ((r p : ℕ) → r < 2 * w → p < places 𝓜 → rows' r 1 p ≡ rows r 1 p) → Stored 𝓜 M word' L ns rows' leads
    moved-stored word' e f =
        record { polynomials = polynomials; basis = basis; held = λ r h u. holds-moved 𝓜 word' (λ p l. e r p h l) (λ p l. f r p h l) (held r h u) }

    module _ (p : ℕ) (inside : p < places 𝓜) where
      here : Node
      here = node p (get_or word p 0)

      D : Functional (K gf) (2 * w) (ThroughNodes 𝓜 M ns)
      D = restrict (K gf) (common-inside (K gf) ns) (evaluation (K gf) w M wide (sample_at 𝓜 here))

      discrepancies : Discrepancies (K gf) (2 * w) L D.Val polynomials leads (λ r. rows r 0 p)
      unfolding D here
      discrepancies = record { at = λ r h u. (held r h u).whole p inside }

      -- the kernel is what passes through one node more
      one_more : {G : ℕ → ℕ → GF gf} {l : ℕ → ℕ} → Basis (K gf) (2 * w) L (Kernel (K gf) (ThroughNodes 𝓜 M ns) D.Val) G l
          → Basis (K gf) (2 * w) L (ThroughNodes 𝓜 M (here ∷ ns)) G l
      unfolding D
      one_more B =
          basis-same (K gf) (2 * w) L (common-more (K gf) (λ q m. Memᴰ.cases_cons m))
          (common-less (K gf) (Memᴰ.head refl) (λ q m. Memᴰ.tail m)) B

      module _ (at : ℕ) (P : Pivot (K gf) (2 * w) L leads (λ r. rows r 0 p) at) where
        Δ : ℕ → GF gf
        Δ r = rows r 0 p

        next : ℕ → ℕ → GF gf
        next r = choose (ℕ_discrete r at) (raised (K gf) (2 * w) (px 𝓜 p) (polynomials at)) (cleared (K gf) (Δ r) (Δ at) (polynomials r) (polynomials at))

        next_here : next at ≡ raised (K gf) (2 * w) (px 𝓜 p) (polynomials at)
        unfolding next
        next_here = choose_yes (ℕ_discrete at at) _ _ refl

        next-there : (r : ℕ) → r ≢ at → next r ≡ cleared (K gf) (Δ r) (Δ at) (polynomials r) (polynomials at)
        unfolding next
        next-there r n = choose_no (ℕ_discrete r at) _ _ n

        pivot-held : Holds 𝓜 M word (rows at) (polynomials at)
        pivot-held = held at P.within P.passes.unspent

        raised-stored : {rows' : ℕ → Values 𝓜} {leads' : ℕ → ℕ} → leads' at ≡ leads at + 2 * w → ((r : ℕ) → r < 2 * w → r ≢ at → leads' r ≡ leads r)
            → ((h q : ℕ) → h < 2 → q < places 𝓜 → rows' at h q ≡ (px 𝓜 q ⊕ px 𝓜 p) ⊗ rows at h q)
            → ((r : ℕ) → r < 2 * w → r ≢ at → leads r ≤ L → (h q : ℕ) → h < 2 → q < places 𝓜
            → rows' r h q ≡ rows r h q ⊕ (rows r 0 p ⊗ inv (rows at 0 p)) ⊗ rows at h q)
            → Stored 𝓜 M word L (here ∷ ns) rows' leads'
        unfolding D Δ here
        raised-stored {rows'} {leads'} lead-here lead-there row_here row-there =
            record {
              polynomials = next;
              basis =
                  one_more
                  (step (K gf) (2 * w) L (through-space (K gf) w M wide (sample_at 𝓜) ns) D polynomials leads (λ r. rows r 0 p) basis discrepancies at P next leads'
                  (record { lead_pivot = lead-here; lead_other = lead-there; row_pivot = λ u. next_here; row_other = λ r h n u. next-there r n }));
              held = λ r h u. go r h u (ℕ_discrete r at);
            }
          where
            go : (r : ℕ) → r < 2 * w → leads' r ≤ L → Dec (r ≡ at) → Holds 𝓜 M word (rows' r) (next r)
            go r h u (yes e) =
                subst (λ k. Holds 𝓜 M word (rows' k) (next k)) (sym e)
                (subst (Holds 𝓜 M word (rows' at)) (sym next_here) (holds-raised 𝓜 (px 𝓜 p) row_here pivot-held))
            go r h u (no n) =
                let u' : leads r ≤ L = omega (arith, lead-there r h n) in
                subst (Holds 𝓜 M word (rows' r)) (sym (next-there r n))
                (holds-added 𝓜 (rows r 0 p ⊗ inv (rows at 0 p)) (row-there r h n u') (held r h u') pivot-held)

      pub stepped-stored : {rows' : ℕ → Values 𝓜} {leads' : ℕ → ℕ} → Stepped L p rows leads rows' leads'
          → Stored 𝓜 M word L (node p (get_or word p 0) ∷ ns) rows' leads'
      unfolding D here
      stepped-stored (same z el er) =
          record {
            polynomials = polynomials;
            basis =
                basis-ext (K gf) (2 * w) L el (λ r h u. refl)
                (one_more (quiet (K gf) (2 * w) L (through-space (K gf) w M wide (sample_at 𝓜) ns) D polynomials leads (λ r. rows r 0 p) basis discrepancies z));
            held = λ r h u. let u' : leads r ≤ L = omega (arith, el r h) in holds-ext 𝓜 (er r h u') (held r h u');
          }
      stepped-stored (raised_at at P lead-here lead-there row_here row-there) = raised-stored at P lead-here lead-there row_here row-there
