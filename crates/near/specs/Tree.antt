-- The tree of test words and the nodes decided so far, for every member, any T and any places that count.
--
--   Places n ps        ps are different places, all below n; places_of, places-test: a list that passes the tests is so, and the other way round
--   places-at          each place of them is below n; places-unblanked: those of them that count are so too
--   without counts ps  the places that count, but ps: without-passes, passes-without
--   count-without      where all of ps count, they are fewer by as many as ps has
--   Decided word ps ns   the nodes ns are those of the word at all places that count but the doubtful ones that are left, ps
--   decided-step       one doubtful place less: its node is decided, with the symbol that the word gets there
--   decided-through    where none is left, what passes through ns passes through the word, and back
--   decided-without    the nodes are those of the word at all places that count but ps: there none is left
--   near-without       a codeword within T of a test word of the tree is within T of the word at these places
--   tree-spent         where every odd class is spent, no test word of the tree has a codeword within T, and there is no answer
use Rattle.std.specs.Prelude.{Bool, false, ◌&&◌, ◌≡◌, refl, ◌≢◌, T, ltb, length, get_or, set}
use Rattle.std.proofs.Math.Bool.{true, not, true≢false}
use Rattle.std.proofs.Math.Path.{sym, ap, subst}
use Rattle.std.proofs.Common.{◌∙◌, ⊎_elim, le_of_suc-le-suc, get_or-set_same, get_or-set_other}
use mathlib.Core.List.Memᴰ
use mathlib.Core.List.{List, [], ◌∷◌, Memᴰ}
use Rattle.std.proofs.Math.Option.{none}
use Prim.Native.Nat.{ℕ, zero, suc, ◌+◌, ◌*◌, ◌%◌, ◌<◌}
use Rattle.std.proofs.Math.Decide.{ℕ_discrete}
use native.Mathlib.Omega.{arith}
use Rattle.std.proofs.Math.Dec.{le→leb, leb→le}
use borrow.Author.Tests.{lt-ltb, not-true}
use Rattle.lists.specs.Count.{count, count-split, kept-length, kept-member}
use Rattle.lists.specs.Different.{count-among, among-count}
use Rattle.lists.specs.Every.{true-T, T_true}
use Rattle.lists.specs.Member.{member-at, at-member}
use Rattle.lists.specs.Distinct.{among, among-member, member-among, not-among, distinct, below, below-cons, below-among, and_left, and_right, and_both}
use Rattle.lists.specs.Listed.{listed, listed-length, listed_at}
use Rattle.algebra.specs.Subspace.{◌⊆◌, common-fewer}
use Rattle.algebra.specs.Koetter.{Basis}
use Rattle.galois.specs.BinaryField.{GF, K}
use Rattle.soft.specs.Blank.{unblanked}
use Rattle.soft.specs.BlankLaws.{unblanked-nil, unblanked-in, unblanked-out, unblanked-member}
use Rattle.soft.specs.TestWord.{expand}
use Rattle.soft.specs.TestWordLaws.{expand-length, expand-settled}
use Rattle.soft.specs.Total.{differing_in}
use Rattle.soft.specs.TotalLaws.{differing-comm, differing-mono, differing-open}
use Rattle.family.specs.Member.{Member, places}
use Rattle.family.specs.Nodes.{Node, node, ThroughNodes}
use Rattle.family.specs.Encoding.{encode_of}
use Rattle.near.specs.Near.{m_of, near_to, tests_near, answer_of}
use Rattle.near.specs.Reach.{Workable}
use Rattle.near.specs.Laws.{none-near}
use Rattle.near.specs.Codeword.{place_at, place_at-below, place_at-counts}
use Rattle.near.specs.Interpolated.{limit_of, node_of, nodes_of, near-spent}

pub data Places (n : ℕ) : List ℕ → Type 0 where
  places_nil : Places n []
  places_cons : {p : ℕ} {ps : List ℕ} → p < n → ¬ Memᴰ p ps → Places n ps → Places n (p ∷ ps)

pub places_of : (n : ℕ) (ps : List ℕ) → below n ps ≡ true → distinct ps ≡ true → Places n ps
unfolding distinct
places_of n [] b d = places_nil
places_of n (p ∷ ps) b d =
    let h = below-cons n p ps b in
    places_cons h.0 (λ m. true≢false (sym (among-member m) ∙ not-true (among p ps) (and_left (not (among p ps)) (distinct ps) d)))
    (places_of n ps h.1 (and_right (not (among p ps)) (distinct ps) d))

pub places-test : {n : ℕ} {ps : List ℕ} → Places n ps → (below n ps ≡ true) × (distinct ps ≡ true)
unfolding below distinct
places-test places_nil = (refl, refl)
places-test {n} (places_cons {p} {ps} h fresh P) =
    let t = places-test P in (
      and_both (ltb p n) (below n ps) (lt-ltb p n h) t.0,
      and_both (not (among p ps)) (distinct ps) (ap not (not-among p ps fresh)) t.1,
    )

pub places-at : {n : ℕ} {ps : List ℕ} → Places n ps → (i : ℕ) → i < length ps → get_or ps i 0 < n
places-at places_nil i h = absurd (omega arith)
places-at (places_cons a f P) zero h = a
places-at (places_cons a f P) (suc i) h = places-at P i (le_of_suc-le-suc h)

-- those that count of different places are different places
pub places-unblanked : {n : ℕ} (counts : ℕ → Bool) {ps : List ℕ} → Places n ps → Places n (unblanked counts ps)
places-unblanked {n} counts places_nil = subst (Places n) (sym (unblanked-nil counts)) places_nil
places-unblanked {n} counts (places_cons {p} {ps} h fresh P) = go (counts p) refl (places-unblanked counts P)
  where
    go : (b : Bool) → counts p ≡ b → Places n (unblanked counts ps) → Places n (unblanked counts (p ∷ ps))
    go true e r = subst (Places n) (sym (unblanked-in counts p ps e)) (places_cons h (λ m. fresh (unblanked-member counts ps p m).0) r)
    go false e r = subst (Places n) (sym (unblanked-out counts p ps e)) r

-- ---- the places that count but some

unfoldable pub without : (ℕ → Bool) → List ℕ → ℕ → Bool
without counts ps p = counts p && not (among p ps)

module _ (counts : ℕ → Bool) (ps : List ℕ) (p : ℕ) where
  pub without-passes : T (counts p) → ¬ Memᴰ p ps → T (without counts ps p)
  unfolding without
  without-passes c out =
      true-T (without counts ps p) (and_both (counts p) (not (among p ps)) (T_true (counts p) c) (ap not (not-among p ps out)))

  pub passes-without : T (without counts ps p) → T (counts p) × (¬ Memᴰ p ps)
  unfolding without
  passes-without t =
      let e : (counts p && not (among p ps)) ≡ true = T_true (without counts ps p) t in (
        true-T (counts p) (and_left (counts p) (not (among p ps)) e),
        λ m. true≢false (sym (among-member m) ∙ not-true (among p ps) (and_right (counts p) (not (among p ps)) e)),
      )

pub count-without : {n : ℕ} (counts : ℕ → Bool) {ps : List ℕ} → Places n ps → ((p : ℕ) → Memᴰ p ps → counts p ≡ true)
    → count n (without counts ps) + length ps ≡ count n counts
unfolding without
count-without {n} counts {ps} P all =
    let t = places-test P in
    let chosen : ℕ → Bool = λ p. counts p && among p ps in
    omega (
      arith,
      count-split n counts (λ p. among p ps),
      count-among ps n chosen (λ p l c. and_right (counts p) (among p ps) (T_true (chosen p) c)),
      among-count ps n chosen t.1
          (λ p a. (below-among n ps p t.0 a, true-T (chosen p) (and_both (counts p) (among p ps) (all p (member-among p ps a)) a))),
    )

module _ (𝓜 : Member) (counts : ℕ → Bool) where
  open 𝓜 use {gf, w}

  pub record Decided (word : List ℕ) (ps : List ℕ) (ns : List Node) : Type 0 where
    pub inside : (n : Node) → Memᴰ n ns → (p : ℕ) × (p < places 𝓜) × T (counts p) × (¬ Memᴰ p ps) × (n ≡ node p (get_or word p 0))
    pub covers : (p : ℕ) → p < places 𝓜 → T (counts p) → ¬ Memᴰ p ps → Memᴰ (node p (get_or word p 0)) ns

  pub decided-step : {word : List ℕ} {p : ℕ} {ps : List ℕ} {ns : List Node} (s : ℕ) → length word ≡ places 𝓜 → p < places 𝓜 → T (counts p) → ¬ Memᴰ p ps
      → Decided word (p ∷ ps) ns → Decided (set word p s) ps (node p s ∷ ns)
  decided-step {word} {p} {ps} {ns} s size h count fresh D = record { inside = inside; covers = λ q b c e. covers q b c e (ℕ_discrete q p) }
    where
      here : get_or (set word p s) p 0 ≡ s
      here = get_or-set_same word p s 0 (omega arith)

      there : (q : ℕ) → q ≢ p → get_or (set word p s) q 0 ≡ get_or word q 0
      there q n = get_or-set_other word p q s 0 n

      inside : (n : Node) → Memᴰ n (node p s ∷ ns) → (q : ℕ) × (q < places 𝓜) × T (counts q) × (¬ Memᴰ q ps) × (n ≡ node q (get_or (set word p s) q 0))
      inside n m =
          ⊎_elim (λ (e : n ≡ node p s). (p, h, count, fresh, e ∙ ap (node p) (sym here)))
          (λ a.
          let r = D.inside n a in
          (r.0, r.1, r.2, (λ i. r.3 (Memᴰ.tail i)), r.4 ∙ ap (node r.0) (sym (there r.0 (λ e. r.3 (Memᴰ.head e))))))
          (Memᴰ.cases_cons m)

      covers : (q : ℕ) → q < places 𝓜 → T (counts q) → ¬ Memᴰ q ps → Dec (q ≡ p) → Memᴰ (node q (get_or (set word p s) q 0)) (node p s ∷ ns)
      covers q b c e (yes i) = Memᴰ.head (ap (λ j. node j (get_or (set word p s) j 0)) i ∙ ap (node p) here)
      covers q b c e (no i) =
          Memᴰ.tail
          (subst (λ z. Memᴰ (node q z) ns) (sym (there q i)) (D.covers q b c (λ m. ⊎_elim i e (Memᴰ.cases_cons m))))

  -- the nodes of a word
  node-member : (word : List ℕ) (p : ℕ) → p < places 𝓜 → T (counts p) → Memᴰ (node p (get_or word p 0)) (nodes_of 𝓜 counts word)
  unfolding nodes_of node_of place_at
  node-member word p h c =
      let r = at-member 0 (kept-member (places 𝓜) counts p h c) in
      let l : r.0 < count (places 𝓜) counts = omega (arith, r.1, kept-length (places 𝓜) counts) in
      let f : ℕ → Node = λ i. node_of word (place_at 𝓜 counts (places 𝓜) i) in
      subst (λ n. Memᴰ n (listed (count (places 𝓜) counts) f))
      (listed_at (count (places 𝓜) counts) r.0 f (node 0 0) l ∙ ap (λ q. node q (get_or word q 0)) r.2)
      (member-at (listed (count (places 𝓜) counts) f) (node 0 0) r.0 (omega (arith, listed-length (count (places 𝓜) counts) f)))

  member-node : (word : List ℕ) (n : Node) → Memᴰ n (nodes_of 𝓜 counts word)
      → (p : ℕ) × (p < places 𝓜) × T (counts p) × (n ≡ node p (get_or word p 0))
  unfolding nodes_of node_of
  member-node word n m =
      let r = at-member (node 0 0) m in
      let f : ℕ → Node = λ i. node_of word (place_at 𝓜 counts (places 𝓜) i) in
      let b : r.0 < count (places 𝓜) counts = omega (arith, r.1, listed-length (count (places 𝓜) counts) f) in (
        place_at 𝓜 counts (places 𝓜) r.0,
        place_at-below 𝓜 counts r.0 (places 𝓜) b,
        place_at-counts 𝓜 counts r.0 (places 𝓜) b,
        sym r.2 ∙ listed_at (count (places 𝓜) counts) r.0 f (node 0 0) b,
      )

  pub decided-through : (M : ℕ) {word : List ℕ} {ns : List Node} → Decided word [] ns
      → (◌⊆◌ (K gf) (ThroughNodes 𝓜 M ns) (ThroughNodes 𝓜 M (nodes_of 𝓜 counts word))) × (◌⊆◌ (K gf) (ThroughNodes 𝓜 M (nodes_of 𝓜 counts word)) (ThroughNodes 𝓜 M ns))
  decided-through M {word} {ns} D = (
    common-fewer (K gf)
        (λ n m. let r = member-node word n m in subst (λ u. Memᴰ u ns) (sym r.3) (D.covers r.0 r.1 r.2 Memᴰ.not-nil)),
    common-fewer (K gf)
        (λ n m. let r = D.inside n m in subst (λ u. Memᴰ u (nodes_of 𝓜 counts word)) (sym r.4) (node-member word r.0 r.1 r.2)),
  )

  module _ (reach : ℕ) {k : ℕ} (rate : Workable 𝓜 k) (columns : ℕ → List ℕ) {word ps : List ℕ} {ns : List Node} (D : Decided word ps ns) {classes : ℕ} (twice : classes ≡ 2 * w) {G : ℕ → ℕ → GF gf}
      {l : ℕ → ℕ} (B : Basis (K gf) classes (limit_of 𝓜 reach k) (ThroughNodes 𝓜 (m_of 𝓜 k) ns) G l) (spent : (r : ℕ) → r < classes → r % 2 ≡ 1 → limit_of 𝓜 reach k < l r) where
    -- the test words of the tree have the nodes decided so far
    pub tree-spent : (tests_near 𝓜 counts reach k (expand columns word ps) ≡ 0) × (answer_of 𝓜 counts reach k columns (expand columns word ps) ≡ none)
    tree-spent =
        none-near 𝓜 counts reach k columns (expand columns word ps)
        (λ t m n f.
        near-spent 𝓜 counts reach t rate twice ns
        (λ u h.
        let r = D.inside u h in
        subst (λ v. Memᴰ v (nodes_of 𝓜 counts t)) (sym (r.4 ∙ ap (node r.0) (sym (expand-settled columns word ps t m r.0 r.3))))
        (node-member t r.0 r.1 r.2))
        B spent n f.passed)

-- ---- a node of the tree at the places that are decided

module _ (𝓜 : Member) (counts : ℕ → Bool) where
  pub decided-without : {word ps : List ℕ} {ns : List Node} → Decided 𝓜 counts word ps ns → Decided 𝓜 (without counts ps) word [] ns
  decided-without {word} {ps} D =
      record {
        inside = λ n m. let r = D.inside n m in (r.0, r.1, without-passes counts ps r.0 r.2 r.3, Memᴰ.not-nil, r.4);
        covers = λ p h c out. let r = passes-without counts ps p c in D.covers p h r.0 r.1;
      }

  module _ (reach k : ℕ) (columns : ℕ → List ℕ) (word ps t : List ℕ) (i : Memᴰ t (expand columns word ps)) (m : List ℕ) where
    -- at the places that are decided the test word has the symbols of the word
    same : differing_in (without counts ps) (places 𝓜) (encode_of 𝓜 k m) word ≡ differing_in (without counts ps) (places 𝓜) (encode_of 𝓜 k m) t
    same =
        differing-comm (without counts ps) (places 𝓜) (encode_of 𝓜 k m) word
        ∙ differing-open (without counts ps) (places 𝓜) word t (encode_of 𝓜 k m) (sym (expand-length columns word ps t i))
        (λ p l c. sym (expand-settled columns word ps t i p (passes-without counts ps p (true-T (without counts ps p) c)).1))
        ∙ differing-comm (without counts ps) (places 𝓜) t (encode_of 𝓜 k m)

    pub near-without : T (near_to 𝓜 counts reach k t m) → T (near_to 𝓜 (without counts ps) reach k word m)
    unfolding near_to
    near-without h =
        le→leb (differing_in (without counts ps) (places 𝓜) (encode_of 𝓜 k m) word) reach
        (omega (
          arith,
          same,
          differing-mono counts (without counts ps) (places 𝓜) (encode_of 𝓜 k m) t (λ p l c. (passes-without counts ps p c).0),
          leb→le (differing_in counts (places 𝓜) (encode_of 𝓜 k m) t) reach h,
        ))
