-- Gaussian elimination: terms in rising order, rows in echelon form by place; the first term that the earlier ones make up gives the least element of a common kernel.
--
--   First p v c         p is the first of the places that count where the value of c is not zero, and v is that value
--   ZeroOrFirst P d     d is zero, or its first value stands at a place with P
--   PivotRow k p v c    a row of place p: of W, of terms below k, with its first value v at p
--   Echelon k own row   the rows by place, own p the row's value at its own place, and zero where there is no row: every element of W of terms
--                       below k is zero or has its first value at a place with a row
--   Monic k p c         the term k with a combination of smaller ones, zero at the places below p that count
--   Vanishing c         c is in W and vanishes at all places that count
--   echelon-start       no term, no row
--   echelon-absent      a term that W has not changes nothing
--   monic-start, monic-pass, monic-clear   the next term; past a place where it is zero or that does not count; past a place whose row clears it
--   echelon-insert      what is not zero at a place without a row becomes the row there
--   echelon-none        no element that vanishes leads below k
--   monic-least         so what vanishes at all places with the term k is least
use Rattle.std.specs.Prelude.{Bool, true, ◌≡◌, refl, ◌≢◌, ◌⊎◌, ℕ, suc, ◌<◌, ◌≤◌}
use Rattle.std.proofs.Common.{sym, ap, ◌∙◌, subst, subst₂, inl, inr, ⊎_elim, le_refl, arith}
use Rattle.std.proofs.Math.Path.{fun_ext}
use Rattle.std.proofs.Math.Decide.{dec_le, dec_lt, ℕ_discrete}
use Rattle.lists.specs.Smallest.{below_suc}
use Rattle.algebra.specs.Field.{Field, add-zero, zero-add, add-self, mul-zero, mul-one, mul-ne-zero, ring}
use Rattle.algebra.specs.Coefficients.{plus, scale, Below, Lead, below-mono, below-plus, below-scale, below-pred}
use Rattle.algebra.specs.Subspace.{Space, Functional, cleared, cleared-kernel, val-zero}
use Rattle.algebra.specs.Least.{Least}

module _ {F : Type 0} (K : Field F) {s : ℕ} {W : (ℕ → F) → Type 0} (D : ℕ → Functional K s W) (n : ℕ) (counts : ℕ → Bool) where
  open K use {◌⊕◌, ◌⊗◌, 𝟘, 𝟙, inv}

  pub record First (p : ℕ) (v : F) (c : ℕ → F) : Type 0 where
    pub within : p < n
    pub counted : counts p ≡ true
    pub has : (D p).Val c v
    pub ne : v ≢ 𝟘
    pub before : (q : ℕ) → q < p → counts q ≡ true → (D q).Val c 𝟘

  abbrev pub ZeroOrFirst : (ℕ → Type 0) → (ℕ → F) → Type 0
  ZeroOrFirst P d = ((j : ℕ) → d j ≡ 𝟘) ⊎ ((p : ℕ) × (v : F) × First p v d × P p)

  pub record PivotRow (k p : ℕ) (v : F) (c : ℕ → F) : Type 0 where
    pub member : W c
    pub ends : Below K c k
    pub first : First p v c

  pub record Echelon (k : ℕ) (own : ℕ → F) (row : ℕ → ℕ → F) : Type 0 where
    pub held : (p : ℕ) → p < n → own p ≢ 𝟘 → PivotRow k p (own p) (row p)
    pub covers : (d : ℕ → F) → W d → Below K d k → ZeroOrFirst (λ p. own p ≢ 𝟘) d

  pub record Monic (k p : ℕ) (c : ℕ → F) : Type 0 where
    pub member : W c
    pub ends : Below K c (suc k)
    pub monic : c k ≡ 𝟙
    pub before : (q : ℕ) → q < p → counts q ≡ true → (D q).Val c 𝟘

  pub record Vanishing (c : ℕ → F) : Type 0 where
    pub member : W c
    pub vanishes : (q : ℕ) → q < n → counts q ≡ true → (D q).Val c 𝟘

  -- ---- one term more, with no new row
  pub echelon-start : {own : ℕ → F} {row : ℕ → ℕ → F} → ((p : ℕ) → p < n → own p ≡ 𝟘) → Echelon 0 own row
  echelon-start z =
      record {
        held = λ p l ne. absurd (ne (z p l));
        covers = λ d h b. inl (λ j. b.zero_from j (omega arith));
      }

  -- a row of terms below k is one of terms below the next
  row_more : {k p : ℕ} {v : F} {c : ℕ → F} → PivotRow k p v c → PivotRow (suc k) p v c
  row_more r = record { member = r.member; ends = below-mono K (omega arith) r.ends; first = r.first }

  pub echelon-absent : {k : ℕ} {own : ℕ → F} {row : ℕ → ℕ → F} → ((d : ℕ → F) → W d → d k ≡ 𝟘) → Echelon k own row → Echelon (suc k) own row
  echelon-absent z E =
      record {
        held = λ p l ne. row_more (E.held p l ne);
        covers = λ d h b. E.covers d h (below-pred K b (z d h));
      }

  -- ---- the next term
  pub monic-start : {k : ℕ} {c : ℕ → F} → W c → Below K c (suc k) → c k ≡ 𝟙 → Monic k 0 c
  monic-start h b e = record { member = h; ends = b; monic = e; before = λ q l t. absurd (omega arith) }

  pub monic-pass : {k p : ℕ} {c : ℕ → F} → (counts p ≡ true → (D p).Val c 𝟘) → Monic k p c → Monic k (suc p) c
  monic-pass {k} {p} {c} z m =
      record {
        member = m.member;
        ends = m.ends;
        monic = m.monic;
        before = λ q l. below_suc (λ i. counts i ≡ true → (D i).Val c 𝟘) l z (m.before q);
      }

  -- a multiple of what is zero at a place changes no value there
  same-value : (q : ℕ) (a : F) {c d : ℕ → F} {u : F} → (D q).Val c u → (D q).Val d 𝟘 → (D q).Val (plus K c (scale K a d)) u
  same-value q a {c} {d} {u} x y =
      subst ((D q).Val (plus K c (scale K a d))) (ap (λ z. u ⊕ z) (mul-zero K a) ∙ add-zero K u) ((D q).val_plus x ((D q).val_scale a y))

  -- ---- what vanishes
  pub echelon-none : {k : ℕ} {own : ℕ → F} {row : ℕ → ℕ → F} → Echelon k own row → (d : ℕ → F) (m : ℕ) → Vanishing d → Lead K d m → k ≤ m
  echelon-none {k} E d m h leads = go (dec_le k m)
    where
      -- else its first value were zero
      none : m < k → ⊥
      none l =
          ⊎_elim (λ z. leads.ne (z m))
          (λ t. t.2.ne ((D t.0).unique t.2.has (h.vanishes t.0 t.2.within t.2.counted)))
          (E.covers d h.member (below-mono K l leads.above))

      go : Dec (k ≤ m) → k ≤ m
      go (yes l) = l
      go (no l) = absurd (none (omega arith))

  pub monic-least : {k : ℕ} {own : ℕ → F} {row : ℕ → ℕ → F} {c : ℕ → F} → Echelon k own row → Monic k n c → Least K Vanishing c k
  monic-least E m =
      record {
        member = record { member = m.member; vanishes = m.before };
        leads = record { ne = λ e. K.one_ne_zero (sym m.monic ∙ e); above = m.ends };
        monic = m.monic;
        least = echelon-none E;
      }

  module _ (S : Space K s W) where
    pub monic-clear : {k p : ℕ} {own : ℕ → F} {row : ℕ → ℕ → F} {c : ℕ → F} {v : F} → Echelon k own row → p < n → own p ≢ 𝟘 → (D p).Val c v → Monic k p c
        → Monic k (suc p) (cleared K v (own p) c (row p))
    monic-clear {k} {p} {own} {row} {c} {v} E l ne x m =
        let r = E.held p l ne in
        let a : F = v ⊗ inv (own p) in
        record {
          member = S.sums m.member (S.multiples a r.member);
          ends = below-plus K m.ends (below-scale K a (row_more r).ends);
          monic =
              ap (λ y. c k ⊕ a ⊗ y) (r.ends.zero_from k (le_refl k)) ∙ ap (λ y. c k ⊕ y) (mul-zero K a) ∙ add-zero K (c k) ∙ m.monic;
          before = λ q h.
              below_suc (λ i. counts i ≡ true → (D i).Val (cleared K v (own p) c (row p)) 𝟘) h
              (λ t. (cleared-kernel K S (D p) m.member r.member x r.first.has ne).vanishes)
              (λ b t. same-value q a (m.before q b t) (r.first.before q b t));
        }

    -- ---- a new row
    module _ {k p : ℕ} {own : ℕ → F} {row : ℕ → ℕ → F} {c : ℕ → F} {v : F} (E : Echelon k own row) (m : Monic k p c) (inside : p < n)
        (count : counts p ≡ true) (value : (D p).Val c v) (ne : v ≢ 𝟘) (free : own p ≡ 𝟘) where
      -- what is zero at the places up to p that count, with a multiple of c, has its first value at p
      first-here : {h : ℕ → F} (a : F) → a ≢ 𝟘 → ((i : ℕ) → i ≤ p → counts i ≡ true → (D i).Val h 𝟘) → First p (a ⊗ v) (plus K h (scale K a c))
      first-here {h} a z o =
          record {
            within = inside;
            counted = count;
            has = subst ((D p).Val (plus K h (scale K a c))) (zero-add K (a ⊗ v)) ((D p).val_plus (o p (le_refl p) count) ((D p).val_scale a value));
            ne = mul-ne-zero K a v z ne;
            before = λ i l t. same-value i a (o i (omega arith) t) (m.before i l t);
          }

      -- what has its first value earlier keeps it
      first-there : {h : ℕ → F} {q : ℕ} {u : F} (a : F) → q < p → First q u h → First q u (plus K h (scale K a c))
      first-there {h} {q} {u} a l f =
          record {
            within = f.within;
            counted = f.counted;
            has = same-value q a f.has (m.before q l f.counted);
            ne = f.ne;
            before = λ i b t. same-value i a (f.before i b t) (m.before i (omega arith) t);
          }

      -- the places with a row, and p
      abbrev Grown : ℕ → Type 0
      Grown q = (q ≡ p) ⊎ (own q ≢ 𝟘)

      -- an element with the term k: less the multiple of c that takes this term off, it is covered
      covered : (d : ℕ → F) → W d → Below K d (suc k) → ZeroOrFirst Grown d
      covered d h b = go (K.same (d k) 𝟘)
        where
          a : F
          a = d k

          rest : ℕ → F
          rest = plus K d (scale K a c)

          rest_in : W rest
          rest_in = S.sums h (S.multiples a m.member)

          rest-ends : Below K rest k
          rest-ends =
              below-pred K (below-plus K b (below-scale K a m.ends))
              (ap (λ x. a ⊕ a ⊗ x) m.monic ∙ ap (λ x. a ⊕ x) (mul-one K a) ∙ add-self K a)

          again : plus K rest (scale K a c) ≡ d
          again = fun_ext (λ j. simp (ring, K))

          beside : a ≢ 𝟘 → (q : ℕ) (u : F) → First q u rest → own q ≢ 𝟘 → Dec (q < p) → ZeroOrFirst Grown d
          beside z q u f o (yes l) = inr (q, u, subst (First q u) again (first-there a l f), inr o)
          beside z q u f o (no l) =
              let other : q ≢ p = λ e. o (ap own e ∙ free) in
              inr (p, a ⊗ v, subst (First p (a ⊗ v)) again (first-here a z (λ i le t. f.before i (omega arith) t)), inl refl)

          go : Dec (a ≡ 𝟘) → ZeroOrFirst Grown d
          go (yes z) = ⊎_elim (λ y. inl y) (λ t. inr (t.0, t.1, t.2, inr t.3)) (E.covers d h (below-pred K b z))
          go (no z) =
              ⊎_elim
              (λ y. inr (p, a ⊗ v, subst (First p (a ⊗ v)) again (first-here a z (λ i le t. val-zero K S (D i) rest_in y)), inl refl))
              (λ t. beside z t.0 t.1 t.2 t.3 (dec_lt t.0 p)) (E.covers rest rest_in rest-ends)

      new_row : PivotRow (suc k) p v c
      new_row =
          record {
            member = m.member;
            ends = m.ends;
            first = record { within = inside; counted = count; has = value; ne = ne; before = m.before };
          }

      pub echelon-insert : {own' : ℕ → F} {row' : ℕ → ℕ → F} → own' p ≡ v → row' p ≡ c → ((q : ℕ) → q < n → q ≢ p → own' q ≡ own q)
          → ((q : ℕ) → q < n → q ≢ p → own q ≢ 𝟘 → row' q ≡ row q) → Echelon (suc k) own' row'
      echelon-insert {own'} {row'} own-here row_here own-there row-there =
          record {
            held = λ q l z. held q l z (ℕ_discrete q p);
            covers = λ d h b.
                ⊎_elim (λ y. inl y) (λ t. inr (t.0, t.1, t.2, grown t.0 t.2.within t.3)) (covered d h b);
          }
        where
          held : (q : ℕ) → q < n → own' q ≢ 𝟘 → Dec (q ≡ p) → PivotRow (suc k) q (own' q) (row' q)
          held q l z (yes e) =
              subst (λ i. PivotRow (suc k) i (own' i) (row' i)) (sym e)
              (subst₂ (λ x g. PivotRow (suc k) p x g) (sym own-here) (sym row_here) new_row)
          held q l z (no e) =
              let z' : own q ≢ 𝟘 = λ y. z (own-there q l e ∙ y) in
              subst₂ (λ x g. PivotRow (suc k) q x g) (sym (own-there q l e)) (sym (row-there q l e z')) (row_more (E.held q l z'))

          grown : (q : ℕ) → q < n → Grown q → own' q ≢ 𝟘
          grown q l (inl e) y = ne (sym own-here ∙ ap own' (sym e) ∙ y)
          grown q l (inr o) y = o (sym (own-there q l (λ e. o (ap own e ∙ free))) ∙ y)
