-- Subspaces of coefficient functions that are closed under a shift, and functionals on them.
--
--   Space K s W         every element of W ends, and W is closed under sums, multiples and the shift by s
--   Functional K s W    a relation `Val c v`, 'the value of c is v': each element of W has one value; it is linear, and a shift multiplies it
--   Kernel K W R        the elements of W of value zero
--   Common K W R ps     the elements of W of value zero by each of the relations R p with p in the list ps
--   values D            the relations of the functionals D p
--   restrict, on-common a functional on W is one on every W' inside W, so on every common kernel
--   kernel-space, common-space    kernels are spaces again
--   common-start, common-more, common-less, common-fewer   no functional; one more, there and back; some of them
--   cleared             c with the multiple of d that takes its value off: cleared-kernel, cleared-lead say what that gives
--   val-zero            the value of zero is zero
--   lift-lead           an element with lead l gives one with lead l + q·s, for every q
--   reduce              a part of W that has every lead of W below a bound holds all of W below that bound
use Rattle.std.specs.Prelude.{◌≡◌, ◌≢◌, ◌⊎◌, ℕ, zero, suc, ◌+◌, ◌*◌, ◌<◌, ◌≤◌}
use Rattle.std.proofs.Common.{sym, ap, ◌∙◌, subst, ⊎_elim, suc-mul, arith}
use Rattle.std.proofs.Math.Path.{fun_ext}
use mathlib.Core.List.Memᴰ
use mathlib.Core.List.{List, [], Memᴰ}
use Rattle.algebra.specs.Field.{Field, add-zero, add-self, mul-zero, zero-mul, div-mul, ring}
use Rattle.algebra.specs.Coefficients.{plus, scale, shift, Below, Lead, below-mono, below-pred, below-scale, lead-shift, lead-plus, cancel}

module _ {F : Type 0} (K : Field F) where
  open K use {◌⊕◌, ◌⊗◌, 𝟘, inv}

  infix 50 ◌⊆◌
  pub record Space (s : ℕ) (W : (ℕ → F) → Type 0) : Type 0 where
    pub ends : {c : ℕ → F} → W c → (n : ℕ) × Below K c n
    pub sums : {c d : ℕ → F} → W c → W d → W (plus K c d)
    pub multiples : (a : F) {c : ℕ → F} → W c → W (scale K a c)
    pub shifts : {c : ℕ → F} → W c → W (shift K s c)

  -- a relation, so that an instance may hide what bounds the sum that is its value
  pub record Functional (s : ℕ) (W : (ℕ → F) → Type 0) : Type 1 where
    pub Val : (ℕ → F) → F → Type 0
    pub multiplier : F
    pub total : {c : ℕ → F} → W c → (v : F) × Val c v
    pub unique : {c : ℕ → F} {u v : F} → Val c u → Val c v → u ≡ v
    pub val_plus : {c d : ℕ → F} {u v : F} → Val c u → Val d v → Val (plus K c d) (u ⊕ v)
    pub val_scale : (a : F) {c : ℕ → F} {v : F} → Val c v → Val (scale K a c) (a ⊗ v)
    pub val_shift : {c : ℕ → F} {v : F} → Val c v → Val (shift K s c) (multiplier ⊗ v)

  pub record Kernel (W : (ℕ → F) → Type 0) (Val : (ℕ → F) → F → Type 0) (c : ℕ → F) : Type 0 where
    pub member : W c
    pub vanishes : Val c 𝟘

  -- the multiple of what has value v that has value u
  abbrev pub ratio : F → F → F
  ratio u v = u ⊗ inv v

  -- c, of value u, with the multiple of d, of value v, that has value u too
  abbrev pub cleared : F → F → (ℕ → F) → (ℕ → F) → ℕ → F
  cleared u v c d = plus K c (scale K (ratio u v) d)

  -- it keeps its lead, where it is zero already or d leads below it
  pub cleared-lead : {u v : F} {c d : ℕ → F} {l m : ℕ} → Lead K c l → Lead K d m → (u ≢ 𝟘 → m < l) → Lead K (cleared u v c d) l
  cleared-lead {u} {v} {c} {d} {l} {m} p q h = lead-plus K p (small (K.same u 𝟘))
    where
      small : Dec (u ≡ 𝟘) → Below K (scale K (ratio u v) d) l
      small (yes z) = record { zero_from = λ k b. rw z (simp (ring, K)) }
      small (no z) = below-mono K (h z) (below-scale K _ q.above)

  abbrev pub ◌⊆◌ : ((ℕ → F) → Type 0) → ((ℕ → F) → Type 0) → Type 0
  W' ⊆ W = (c : ℕ → F) → W' c → W c

  abbrev pub restrict : {s : ℕ} {W W' : (ℕ → F) → Type 0} → W' ⊆ W → Functional s W → Functional s W'
  restrict inside D =
      record {
        Val = D.Val;
        multiplier = D.multiplier;
        total = λ {c} h. D.total (inside c h);
        unique = D.unique;
        val_plus = D.val_plus;
        val_scale = D.val_scale;
        val_shift = D.val_shift;
      }

  module _ {s : ℕ} {W : (ℕ → F) → Type 0} (S : Space s W) (D : Functional s W) where
    pub kernel-space : Space s (Kernel W D.Val)
    kernel-space =
        record {
          ends = λ h. S.ends h.member;
          sums = λ {c} {d} h g.
              record {
                member = S.sums h.member g.member;
                vanishes = subst (D.Val (plus K c d)) (add-zero K 𝟘) (D.val_plus h.vanishes g.vanishes);
              };
          multiples = λ a {c} h.
              record {
                member = S.multiples a h.member;
                vanishes = subst (D.Val (scale K a c)) (mul-zero K a) (D.val_scale a h.vanishes);
              };
          shifts = λ {c} h.
              record {
                member = S.shifts h.member;
                vanishes = subst (D.Val (shift K s c)) (mul-zero K D.multiplier) (D.val_shift h.vanishes);
              };
        }

    pub cleared-kernel : {c d : ℕ → F} {u v : F} → W c → W d → D.Val c u → D.Val d v → v ≢ 𝟘 → Kernel W D.Val (cleared u v c d)
    cleared-kernel {c} {d} {u} {v} hc hd p q ne =
        record {
          member = S.sums hc (S.multiples _ hd);
          vanishes =
              subst (D.Val (cleared u v c d)) (ap (λ x. u ⊕ x) (div-mul K u v ne) ∙ add-self K u) (D.val_plus p (D.val_scale _ q));
        }

    pub val-zero : {c : ℕ → F} → W c → ((k : ℕ) → c k ≡ 𝟘) → D.Val c 𝟘
    val-zero {c} h z =
        let e : scale K 𝟘 c ≡ c = fun_ext (λ k. zero-mul K (c k) ∙ sym (z k)) in
        subst (λ d. D.Val d 𝟘) e
        (subst (D.Val (scale K 𝟘 c)) (zero-mul K (D.total h).0) (D.val_scale 𝟘 (D.total h).1))

  -- the elements on which every functional of a list is zero; R p is the relation of the functional that p names
  pub record Common {P : Type 0} (W : (ℕ → F) → Type 0) (R : P → (ℕ → F) → F → Type 0) (ps : List P) (c : ℕ → F) : Type 0 where
    pub member : W c
    pub vanishes : (p : P) → Memᴰ p ps → R p c 𝟘

  module _ {P : Type 0} {W : (ℕ → F) → Type 0} {R : P → (ℕ → F) → F → Type 0} where
    pub common-inside : (ps : List P) → Common W R ps ⊆ W
    common-inside ps c h = h.member

    pub common-start : W ⊆ Common W R []
    common-start c h = record { member = h; vanishes = λ p m. absurd (Memᴰ.not-nil m) }

    -- the kernel in ps of one more functional is the common kernel of every list qs of p and the members of ps, in any order
    pub common-more : {p : P} {ps qs : List P} → ((q : P) → Memᴰ q qs → (q ≡ p) ⊎ Memᴰ q ps)
        → Kernel (Common W R ps) (R p) ⊆ Common W R qs
    common-more split c h =
        record {
          member = h.member.member;
          vanishes = λ q m. ⊎_elim (λ e. subst (λ r. R r c 𝟘) (sym e) h.vanishes) (h.member.vanishes q) (split q m);
        }

    pub common-less : {p : P} {ps qs : List P} → Memᴰ p qs → ((q : P) → Memᴰ q ps → Memᴰ q qs)
        → Common W R qs ⊆ Kernel (Common W R ps) (R p)
    common-less {p} at rest c h =
        record {
          member = record { member = h.member; vanishes = λ q m. h.vanishes q (rest q m) };
          vanishes = h.vanishes p at;
        }

    -- fewer functionals, a larger kernel
    pub common-fewer : {ps qs : List P} → ((p : P) → Memᴰ p qs → Memᴰ p ps) → Common W R ps ⊆ Common W R qs
    common-fewer f c h = record { member = h.member; vanishes = λ p m. h.vanishes p (f p m) }

  module _ {P : Type 0} {s : ℕ} {W : (ℕ → F) → Type 0} (D : P → Functional s W) where
    -- the relations of the functionals
    abbrev pub values : P → (ℕ → F) → F → Type 0
    values p = (D p).Val

    -- the functional of p on the common kernel of ps
    abbrev pub on-common : (p : P) (ps : List P) → Functional s (Common W values ps)
    on-common p ps = restrict (common-inside ps) (D p)

    pub common-space : Space s W → (ps : List P) → Space s (Common W values ps)
    common-space S ps =
        record {
          ends = λ h. S.ends h.member;
          sums = λ h g. record { member = S.sums h.member g.member; vanishes = λ p m. ((at p).sums (in-kernel m h) (in-kernel m g)).vanishes };
          multiples = λ a h. record { member = S.multiples a h.member; vanishes = λ p m. ((at p).multiples a (in-kernel m h)).vanishes };
          shifts = λ h. record { member = S.shifts h.member; vanishes = λ p m. ((at p).shifts (in-kernel m h)).vanishes };
        }
      where
        at : (p : P) → Space s (Kernel W (D p).Val)
        at p = kernel-space S (D p)

        -- at one functional of the list
        in-kernel : {p : P} {c : ℕ → F} → Memᴰ p ps → Common W values ps c → Kernel W (D p).Val c
        in-kernel {p} m h = record { member = h.member; vanishes = h.vanishes p m }

  module _ {s : ℕ} {W : (ℕ → F) → Type 0} (S : Space s W) where
    pub lift-lead : {c : ℕ → F} {l : ℕ} → W c → Lead K c l → (q : ℕ) → (d : ℕ → F) × W d × Lead K d (l + q * s)
    lift-lead {c} {l} h p zero = (c, h, subst (Lead K c) (omega arith) p)
    lift-lead {c} {l} h p (suc q) = go (lift-lead h p q)
      where
        go : (d : ℕ → F) × W d × Lead K d (l + q * s) → (d : ℕ → F) × W d × Lead K d (l + suc q * s)
        go t = (shift K s t.0, S.shifts t.1, subst (Lead K (shift K s t.0)) (omega (arith, suc-mul q s)) (lead-shift K s t.2))

  -- W' inside W: where it has every lead of W below B, it holds every element of W below B
  module _ {s : ℕ} {W W' : (ℕ → F) → Type 0} (S : Space s W) (S' : Space s W') (inside : W' ⊆ W) where
    pub reduce : (B : ℕ) → ((c : ℕ → F) → W c → ((k : ℕ) → c k ≡ 𝟘) → W' c)
        → ((c : ℕ → F) (m : ℕ) → m < B → W c → Lead K c m → (d : ℕ → F) × W' d × Lead K d m)
        → (b : ℕ) → b ≤ B → (c : ℕ → F) → W c → Below K c b → W' c
    reduce B nil same-lead zero le c h below = nil c h (λ k. below.zero_from k (omega arith))
    reduce B nil same-lead (suc b) le c h below = go (K.same (c b) 𝟘) (λ d. reduce B nil same-lead b (omega arith) d)
      where
        go : Dec (c b ≡ 𝟘) → ((d : ℕ → F) → W d → Below K d b → W' d) → W' c
        go (yes e) ih = ih c h (below-pred K below e)
        go (no e) ih = cleared (same-lead c b le h (record { ne = e; above = below }))
          where
            cleared : (d : ℕ → F) × W' d × Lead K d b → W' c
            cleared t =
                let d : ℕ → F = t.0 in
                let e : ℕ → F = scale K (c b ⊗ inv (d b)) d in
                let e-in : W' e = S'.multiples (c b ⊗ inv (d b)) t.1 in
                let rest_in : W' (plus K c e) = ih (plus K c e) (S.sums h (inside e e-in)) (cancel K below t.2) in
                let twice : plus K (plus K c e) e ≡ c = fun_ext (λ k. simp (ring, K)) in
                subst W' twice (S'.sums rest_in e-in)
