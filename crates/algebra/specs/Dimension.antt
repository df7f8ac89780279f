-- Of more elements of different leads than there are functionals, a combination vanishes.
--
--   Rising K L W n e m    e 0 … e n are in W, with leads m 0 < m 1 < … < m n, all at most L
--   kernel-rising         one functional costs one of them: n + 2 such elements of W give n + 1 of its kernel
--   common-rising         so n + 1 more than there are functionals give n + 1 of the common kernel
--   vanishing-exists      one more than there are functionals: an element of the common kernel has a lead of at most L
use Rattle.std.specs.Prelude.{◌≡◌, List, [], ◌∷◌, ◌≢◌, ℕ, suc, ◌+◌, ◌<◌, ◌≤◌, length}
use Rattle.std.proofs.Common.{subst, ⊎_elim, arith}
use mathlib.Core.List.Memᴰ
use Rattle.std.proofs.Math.Logic.Dec
use Rattle.std.proofs.Math.Decide.{dec_le}
use Rattle.lists.specs.Smallest.{Smallest, search-below}
use Rattle.algebra.specs.Field.{Field}
use Rattle.algebra.specs.Coefficients.{Lead}
use Rattle.algebra.specs.Elimination.{skip, skip-cases, skip-rising}
use Rattle.algebra.specs.Subspace.{Space, Functional, Kernel, Common, values, cleared, cleared-kernel, cleared-lead, common-space, on-common, common-start, common-more, ◌⊆◌}

module _ {F : Type 0} (K : Field F) (L : ℕ) where
  open K use {𝟘}

  pub record Rising (W : (ℕ → F) → Type 0) (n : ℕ) (e : ℕ → ℕ → F) (m : ℕ → ℕ) : Type 0 where
    pub member : (i : ℕ) → i ≤ n → W (e i)
    pub leads : (i : ℕ) → i ≤ n → Lead K (e i) (m i)
    pub within : (i : ℕ) → i ≤ n → m i ≤ L
    pub rising : (i j : ℕ) → i < j → j ≤ n → m i < m j

  module _ {s : ℕ} {W : (ℕ → F) → Type 0} (S : Space K s W) (D : Functional K s W) {n : ℕ} {e : ℕ → ℕ → F} {m : ℕ → ℕ} (R : Rising W (suc n) e m) where
    value : (i : ℕ) → (v : F) × (i ≤ suc n → D.Val (e i) v)
    value i = go (dec_le i (suc n))
      where
        go : Dec (i ≤ suc n) → (v : F) × (i ≤ suc n → D.Val (e i) v)
        go (yes h) = let t = D.total (R.member i h) in (t.0, λ h. t.1)
        go (no h) = (𝟘, λ l. absurd (h l))

    -- where all values are zero, all but the last
    dropped : ((i : ℕ) → i < suc (suc n) → ¬ ((value i).0 ≢ 𝟘)) → Rising (Kernel K W D.Val) n e m
    dropped none =
        record {
          member = λ i l.
              record {
                member = R.member i (omega arith);
                vanishes = subst (D.Val (e i)) (zero-at i (omega arith) (K.same (value i).0 𝟘)) ((value i).1 (omega arith));
              };
          leads = λ i l. R.leads i (omega arith);
          within = λ i l. R.within i (omega arith);
          rising = λ i j h l. R.rising i j h (omega arith);
        }
      where
        zero-at : (i : ℕ) → i < suc (suc n) → Dec ((value i).0 ≡ 𝟘) → (value i).0 ≡ 𝟘
        zero-at i l (yes z) = z
        zero-at i l (no z) = absurd (none i l z)

    -- otherwise the first whose value is not zero clears the others
    module _ (p : ℕ) (P : Smallest (suc (suc n)) (λ i. (value i).0 ≢ 𝟘) (λ i. i) p) where
      others : Rising (Kernel K W D.Val) n (λ i. cleared K (value (skip p i)).0 (value p).0 (e (skip p i)) (e p)) (λ i. m (skip p i))
      others =
          record {
            member = λ i l.
                cleared-kernel K S D (R.member (skip p i) (high i l)) (R.member p p-in) ((value (skip p i)).1 (high i l)) ((value p).1 p-in)
                P.passes;
            leads = λ i l. cleared-lead K (R.leads (skip p i) (high i l)) (R.leads p p-in) (λ z. later i l z);
            within = λ i l. R.within (skip p i) (high i l);
            rising = λ i j h l. R.rising (skip p i) (skip p j) (skip-rising p i j h) (high j l);
          }
        where
          p-in : p ≤ suc n
          p-in = omega (arith, P.within)

          high : (i : ℕ) → i ≤ n → skip p i ≤ suc n
          high i l = ⊎_elim (λ a. omega (arith, a)) (λ a. omega (arith, a)) (skip-cases p i)

          later : (i : ℕ) → i ≤ n → (value (skip p i)).0 ≢ 𝟘 → m p < m (skip p i)
          later i l z =
              let le : p ≤ skip p i = P.least (skip p i) (omega (arith, high i l)) z in
              R.rising p (skip p i) (⊎_elim (λ a. absurd (omega (arith, a))) (λ a. omega (arith, a)) (skip-cases p i)) (high i l)

    pub kernel-rising : (e' : ℕ → ℕ → F) × (m' : ℕ → ℕ) × Rising (Kernel K W D.Val) n e' m'
    kernel-rising =
        ⊎_elim (λ none. (e, m, dropped none)) (λ t. (_, _, others t.0 t.1))
        (search-below (λ i. (value i).0 ≢ 𝟘) (λ i. Dec.not (K.same (value i).0 𝟘)) (λ i. i) (suc (suc n)))

  rising-same : {W W' : (ℕ → F) → Type 0} {n : ℕ} {e : ℕ → ℕ → F} {m : ℕ → ℕ} → ◌⊆◌ K W W' → Rising W n e m → Rising W' n e m
  rising-same {e = e} into R =
      record { member = λ i l. into (e i) (R.member i l); leads = R.leads; within = R.within; rising = R.rising }

  module _ {P : Type 0} {s : ℕ} {W : (ℕ → F) → Type 0} (S : Space K s W) (D : P → Functional K s W) where
    pub common-rising : (ps : List P) (n : ℕ) {e : ℕ → ℕ → F} {m : ℕ → ℕ} → Rising W (length ps + n) e m
        → (e' : ℕ → ℕ → F) × (m' : ℕ → ℕ) × Rising (Common K W (values K D) ps) n e' m'
    common-rising [] n {e} {m} R = (e, m, rising-same (common-start K) (subst (λ k. Rising W k e m) (omega arith) R))
    common-rising (p ∷ ps) n {e} {m} R =
        let t = common-rising ps (suc n) (subst (λ k. Rising W k e m) (omega arith) R) in
        let u = kernel-rising (common-space K D S ps) (on-common K D p ps) t.2 in
        (u.0, u.1, rising-same (common-more K (λ q x. Memᴰ.cases_cons x)) u.2)

    pub vanishing-exists : (ps : List P) {e : ℕ → ℕ → F} {m : ℕ → ℕ} → Rising W (length ps) e m
        → (c : ℕ → F) × (l : ℕ) × Common K W (values K D) ps c × Lead K c l × (l ≤ L)
    vanishing-exists ps {e} {m} R =
        let t = common-rising ps 0 (subst (λ k. Rising W k e m) (omega arith) R) in
        (t.0 0, t.1 0, t.2.member 0 (omega arith), t.2.leads 0 (omega arith), t.2.within 0 (omega arith))
