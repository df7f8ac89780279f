-- The zero bound: a function of lead m vanishes at no more than m points.
--
--   zero-bound        a function with lead m that vanishes at n distinct points of the curve has n ≤ m
--   vanishing         so a function of order at most M that vanishes at more than M of them is zero,
--   evaluation-injective   two functions of order at most M with the same values at more than M of them are one,
--   agreeing-injective     the same with the places of agreement counted,
--   agreements        and two different ones agree in at most M places,
--   distance          that is, differ in at least n − M of n
use Rattle.std.specs.Prelude.{◌≡◌, ◌≢◌, ℕ, suc, ◌+◌, ◌-◌, ◌*◌, ◌<◌, ◌≤◌}
use Rattle.std.proofs.Math.Path.{sym, ap, ap₂, fun_ext}
use Rattle.std.proofs.Common.{◌∙◌, add-suc, add-sub_of_le, arith}
use Rattle.std.proofs.Math.Logic.{⊎_elim}
use Rattle.std.proofs.Math.Nat.{add-sub_cancel_left}
use Rattle.std.proofs.Math.Decide.{dec_lt}
use Rattle.lists.specs.Chosen.{lt-or-le}
use Rattle.algebra.specs.Field.{Field, add-zero, zero-add, zero-mul, mul-zero, mul-one, mul-ne-zero, add-cancel, add-self}
use Rattle.algebra.specs.Sum.{sum, sum-ext, sum-zero, sum-append, sum-single}
use Rattle.algebra.specs.Coefficients.{choose, choose_yes, choose_no, plus, unit, unit-at, unit-off, Below, Lead, below-plus, zero-or-lead}
use Rattle.algebra.specs.Elimination.{Dependence, dependent}
use Rattle.algebra.specs.Distance.{agreeing, differing, agree-or-differ, Agreement, agreement}
use Rattle.algebra.specs.Weighted.{weighted-total, weighted-unique, weighted-by, weighted-is, weighted-plus, weighted-zero, weighted-sum}
use Rattle.hermitian.specs.Present.{Present, dec_present}
use Rattle.hermitian.specs.Ring.{Fn, fn-plus, times_monomial, fn-times_monomial}
use Rattle.hermitian.specs.Value.{Val, monomial}
use Rattle.hermitian.specs.Product.{product, below-product, val-product, product-ne-zero}
use Rattle.hermitian.specs.Points.{Points, points-some, Separators, separators}

module _ {F : Type 0} (K : Field F) (w : ℕ) where
  open K use {◌⊕◌, ◌⊗◌, 𝟘, 𝟙}

  -- a function with lead m that vanishes at m + 1 distinct points: there is none
  module _ (two : 2 ≤ w) {c : ℕ → F} {m : ℕ} (f : Fn K w c) (lead : Lead K c m) {x y : ℕ → F} (p : Points K w (suc m) x y)
      (vanishes : (i : ℕ) → i < suc m → Val K w (x i) (y i) c 𝟘) where
    S : Separators K w (suc m) x y
    S = separators K w two p

    -- every separator ends here
    N : ℕ
    N = suc (suc m * suc w)

    -- for an order below N: c times its monomial, or where it is absent the order itself
    row : (o : ℕ) → Dec (Present w o) → ℕ → F
    row o (yes h) = times_monomial K w o c
    row o (no h) = unit K o

    vector : ℕ → ℕ → F
    vector i s = choose (dec_lt i N) (row i (dec_present w i) s) (S.function (i - N) s)

    D : Dependence K (N + m) vector
    D = dependent K (N + m) vector

    u : ℕ → F
    u = D.x

    -- the part of the separators
    rest : ℕ → F
    rest s = sum K (suc m) (λ i. u (N + i) ⊗ S.function i s)

    parts : (s : ℕ) → s < N + m → sum K N (λ o. u o ⊗ row o (dec_present w o) s) ⊕ rest s ≡ 𝟘
    unfolding vector rest u
    parts s l =
        ap₂ (λ a b. a ⊕ b)
        (sum-ext K N _ _ (λ o h. ap (λ z. u o ⊗ z) (sym (choose_yes (dec_lt o N) (row o (dec_present w o) s) (S.function (o - N) s) h))))
        (sum-ext K (suc m) _ _
        (λ i h. ap (λ z. u (N + i) ⊗ z)
        (ap (λ k. S.function k s) (sym (add-sub_cancel_left N i))
        ∙ sym (choose_no (dec_lt (N + i) N) (row (N + i) (dec_present w (N + i)) s) (S.function (N + i - N) s) (omega arith)))))
        ∙ sym (sum-append K N (suc m) (λ i. D.x i ⊗ vector i s))
        ∙ ap (λ k. sum K k (λ i. D.x i ⊗ vector i s)) (add-suc N m)
        ∙ D.solves s l

    rest-zero : (s : ℕ) → ((i : ℕ) → i < suc m → S.function i s ≡ 𝟘) → rest s ≡ 𝟘
    unfolding rest
    rest-zero s h = sum-zero K (suc m) _ (λ i l. ap (λ z. u (N + i) ⊗ z) (h i l) ∙ mul-zero K _)

    row-off : (o k : ℕ) → ¬ Present w o → k ≢ o → (d : Dec (Present w k)) → row k d o ≡ 𝟘
    unfolding row
    row-off o k h n (yes q) = (fn-times_monomial K w two k f).absent o h
    row-off o k h n (no q) = unit-off K k o (λ e. n (sym e))

    row_on : (o : ℕ) → ¬ Present w o → (d : Dec (Present w o)) → row o d o ≡ 𝟙
    unfolding row
    row_on o h (yes q) = absurd (h q)
    row_on o h (no q) = unit-at K o

    -- at an absent order nothing else is met
    absent-zero : (o : ℕ) → o < N → ¬ Present w o → u o ≡ 𝟘
    absent-zero o l h =
        sym (mul-one K (u o)) ∙ ap (λ z. u o ⊗ z) (sym (row_on o h (dec_present w o)))
        ∙ sym (sum-single K N o (λ k. u k ⊗ row k (dec_present w k) o) l
        (λ k b n. ap (λ z. u k ⊗ z) (row-off o k h n (dec_present w k)) ∙ mul-zero K (u k)))
        ∙ sym (add-zero K _)
        ∙ ap (λ z. sum K N (λ k. u k ⊗ row k (dec_present w k) o) ⊕ z) (sym (rest-zero o (λ i b. (S.fn i b).absent o h)))
        ∙ parts o (omega arith)

    kept : ℕ → F
    kept o = choose (dec_lt o N) (u o) 𝟘

    kept_low : (o : ℕ) → o < N → kept o ≡ u o
    unfolding kept
    kept_low o l = choose_yes (dec_lt o N) (u o) 𝟘 l

    kept-ends : Below K kept N
    unfolding kept
    kept-ends = record { zero_from = λ o l. choose_no (dec_lt o N) (u o) 𝟘 (omega arith) }

    kept-fn : Fn K w kept
    kept-fn =
        record {
          bound = N;
          ends = kept-ends;
          absent = λ o h. ⊎_elim (λ l. kept_low o l ∙ absent-zero o l h) (λ l. kept-ends.zero_from o l) (lt-or-le o N);
        }

    row_kept : (o s : ℕ) → o < N → (d : Dec (Present w o)) → u o ⊗ row o d s ≡ kept o ⊗ times_monomial K w o c s
    unfolding row
    row_kept o s l (yes h) = ap (λ z. z ⊗ times_monomial K w o c s) (sym (kept_low o l))
    row_kept o s l (no h) =
        ap (λ z. z ⊗ unit K o s) (absent-zero o l h) ∙ zero-mul K _
        ∙ sym (ap (λ z. z ⊗ times_monomial K w o c s) (kept_low o l ∙ absent-zero o l h) ∙ zero-mul K _)

    separator-ends : (i : ℕ) → i < suc m → Below K (S.function i) N
    unfolding N
    separator-ends i l = S.ends i l

    whole : plus K (product K w N kept c) rest ≡ (λ s. 𝟘)
    unfolding product
    whole = fun_ext (λ s. ⊎_elim (low s) (high s) (lt-or-le s (N + m)))
      where
        low : (s : ℕ) → s < N + m → product K w N kept c s ⊕ rest s ≡ 𝟘
        low s l = ap (λ z. z ⊕ rest s) (sum-ext K N _ _ (λ o h. sym (row_kept o s h (dec_present w o)))) ∙ parts s l

        high : (s : ℕ) → N + m ≤ s → product K w N kept c s ⊕ rest s ≡ 𝟘
        high s l =
            ap₂ (λ a b. a ⊕ b) ((below-product K w N kept-fn lead.above).zero_from s l)
            (rest-zero s (λ i b. (separator-ends i b).zero_from s (omega arith)))
            ∙ add-zero K 𝟘

    rest-val : (j : ℕ) → j < suc m → Val K w (x j) (y j) rest (u (N + j) ⊗ S.value j j)
    unfolding rest
    rest-val j h =
        weighted-is K
        (sum-single K (suc m) j (λ i. u (N + i) ⊗ S.value i j) h
        (λ i l n. ap (λ z. u (N + i) ⊗ z) (S.off i j l h (λ e. n (sym e))) ∙ mul-zero K _))
        (weighted-sum K (suc m) (λ i. u (N + i)) S.function (λ i. S.value i j) (λ i l. S.val i j l h))

    -- at point j everything but separator j vanishes
    separator-gone : (j : ℕ) → j < suc m → u (N + j) ≡ 𝟘
    separator-gone j h = go (K.same (u (N + j)) 𝟘)
      where
        e : ℕ → F
        e = monomial K w (x j) (y j)

        v : F
        v = sum K N (λ o. kept o ⊗ e o)

        total : v ⊗ 𝟘 ⊕ u (N + j) ⊗ S.value j j ≡ 𝟘
        total =
            weighted-unique K
            (weighted-plus K
            (val-product K w two (x j) (y j) (p.on j h) N kept-ends (weighted-total K e N kept-ends) f (vanishes j h))
            (rest-val j h))
            (weighted-by K whole (weighted-zero K e))

        go : Dec (u (N + j) ≡ 𝟘) → u (N + j) ≡ 𝟘
        go (yes q) = q
        go (no q) =
            absurd
            (mul-ne-zero K (u (N + j)) (S.value j j) q (S.ne j h)
            (sym (zero-add K _) ∙ ap (λ z. z ⊕ u (N + j) ⊗ S.value j j) (sym (mul-zero K v)) ∙ total))

    product-zero : (s : ℕ) → product K w N kept c s ≡ 𝟘
    unfolding rest
    product-zero s =
        sym (add-zero K _)
        ∙ ap (λ z. product K w N kept c s ⊕ z)
        (sym (sum-zero K (suc m) (λ i. u (N + i) ⊗ S.function i s) (λ i l. ap (λ z. z ⊗ S.function i s) (separator-gone i l) ∙ zero-mul K _)))
        ∙ ap (λ d. d s) whole

    too_many : ⊥
    unfolding u
    too_many =
        ⊎_elim
        (λ (z : (o : ℕ) → kept o ≡ 𝟘). D.ne
        (⊎_elim (λ (l : D.at < N). sym (kept_low D.at l) ∙ z D.at)
        (λ (l : N ≤ D.at). ap u (sym (add-sub_of_le l)) ∙ separator-gone (D.at - N) (omega (arith, D.at_le)))
        (lt-or-le D.at N)))
        (λ z. lead.ne (z m))
        (product-ne-zero K w N kept-fn kept-ends f product-zero)

  pub zero-bound : 2 ≤ w → {c : ℕ → F} {m n : ℕ} {x y : ℕ → F} → Points K w n x y → Fn K w c → Lead K c m
      → ((i : ℕ) → i < n → Val K w (x i) (y i) c 𝟘) → n ≤ m
  zero-bound two {c} {m} {n} {x} {y} p f l v =
      ⊎_elim
      (λ (h : m < n). absurd
      (too_many two f l (points-some K w (suc m) (λ i. i) (λ i b. omega arith) (λ i j b e. b) p) (λ i b. v i (omega arith))))
      (λ (h : n ≤ m). omega arith) (lt-or-le m n)

  -- a function of order at most M that vanishes at more than M points is zero
  pub vanishing : 2 ≤ w → {c : ℕ → F} {M n : ℕ} {x y : ℕ → F} → M < n → Points K w n x y → Fn K w c → Below K c (suc M)
      → ((i : ℕ) → i < n → Val K w (x i) (y i) c 𝟘) → (o : ℕ) → c o ≡ 𝟘
  vanishing two {c} {M} {n} h p f b v =
      ⊎_elim (λ z. z) (λ t. absurd (omega (arith, t.1, zero-bound two p f t.2 v))) (zero-or-lead K (suc M) b)

  -- what two functions of order at most M have in common
  pub evaluation-injective : 2 ≤ w → {c d : ℕ → F} {M n : ℕ} {x y v : ℕ → F} → M < n → Points K w n x y
      → Fn K w c → Below K c (suc M) → Fn K w d → Below K d (suc M)
      → ((i : ℕ) → i < n → Val K w (x i) (y i) c (v i)) → ((i : ℕ) → i < n → Val K w (x i) (y i) d (v i)) → c ≡ d
  evaluation-injective two {c} {d} {M} {n} {x} {y} {v} h p f b g e vc vd =
      fun_ext
      (λ o. add-cancel K (c o) (d o)
      (vanishing two h p (fn-plus K w f g) (below-plus K b e) (λ i l. weighted-is K (add-self K (v i)) (weighted-plus K (vc i l) (vd i l))) o))

  -- the same, counted among n points where the values are u and v
  pub agreeing-injective : 2 ≤ w → {c d : ℕ → F} {M n : ℕ} {x y u v : ℕ → F} → Points K w n x y
      → Fn K w c → Below K c (suc M) → Fn K w d → Below K d (suc M)
      → ((i : ℕ) → i < n → Val K w (x i) (y i) c (u i)) → ((i : ℕ) → i < n → Val K w (x i) (y i) d (v i))
      → M < agreeing K n u v → c ≡ d
  agreeing-injective two {c} {d} {M} {n} {x} {y} {u} {v} p f b g e vc vd l =
      let A : Agreement K n u v = agreement K n u v in
      evaluation-injective two {v = λ i. u (A.at i)} l (points-some K w (agreeing K n u v) A.at A.below A.rising p) f b g e
      (λ i k. vc (A.at i) (A.below i k))
      (λ i k. weighted-is K (sym (A.equal i k)) (vd (A.at i) (A.below i k)))

  pub agreements : 2 ≤ w → {c d : ℕ → F} {M n : ℕ} {x y u v : ℕ → F} → Points K w n x y
      → Fn K w c → Below K c (suc M) → Fn K w d → Below K d (suc M)
      → ((i : ℕ) → i < n → Val K w (x i) (y i) c (u i)) → ((i : ℕ) → i < n → Val K w (x i) (y i) d (v i))
      → c ≢ d → agreeing K n u v ≤ M
  agreements two {M = M} {n} {u = u} {v} p f b g e vc vd h =
      ⊎_elim (λ l. absurd (h (agreeing-injective two p f b g e vc vd l))) (λ l. l) (lt-or-le M (agreeing K n u v))

  -- so any two differ in at least n − M places: the distance of the code
  pub distance : 2 ≤ w → {c d : ℕ → F} {M n : ℕ} {x y u v : ℕ → F} → Points K w n x y
      → Fn K w c → Below K c (suc M) → Fn K w d → Below K d (suc M)
      → ((i : ℕ) → i < n → Val K w (x i) (y i) c (u i)) → ((i : ℕ) → i < n → Val K w (x i) (y i) d (v i))
      → c ≢ d → n ≤ M + differing K n u v
  distance two {n = n} {u = u} {v = v} p f b g e vc vd h =
      omega (arith, agree-or-differ K n u v, agreements two p f b g e vc vd h)
