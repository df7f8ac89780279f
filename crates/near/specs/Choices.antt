-- How many test words below a node are within T of a word c, by numbers: at a place left that counts and has the symbol of c as its best or second, one
-- of the two differs from c; at any other place left both differ, or neither counts. For every member, any T and any places that count.
--
--   closer_of symbol column       of the best and the second symbol the given one, if it is one of them, and the best otherwise
--   closer-second, closer-best, closer-same   by cases
--   closest_test n columns c word ps   the test word closest to c: at each of the places ps, each taken below n, the closer symbol
--   count-choices                d places in which c and the closest test word differ, m of the l places ps at which they agree and that count:
--                                2 ^ (l − m) times the choices at m places that change at most T − d of them are within T, or none if d is above T
--   choices-left                 m is at most l
--   choices-far, choices-some, choices-every   what counting finds: where d is above T, where it is not, and where all test words are near
use Rattle.std.specs.Prelude.{Bool, true, false, not, cond, ◌&&◌, ◌≡◌, refl, ◌≢◌, ℕ, suc, ◌+◌, ◌-◌, ◌*◌, ◌^◌, ◌<◌, ◌≤◌, eqb, length, get_or, set}
use Rattle.std.proofs.Common.{sym, ap, ap₂, ◌∙◌, subst, pow-suc, add_comm, mul-add, mul_comm, mul-le-mul_right, arith, length-set, pow-add, get_or-set_same, eq-eqb, ne_eqb}
use mathlib.Core.List.{List, [], ◌∷◌, Memᴰ}
use Rattle.std.proofs.Math.Decide.{ℕ_discrete}
use Rattle.lists.specs.Count.{bit}
use Rattle.lists.specs.Choices.{choices_of, choices-few, choices-all, allowed_of, allowed-near, allowed-far, allowed-none, allowed-place}
use Rattle.soft.specs.Column.{best_of, second_of}
use Rattle.soft.specs.Total.{differing_in}
use Rattle.soft.specs.TotalLaws.{differing-set}
use Rattle.soft.specs.TestWord.{best_at, second_at, expand}
use Rattle.soft.specs.TestWordLaws.{expand-nil, expand-cons}
use Rattle.family.specs.Member.{Member, places}
use Rattle.near.specs.Tree.{Places, places_nil, places_cons}
use Rattle.near.specs.Written.{written_of, written-nil, written-cons, written-length, written-set, agreeing_in, agreeing-nil, agreeing-cons, agreeing-le, agreeing-set}
use Rattle.near.specs.Within.{tests_within, within-nil, within-cons, within-append, WithinOf}

unfoldable pub closer_of : ℕ → List ℕ → ℕ
closer_of symbol column = cond (eqb symbol (second_of column)) (second_of column) (best_of column)

pub closer-second : (symbol : ℕ) (column : List ℕ) → symbol ≡ second_of column → closer_of symbol column ≡ second_of column
unfolding closer_of
closer-second symbol column e = ap (λ b. cond b (second_of column) (best_of column)) (eq-eqb symbol (second_of column) e)

pub closer-best : (symbol : ℕ) (column : List ℕ) → symbol ≢ second_of column → closer_of symbol column ≡ best_of column
unfolding closer_of
closer-best symbol column e = ap (λ b. cond b (second_of column) (best_of column)) (ne_eqb symbol (second_of column) e)

pub closer-same : (symbol : ℕ) (column : List ℕ) → symbol ≡ best_of column → closer_of symbol column ≡ best_of column
closer-same symbol column e = go (ℕ_discrete symbol (second_of column))
  where
    go : Dec (symbol ≡ second_of column) → closer_of symbol column ≡ best_of column
    go (yes q) = closer-second symbol column q ∙ sym q ∙ e
    go (no q) = closer-best symbol column q

abbrev pub closer_at : (ℕ → List ℕ) → List ℕ → ℕ → ℕ
closer_at columns c p = closer_of (get_or c p 0) (columns p)

abbrev pub closest_test : ℕ → (ℕ → List ℕ) → List ℕ → List ℕ → List ℕ → List ℕ
closest_test n columns c word ps = written_of n (closer_at columns c) word ps

-- one place more, at which the two test words differ equally from c, or one of them once more
doubled : (reach : ℕ) (b : Bool) (l m d : ℕ) → m ≤ l
    → 2 ^ (l - m) * allowed_of reach m d + 2 ^ (l - m) * allowed_of reach m (d + bit b)
    ≡ 2 ^ (suc l - (bit b + m)) * allowed_of reach (bit b + m) d
doubled reach true l m d h =
    let a : suc l - (1 + m) ≡ l - m = omega arith in
    let e : 1 + m ≡ suc m = omega arith in
    let f : d + 1 ≡ suc d = omega arith in
    ap (λ k. 2 ^ (l - m) * allowed_of reach m d + 2 ^ (l - m) * allowed_of reach m k) f
    ∙ sym (mul-add (2 ^ (l - m)) (allowed_of reach m d) (allowed_of reach m (suc d)))
    ∙ ap (λ k. 2 ^ (l - m) * k) (sym (allowed-place reach m d))
    ∙ sym (ap₂ (λ i k. 2 ^ i * allowed_of reach k d) a e)
doubled reach false l m d h =
    let a : suc l - (0 + m) ≡ suc (l - m) = omega arith in
    let e : 0 + m ≡ m = omega arith in
    let f : d + 0 ≡ d = omega arith in
    omega (
      arith,
      ap (λ k. 2 ^ (l - m) * allowed_of reach m k) f,
      ap₂ (λ i k. 2 ^ i * allowed_of reach k d) a e,
      ap (λ x. x * allowed_of reach m d) (pow-suc 2 (l - m)),
    )

-- a place that counts differs, or agrees
parts : (a b : Bool) → bit (a && true) ≡ bit (a && b) + bit (a && not b)
parts true true = refl
parts true false = refl
parts false b = refl

module _ (𝓜 : Member) (counts : ℕ → Bool) (reach : ℕ) (columns : ℕ → List ℕ) (other : (p : ℕ) → second_at columns p ≢ best_at columns p) (c : List ℕ)
    (long : places 𝓜 ≤ length c) where
  abbrev n : ℕ
  n = places 𝓜

  abbrev within : List (List ℕ) → ℕ
  within tests = tests_within 𝓜 counts reach c tests

  abbrev closest : List ℕ → List ℕ → List ℕ
  closest word ps = closest_test n columns c word ps

  abbrev agreeing : List ℕ → List ℕ → ℕ
  agreeing u ps = agreeing_in n counts c u ps

  -- of 2 ^ l test words those within T, where u is the closest and agrees with c at m of the places
  abbrev tally : ℕ → ℕ → List ℕ → ℕ
  tally l m u = 2 ^ (l - m) * allowed_of reach m (differing_in counts n c u)

  -- the same of the test words below a node
  abbrev tally_below : List ℕ → List ℕ → ℕ
  tally_below word ps = tally (length ps) (agreeing (closest word ps) ps) (closest word ps)

  module _ (p : ℕ) (ps : List ℕ) (h : p < n) (fresh : ¬ Memᴰ p ps) (P : Places n ps) (word : List ℕ) (size : length word ≡ n) where
    -- the places after p
    abbrev u : List ℕ
    u = closest word ps

    abbrev m : ℕ
    m = agreeing u ps

    sized : p < length u
    sized = omega (arith, written-length n (closer_at columns c) word ps)

    -- the test words with one symbol at p
    branch : (x : ℕ) → tally_below (set word p x) ps ≡ tally (length ps) m (set u p x)
    branch x =
        ap (λ v. tally (length ps) (agreeing v ps) v) (written-set n (closer_at columns c) P p x fresh word)
        ∙ ap (λ k. tally (length ps) k (set u p x)) (agreeing-set n counts c u P p x fresh)

    -- those with the closer symbol, x, and with the other one, which is not that of c
    branches : (x y : ℕ) → closer_at columns c p ≡ x → get_or c p 0 ≢ y
        → tally_below (set word p x) ps + tally_below (set word p y) ps ≡ tally_below word (p ∷ ps)
    branches x y x-is y-not =
        let b = counts p && eqb (get_or c p 0) x in
        let apart : differing_in counts n c (set u p y) ≡ differing_in counts n c (set u p x) + bit b =
        omega (
          arith,
          differing-set counts n c u p x y h (omega arith) sized,
          ap (λ t. bit (counts p && not t)) (ne_eqb (get_or c p 0) y y-not),
          parts (counts p) (eqb (get_or c p 0) x),
        ) in
        let whole : closest word (p ∷ ps) ≡ set u p x =
        written-cons n (closer_at columns c) word ps h ∙ ap (λ s. closest (set word p s) ps) x-is
        ∙ written-set n (closer_at columns c) P p x fresh word in
        let agreed : agreeing (set u p x) (p ∷ ps) ≡ bit b + m =
        agreeing-cons n counts c (set u p x) ps h
        ∙ ap₂ (λ s k. bit (counts p && eqb (get_or c p 0) s) + k) (get_or-set_same u p x 0 sized) (agreeing-set n counts c u P p x fresh) in
        ap₂ (λ i j. i + j) (branch x) (branch y ∙ ap (λ d. 2 ^ (length ps - m) * allowed_of reach m d) apart)
        ∙ doubled reach b (length ps) m (differing_in counts n c (set u p x)) (agreeing-le n counts c u ps)
        ∙ sym
        (ap (λ v. tally (suc (length ps)) (agreeing v (p ∷ ps)) v) whole ∙ ap (λ k. tally (suc (length ps)) k (set u p x)) agreed)

    both : tally_below (set word p (best_at columns p)) ps + tally_below (set word p (second_at columns p)) ps ≡ tally_below word (p ∷ ps)
    both = go (ℕ_discrete (get_or c p 0) (second_at columns p))
      where
        go : Dec (get_or c p 0 ≡ second_at columns p)
            → tally_below (set word p (best_at columns p)) ps + tally_below (set word p (second_at columns p)) ps ≡ tally_below word (p ∷ ps)
        go (yes e) =
            add_comm (tally_below (set word p (best_at columns p)) ps) (tally_below (set word p (second_at columns p)) ps)
            ∙ branches (second_at columns p) (best_at columns p) (closer-second (get_or c p 0) (columns p) e) (λ q. other p (sym e ∙ q))
        go (no e) = branches (best_at columns p) (second_at columns p) (closer-best (get_or c p 0) (columns p) e) e

  pub count-choices : {ps : List ℕ} → Places n ps → (word : List ℕ) → length word ≡ n → within (expand columns word ps) ≡ tally_below word ps
  count-choices places_nil word size =
      ap within (expand-nil columns word) ∙ within-cons 𝓜 counts reach c word []
      ∙ omega (arith, within-nil 𝓜 counts reach c, allowed-none reach (differing_in counts n c word))
      ∙ sym
      (ap (λ v. tally 0 (agreeing v []) v) (written-nil n (closer_at columns c) word) ∙ ap (λ k. tally 0 k word) (agreeing-nil n counts c word))
  count-choices (places_cons {p} {ps} h fresh P) word size =
      ap within (expand-cons columns word p ps) ∙ within-append 𝓜 counts reach c _ _
      ∙ ap₂ (λ i j. i + j) (count-choices P (set word p (best_at columns p)) (length-set word p (best_at columns p) ∙ size))
      (count-choices P (set word p (second_at columns p)) (length-set word p (second_at columns p) ∙ size))
      ∙ both p ps h fresh P word size

  -- what counting finds, by the places in which the closest test word differs, and the places left at which it agrees
  module _ (word ps : List ℕ) (size : length word ≡ n) (left r d m : ℕ) (left_is : length ps ≡ left) (r-is : r ≡ reach)
      (d-is : d ≡ differing_in counts n c (closest word ps)) (m-is : m ≡ agreeing (closest word ps) ps) where
    counted : Places n ps → within (expand columns word ps) ≡ 2 ^ (left - m) * allowed_of r m d
    counted P = count-choices P word size ∙ rw (left_is, r-is, d-is, m-is)

    pub choices-left : m ≤ left
    choices-left = omega (arith, agreeing-le n counts c (closest word ps) ps)

    -- the choices at the m places, each with every choice at the others
    twos : 2 ^ m * 2 ^ (left - m) ≡ 2 ^ left
    twos = let e : m + (left - m) ≡ left = omega (arith, choices-left) in sym (pow-add 2 m (left - m)) ∙ ap (λ k. 2 ^ k) e

    pub choices-far : r < d → WithinOf 𝓜 counts reach columns c word ps left 0
    choices-far far =
        record {
          few = omega arith;
          count = λ P. sym (counted P ∙ ap (λ k. 2 ^ (left - m) * k) (allowed-far r m d far) ∙ omega arith);
        }

    pub choices-some : d ≤ r → WithinOf 𝓜 counts reach columns c word ps left (choices_of m (r - d) * 2 ^ (left - m))
    choices-some near =
        record {
          few = omega (arith, mul-le-mul_right (2 ^ (left - m)) (choices-few m (r - d)), twos);
          count = λ P. sym (counted P ∙ ap (λ k. 2 ^ (left - m) * k) (allowed-near r m d near) ∙ mul_comm (2 ^ (left - m)) (choices_of m (r - d)));
        }

    pub choices-every : d ≤ r → m ≤ r - d → WithinOf 𝓜 counts reach columns c word ps left (2 ^ left)
    choices-every near spare =
        subst (WithinOf 𝓜 counts reach columns c word ps left) (ap (λ k. k * 2 ^ (left - m)) (choices-all m (r - d) spare) ∙ twos) (choices-some near)
