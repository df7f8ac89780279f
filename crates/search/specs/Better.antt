-- The better of two answers, for every modem of the family.
--
--   is_better k t m u n    whether the total t with the message m is better than u with n: it is cheaper, or as dear and its message the smaller one
--   better_for k x y a b   of two findings with the answers x and y the one with the better answer, whose rival the other is; if neither is better,
--                         both are one codeword, and a rival of either is its rival
--   better_of k a b        two branches together: the counts add, and what stands beside the better answer is kept
--   better-tests          its count
--   better-joins          it is what two lists of test words find together, where a and b is what each of them finds
--   sound-better          it is sound
use Rattle.std.specs.Prelude.{Bool, true, false, cond, ◌&&◌, ◌||◌, ◌≡◌, List, ◌++◌, ℕ, ◌+◌, ◌-◌, T, ltb, eqb, take}
use Rattle.std.proofs.Math.Path.{refl, ap}
use Rattle.std.proofs.Common.{sym, ap₂, ◌∙◌, subst}
use Rattle.std.proofs.Math.Option.{Option, some, none}
use Rattle.refusals.specs.Refusal.{accepted}
use Rattle.lists.specs.Every.{both}
use Rattle.lists.specs.Words.{is_before}
use Rattle.lists.specs.Answers.{no-worse-same, beats, beats-yes, beats-no, better, pick}
use Rattle.lists.specs.Margin.{lesser}
use Rattle.answer.specs.Margin.{Margin, margin_is, margin_from, is-from}
use Rattle.near.specs.Near.{message_cost}
use Rattle.near.specs.Reach.{reach_in}
use Rattle.search.specs.Open.{tests_near, answer_of, margin_of, result_for}
use Rattle.near.specs.Laws.{tests-append, answer-append}
use Rattle.near.specs.Runner.{margin-append, margin-first, margin-second, margin-left, margin-right}
use Rattle.answer.specs.declared.Answer.{Answer}
use Rattle.answer.specs.declared.Answer.TheVariants.{NoneNear, Near}
use Rattle.near.specs.Result as Family
use Rattle.search.specs.Result.{Finding, total-near}
use Rattle.search.specs.Nearest.{Nearest, nearest-nobody, nearest-somebody, nearest-margin, nearest-some}
use Rattle.search.specs.Answered.{counted, answering, Sound, sound-counted, sound-answering}
use Rattle.family.specs.Member.{Member}
use Rattle.soft.specs.Blank.{open_at}

unfoldable pub is_better : ℕ → ℕ → List ℕ → ℕ → List ℕ → Bool
is_better k t m u n = ltb t u || (eqb t u && is_before (take k m) (take k n))

-- the total and the margin of an answer
abbrev near : ℕ → Option ℕ → Answer
near t o = Near t (margin_from o)

unfoldable pub better_for : ℕ → Answer → Answer → Finding → Finding → Finding
better_for k NoneNear y a b = b
better_for k (Near t d) NoneNear a b = a
better_for k (Near t d) (Near u e) a b =
    cond (is_better k t a.message u b.message) (answering (near t (lesser (margin_is d) (some (u - t)))) a)
    (cond (is_better k u b.message t a.message) (answering (near u (lesser (margin_is e) (some (t - u)))) b)
    (answering (near u (lesser (margin_is d) (margin_is e))) b))

unfoldable pub better_of : ℕ → Finding → Finding → Finding
better_of k a b = counted (a.tests + b.tests) (better_for k a.answer b.answer a b)

pub better-tests : (k : ℕ) (a b : Finding) → (better_of k a b).tests ≡ a.tests + b.tests
unfolding better_of counted
better-tests k a b = refl

-- ---- the order of answers is that of near codewords

better-none : (cost : List ℕ → ℕ) (o : Option (List ℕ)) → better cost o none ≡ o
unfolding better
better-none cost none = refl
better-none cost (some m) = refl

abbrev rival : Bool → Bool → Bool
rival true r = true
rival false r = r

either_way : (x y z : Bool) → rival x (both y z) ≡ (x || (y && z))
either_way true y z = refl
either_way false true z = refl
either_way false false z = refl

beats-by : (cost : List ℕ → ℕ) (k : ℕ) (m n : List ℕ) {t u : ℕ} → t ≡ cost (take k m) → u ≡ cost (take k n)
    → is_better k t m u n ≡ beats cost (take k m) (take k n)
unfolding beats is_better
beats-by cost k m n {t} {u} p q =
    sym (either_way (ltb t u) (eqb t u) (is_before (take k m) (take k n)))
    ∙ ap₂ (λ x y. rival (ltb x y) (both (eqb x y) (is_before (take k m) (take k n)))) p q

module _ {𝓜 : Member} {k : ℕ} {columns : ℕ → List ℕ} {ts us : List (List ℕ)} {a b : Finding} (p : Nearest 𝓜 k columns ts a) (q : Nearest 𝓜 k columns us b) where
  abbrev cost : List ℕ → ℕ
  cost = message_cost 𝓜 k columns

  both-answers : {o o' : Option (List ℕ)} → answer_of 𝓜 k columns ts ≡ o → answer_of 𝓜 k columns us ≡ o'
      → answer_of 𝓜 k columns (ts ++ us) ≡ better cost o o'
  both-answers e f = answer-append 𝓜 (open_at columns) (reach_in 𝓜 k columns) k columns ts us ∙ ap₂ (better cost) e f

  counts : a.tests + b.tests ≡ tests_near 𝓜 k columns (ts ++ us)
  counts = ap₂ (λ x y. x + y) p.count q.count ∙ sym (tests-append 𝓜 (open_at columns) (reach_in 𝓜 k columns) k ts us)

  -- a finding with the total and the margin of its message among all test words
  kept : (f : Finding) (t : ℕ) (o : Option ℕ) → answer_of 𝓜 k columns (ts ++ us) ≡ some (take k f.message) → t ≡ cost (take k f.message)
      → o ≡ margin_of 𝓜 k columns (ts ++ us) (take k f.message) → Nearest 𝓜 k columns (ts ++ us) (counted (a.tests + b.tests) (answering (near t o) f))
  unfolding counted answering
  kept f t o answered total margin =
      nearest-some (counted (a.tests + b.tests) (answering (near t o) f)) t (margin_from o) refl (sym counts) answered total (is-from o ∙ margin)

  -- one of the lists alone has near codewords
  alone : (f : Finding) (ws : List (List ℕ)) → Nearest 𝓜 k columns ws f → answer_of 𝓜 k columns (ts ++ us) ≡ answer_of 𝓜 k columns ws
      → ((m : List ℕ) → margin_of 𝓜 k columns (ts ++ us) m ≡ margin_of 𝓜 k columns ws m) → Nearest 𝓜 k columns (ts ++ us) (counted (a.tests + b.tests) f)
  unfolding counted Family.result_of Family.result_for
  alone f ws r answered margin = record { count = counts; result = r.result ∙ go (answer_of 𝓜 k columns ws) ∙ ap (result_for 𝓜 k columns (ts ++ us)) (sym answered) }
    where
      go : (o : Option (List ℕ)) → result_for 𝓜 k columns ws o ≡ result_for 𝓜 k columns (ts ++ us) o
      go none = refl
      go (some m) = ap (λ (d : Option ℕ). record { number = accepted; message = m; total = cost m; margin = d }) (sym (margin m))

  -- both have
  module _ {t u : ℕ} {d e : Margin} (at : a.answer ≡ Near t d) (bt : b.answer ≡ Near u e) where
    abbrev m : List ℕ
    m = take k a.message

    abbrev n : List ℕ
    n = take k b.message

    two-near : Nearest 𝓜 k columns (ts ++ us) (counted (a.tests + b.tests) (better_for k (Near t d) (Near u e) a b))
    unfolding better_for better
    two-near =
        go (is_better k t a.message u b.message) (is_better k u b.message t a.message)
        (beats-by cost k a.message b.message P.1 Q.1) (beats-by cost k b.message a.message Q.1 P.1)
      where
        P : (answer_of 𝓜 k columns ts ≡ some m) × (t ≡ cost m)
        P = nearest-somebody p t (total-near at)

        Q : (answer_of 𝓜 k columns us ≡ some n) × (u ≡ cost n)
        Q = nearest-somebody q u (total-near bt)

        answered : (x : Bool) → x ≡ beats cost m n → answer_of 𝓜 k columns (ts ++ us) ≡ pick x (some m) (some n)
        answered x g = both-answers P.0 Q.0 ∙ ap (λ c. pick c (some m) (some n)) (sym g)

        one : false ≡ beats cost m n → false ≡ beats cost n m → m ≡ n
        one g h = no-worse-same (beats-no cost n m (λ s. subst T (sym h) s)) (beats-no cost m n (λ s. subst T (sym g) s))

        go : (x y : Bool) → x ≡ beats cost m n → y ≡ beats cost n m
            → Nearest 𝓜 k columns (ts ++ us)
            (counted (a.tests + b.tests)
            (cond x (answering (near t (lesser (margin_is d) (some (u - t)))) a)
            (cond y (answering (near u (lesser (margin_is e) (some (t - u)))) b) (answering (near u (lesser (margin_is d) (margin_is e))) b))))
        go true y g h =
            kept a t (lesser (margin_is d) (some (u - t))) (answered true g) P.1
            (ap₂ lesser (nearest-margin p t d at) (ap₂ (λ (v w : ℕ). some (w - v)) P.1 Q.1)
            ∙ sym (margin-first 𝓜 (open_at columns) (reach_in 𝓜 k columns) k columns ts us Q.0 (beats-yes cost m n (subst T g tt))))
        go false true g h =
            kept b u (lesser (margin_is e) (some (t - u))) (answered false g) Q.1
            (ap₂ lesser (nearest-margin q u e bt) (ap₂ (λ (v w : ℕ). some (v - w)) P.1 Q.1)
            ∙ sym (margin-second 𝓜 (open_at columns) (reach_in 𝓜 k columns) k columns ts us P.0 (beats-yes cost n m (subst T h tt))))
        go false false g h =
            kept b u (lesser (margin_is d) (margin_is e)) (answered false g) Q.1
            (ap₂ lesser (nearest-margin p t d at ∙ ap (margin_of 𝓜 k columns ts) (one g h)) (nearest-margin q u e bt)
            ∙ sym (margin-append 𝓜 (open_at columns) (reach_in 𝓜 k columns) k columns ts us n))

  pub better-joins : Nearest 𝓜 k columns (ts ++ us) (better_of k a b)
  unfolding better_of better_for better
  better-joins = go a.answer b.answer refl refl
    where
      go : (x y : Answer) → a.answer ≡ x → b.answer ≡ y → Nearest 𝓜 k columns (ts ++ us) (counted (a.tests + b.tests) (better_for k x y a b))
      go NoneNear y e f =
          let o = nearest-nobody p e in
          alone b us q (both-answers o refl) (margin-right 𝓜 (open_at columns) (reach_in 𝓜 k columns) k columns ts us o)
      go (Near t d) NoneNear e f =
          let o = nearest-nobody q f in
          alone a ts p (both-answers refl o ∙ better-none cost (answer_of 𝓜 k columns ts)) (margin-left 𝓜 (open_at columns) (reach_in 𝓜 k columns) k columns ts us o)
      go (Near t d) (Near u g) e f = two-near e f

pub sound-better : {𝓜 : Member} {most k : ℕ} {columns : ℕ → List ℕ} {a b : Finding} → Sound 𝓜 most k columns a → Sound 𝓜 most k columns b → Sound 𝓜 most k columns (better_of k a b)
unfolding better_of better_for
sound-better {𝓜} {most} {k} {columns} {a} {b} s r = sound-counted (a.tests + b.tests) (go a.answer b.answer refl refl)
  where
    one : (x y : Bool) {f g h : Finding} → Sound 𝓜 most k columns f → Sound 𝓜 most k columns g → Sound 𝓜 most k columns h → Sound 𝓜 most k columns (cond x f (cond y g h))
    one true y p q r = p
    one false true p q r = q
    one false false p q r = r

    go : (x y : Answer) → a.answer ≡ x → b.answer ≡ y → Sound 𝓜 most k columns (better_for k x y a b)
    go NoneNear y e f = r
    go (Near t d) NoneNear e f = s
    go (Near t d) (Near u g) e f =
        one (is_better k t a.message u b.message) (is_better k u b.message t a.message) (sound-answering _ (s.cost _ (total-near e)) s)
        (sound-answering _ (r.cost _ (total-near f)) r) (sound-answering _ (r.cost _ (total-near f)) r)
