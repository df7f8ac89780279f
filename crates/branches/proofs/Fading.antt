-- The costs of a word while they are faded place by place: those of the places passed stand, all others are 1.
--
--   own-blank, own-none, own-symbol   what the word's symbol costs at a blank place, where it is none, and else
--   fading_costs n blanks word   the costs of the first n places, and 1 for every symbol at the others
--   fading-start, fading-turn, fading-end   before the loop, at each turn, after it
use mathlib.Core.Bool.{Bool, true, false, cond, not, ◌&&◌}
use mathlib.Core.Path.{◌≡◌, refl, sym, ap, ap₂, ◌∙◌}
use mathlib.Core.List.{List}
use mathlib.Core.Logic.{◌≢◌}
use Prim.Native.Nat.{ℕ, ◌+◌, ◌*◌, ◌/◌, ◌%◌, ◌<◌, ◌≤◌}
use native.Mathlib.Decide.{ℕ_discrete, dec_lt}
use native.Mathlib.Omega.{arith}
use lib.Dec.{eqb, ltb}
use lib.ListN.{get_or, set, replicate, length-set, length-replicate, get_or-replicate}
use lib.Seq.{get_or-set_same, get_or-set_other}
use borrow.Author.Tests.{eq-eqb, ne_eqb, lt-ltb, le-ltb}
use Rattle.lists.specs.Count.{bit}
use Rattle.lists.specs.Distinct.{among}
use Rattle.lists.specs.Listed.{listed, listed-length, listed_at, listed_by, listed-ext}
use Rattle.soft.specs.Column.{symbols}
use Rattle.book64.specs.Here.{places}
use Rattle.book64.specs.engine.Engine.{unblanked_by}
use Rattle.agreement.specs.Faded.{faded_cost, faded_costs}

module _ (blanks word : List ℕ) where
  -- ---- one symbol

  and-false : (b : Bool) → (b && false) ≡ false
  and-false true = refl
  and-false false = refl

  -- not the word's symbol
  other : (p s : ℕ) → get_or word p 0 ≢ s → faded_cost blanks word p s ≡ 1
  unfolding faded_cost
  other p s d =
      ap (λ b. bit (not (unblanked_by blanks p && b))) (ne_eqb (get_or word p 0) s d) ∙ ap (λ b. bit (not b)) (and-false (unblanked_by blanks p))

  pub own-blank : (p s : ℕ) → among p blanks ≡ true → 1 ≡ faded_cost blanks word p s
  unfolding faded_cost unblanked_by
  own-blank p s e =
      sym
      (ap (λ b. bit (not (ltb p places && not b && eqb (get_or word p 0) s))) e
      ∙ ap (λ b. bit (not (b && eqb (get_or word p 0) s))) (and-false (ltb p places)))

  pub own-none : (p : ℕ) → 15 < get_or word p 0 → 1 ≡ faded_cost blanks word p (get_or word p 0 % symbols)
  own-none p h = sym (other p (get_or word p 0 % symbols) (λ e. omega arith))

  pub own-symbol : (p : ℕ) → p < places → among p blanks ≡ false → get_or word p 0 ≤ 15 → 0 ≡ faded_cost blanks word p (get_or word p 0 % symbols)
  unfolding faded_cost unblanked_by
  own-symbol p h e l =
      sym
      (ap₂ (λ a b. bit (not (a && not b && eqb (get_or word p 0) (get_or word p 0 % symbols)))) (lt-ltb p places h) e
      ∙ ap (λ b. bit (not b)) (eq-eqb (get_or word p 0) (get_or word p 0 % symbols) (omega arith)))

  -- ---- the loop

  unfoldable pub fading_cost : ℕ → ℕ → ℕ
  fading_cost n i = cond (ltb (i / symbols) n) (faded_cost blanks word (i / symbols) (i % symbols)) 1

  unfoldable pub fading_costs : ℕ → List ℕ
  fading_costs n = listed (places * symbols) (fading_cost n)

  passed : (n i : ℕ) → i / symbols < n → fading_cost n i ≡ faded_cost blanks word (i / symbols) (i % symbols)
  unfolding fading_cost
  passed n i l = ap (λ b. cond b (faded_cost blanks word (i / symbols) (i % symbols)) 1) (lt-ltb (i / symbols) n l)

  left : (n i : ℕ) → n ≤ i / symbols → fading_cost n i ≡ 1
  unfolding fading_cost
  left n i l = ap (λ b. cond b (faded_cost blanks word (i / symbols) (i % symbols)) 1) (le-ltb (i / symbols) n l)

  pub fading-start : replicate (places * symbols) 1 ≡ fading_costs 0
  unfolding fading_costs
  fading-start =
      let one : ℕ = 1 in
      listed_by 0 (places * symbols) (replicate (places * symbols) one) (fading_cost 0) (length-replicate (places * symbols) one)
      (λ i l. get_or-replicate (places * symbols) i one 0 l ∙ sym (left 0 i (omega arith)))

  pub fading-end : (n : ℕ) → places ≤ n → fading_costs n ≡ faded_costs blanks word
  unfolding fading_costs faded_costs
  fading-end n h = listed-ext (places * symbols) (fading_cost n) (λ i. faded_cost blanks word (i / symbols) (i % symbols)) (λ i l. passed n i (omega arith))

  -- only the word's symbol has another cost than 1
  turn-other : (n i : ℕ) → n < places → i ≢ n * symbols + get_or word n 0 % symbols → fading_cost n i ≡ fading_cost (n + 1) i
  turn-other n i h d = go (dec_lt (i / symbols) n) (ℕ_discrete (i / symbols) n)
    where
      go : Dec (i / symbols < n) → Dec (i / symbols ≡ n) → fading_cost n i ≡ fading_cost (n + 1) i
      go (yes l) e = passed n i l ∙ sym (passed (n + 1) i (omega arith))
      go (no l) (yes e) =
          left n i (omega arith)
          ∙ sym (passed (n + 1) i (omega arith) ∙ other (i / symbols) (i % symbols) (λ q. d (omega (arith, sym (ap (λ p. get_or word p 0) e) ∙ q))))
      go (no l) (no e) = left n i (omega arith) ∙ sym (left (n + 1) i (omega arith))

  pub fading-turn : (n : ℕ) {out : List ℕ} {at v : ℕ} → n < places → at ≡ n * symbols + get_or word n 0 % symbols
      → v ≡ faded_cost blanks word n (get_or word n 0 % symbols) → out ≡ fading_costs n → set out at v ≡ fading_costs (n + 1)
  unfolding fading_costs
  fading-turn n {out} {at} {v} h e f o =
      ap (λ l. set l at v) o
      ∙ listed_by 0 (places * symbols) (set (listed (places * symbols) (fading_cost n)) at v) (fading_cost (n + 1))
      (length-set (listed (places * symbols) (fading_cost n)) at v ∙ listed-length (places * symbols) (fading_cost n)) (λ i l. go i l (ℕ_discrete i at))
    where
      there : fading_cost (n + 1) at ≡ v
      there =
          let q : at / symbols ≡ n = omega arith in
          let r : at % symbols ≡ get_or word n 0 % symbols = omega arith in
          passed (n + 1) at (omega arith) ∙ ap₂ (faded_cost blanks word) q r ∙ sym f

      go : (i : ℕ) → i < places * symbols → Dec (i ≡ at) → get_or (set (listed (places * symbols) (fading_cost n)) at v) i 0 ≡ fading_cost (n + 1) i
      go i l (yes q) =
          ap (λ j. get_or (set (listed (places * symbols) (fading_cost n)) at v) j 0) q
          ∙ get_or-set_same (listed (places * symbols) (fading_cost n)) at v 0 (omega (arith, listed-length (places * symbols) (fading_cost n)))
          ∙ sym (ap (fading_cost (n + 1)) q ∙ there)
      go i l (no d) =
          get_or-set_other (listed (places * symbols) (fading_cost n)) at i v 0 d ∙ listed_at (places * symbols) i (fading_cost n) 0 l
          ∙ turn-other n i h (λ z. d (z ∙ sym e))
