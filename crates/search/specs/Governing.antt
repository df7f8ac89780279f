-- A known codeword that is the only one that can be near the test words below a node: they are only counted, and it is the answer if it is near
-- one. It is the only one where it is close enough to them all. For every member.
--
--   below_none, below-some, below-tests   what is found below the node, by the count, and with it
--   known-total              the total of the known codeword
--   sound-below              what is found is sound
--   governs-only             a codeword that passes the test is the only one
--   governed-nearest         where it is the only one, what is found is what the search would find
use Rattle.std.specs.Prelude.{Bool, ◌≡◌, ℕ, ◌+◌, ◌-◌, ◌<◌, eqb, take, None}
use Rattle.std.proofs.Math.Bool.{true, false, cond}
use Rattle.std.proofs.Math.Path.{refl, sym, ap, ap₂}
use Rattle.std.proofs.Common.{◌∙◌, subst, arith}
use mathlib.Core.List.{List, Memᴰ}
use Rattle.std.proofs.Math.Decide.{ℕ_discrete}
use Rattle.std.proofs.Math.ListN.{length}
use borrow.Author.Tests.{eq-eqb, ne_eqb, ltb-true}
use Rattle.family.specs.Encoding.{encode_of}
use Rattle.soft.specs.Blank.{open_at, flag_at}
use Rattle.soft.specs.BlankLaws.{open-count}
use Rattle.soft.specs.Total.{total_of, differing_in}
use Rattle.soft.specs.TestWord.{expand}
use Rattle.answer.specs.Margin.{margin_is}
use Rattle.family.specs.Member.{Member, places}
use Rattle.near.specs.Near.{m_of, reach_of, message_cost}
use Rattle.near.specs.Reach.{Workable, reach_in}
use Rattle.near.specs.Tree.{Places}
use Rattle.near.specs.Runner.{margin-governed}
use Rattle.near.specs.Within as Within
use Rattle.near.specs.Governing.{Governed, Only, filled_of, expand-outside, governed-outside, governed-only, within-tests, within-some, within_none}
use Rattle.search.specs.OpenFlags.{OpenFlags, reach-flagged, differing-flagged}
use Rattle.answer.specs.declared.Answer.{Answer}
use Rattle.answer.specs.declared.Answer.TheVariants.{NoneNear, Near}
use Rattle.search.specs.Result.{Finding, total-near}
use Rattle.search.specs.Nearest.{Nearest, nearest-some}
use Rattle.search.specs.Answered.{counted, answering, missed_of, Sound, sound-counted, sound-missed, sound-answering, nearest-missed}
use Rattle.search.specs.Known.{governs_of, tests_within, total_for, known_total, answer_here}

module _ (𝓜 : Member) (columns : ℕ → List ℕ) (known : Finding) (tests : ℕ) where
  -- the known codeword is the answer, without a runner-up
  abbrev alone : Finding
  alone = counted tests (answering (Near (known_total 𝓜 columns known) None) known)

  pub below_none : tests ≡ 0 → answer_here 𝓜 columns known tests ≡ missed_of known
  unfolding answer_here
  below_none z = ap (λ b. cond b (missed_of known) alone) (eq-eqb tests 0 z)

  pub below-some : (tests ≡ 0 → ⊥) → answer_here 𝓜 columns known tests ≡ alone
  unfolding answer_here
  below-some n = ap (λ b. cond b (missed_of known) alone) (ne_eqb tests 0 n)

  pub below-tests : (answer_here 𝓜 columns known tests).tests ≡ tests
  unfolding missed_of counted answering
  below-tests = go (ℕ_discrete tests 0)
    where
      go : Dec (tests ≡ 0) → (answer_here 𝓜 columns known tests).tests ≡ tests
      go (yes z) = ap (λ (f : Finding). f.tests) (below_none z) ∙ sym z
      go (no n) = ap (λ (f : Finding). f.tests) (below-some n)

module _ {𝓜 : Member} {most k : ℕ} {columns : ℕ → List ℕ} {known : Finding} (s : Sound 𝓜 most k columns known) where
  pub known-total : known_total 𝓜 columns known ≡ message_cost 𝓜 k columns (take k known.message)
  unfolding known_total total_for message_cost
  known-total = go known.answer refl
    where
      go : (a : Answer) → known.answer ≡ a → total_for 𝓜 columns known.codeword a ≡ message_cost 𝓜 k columns (take k known.message)
      go NoneNear e = ap (total_of (places 𝓜) columns) s.encoded
      go (Near t d) e = s.cost t (total-near e)

  pub sound-below : (tests : ℕ) → Sound 𝓜 most k columns (answer_here 𝓜 columns known tests)
  unfolding answer_here
  sound-below tests = go (eqb tests 0)
    where
      go : (b : Bool) → Sound 𝓜 most k columns (cond b (missed_of known) (alone 𝓜 columns known tests))
      go true = sound-missed s
      go false = sound-counted tests (sound-answering None known-total s)

  module _ (rate : Workable 𝓜 k) {counts : List ℕ} {b : ℕ} (marked : OpenFlags 𝓜 k columns counts b) where
    abbrev on : ℕ → Bool
    on = open_at columns

    abbrev T : ℕ
    T = reach_in 𝓜 k columns

    abbrev m : List ℕ
    m = take k known.message

    pub governs-only : (word ps : List ℕ) → length word ≡ (places 𝓜) → governs_of 𝓜 k counts b known word ps ≡ true → Places (places 𝓜) ps → (t : List ℕ)
        → Memᴰ t (expand columns word ps) → Only 𝓜 on T k m t
    unfolding governs_of
    governs-only word ps size e P t i n f =
        let c = known.codeword in
        let close : differing_in (flag_at counts) (places 𝓜) c (filled_of (places 𝓜) c word ps) + length ps + reach_of 𝓜 k b < (places 𝓜) - m_of 𝓜 k - b = ltb-true _ _ e in
        let g : Governed 𝓜 on T k c t =
        governed-outside 𝓜 on T k c word P size
        (omega (arith, close, differing-flagged marked c (filled_of (places 𝓜) c word ps), reach-flagged marked, marked.number, open-count (places 𝓜) columns)) t
        (expand-outside (places 𝓜) columns word ps size t i) in
        governed-only 𝓜 on T rate s.word t n (subst (λ u. Governed 𝓜 on T k u t) s.encoded g) f

    pub governed-nearest : (ts : List (List ℕ)) → ((t : List ℕ) → Memᴰ t ts → Only 𝓜 on T k m t) → (tests : ℕ)
        → tests ≡ tests_within 𝓜 k counts b known.codeword ts → Nearest 𝓜 k columns ts (answer_here 𝓜 columns known tests)
    unfolding counted answering margin_is
    governed-nearest ts only tests within = go (ℕ_discrete tests 0)
      where
        count : tests ≡ Within.tests_within 𝓜 on T (encode_of 𝓜 k m) ts
        count =
            within ∙ ap₂ (λ f r. Within.tests_within 𝓜 f r known.codeword ts) marked.flags (reach-flagged marked)
            ∙ ap (λ u. Within.tests_within 𝓜 on T u ts) s.encoded

        go : Dec (tests ≡ 0) → Nearest 𝓜 k columns ts (answer_here 𝓜 columns known tests)
        go (yes z) =
            subst (Nearest 𝓜 k columns ts) (sym (below_none 𝓜 columns known tests z))
            (nearest-missed known (within_none 𝓜 on T rate s.word columns ts only (sym count ∙ z)))
        go (no n) =
            subst (Nearest 𝓜 k columns ts) (sym (below-some 𝓜 columns known tests n))
            (nearest-some (alone 𝓜 columns known tests) (known_total 𝓜 columns known) None refl
            (within-tests 𝓜 on T rate s.word ts only ∙ sym count) (within-some 𝓜 on T rate s.word columns ts only (omega (arith, count)))
            known-total (sym (margin-governed 𝓜 on T k columns ts only)))
