-- From the row of the least Q to the codeword within T and the bytes; and from there to the call.
use mathlib.Core.Bool.{Bool, not, ◌&&◌}
use mathlib.Core.Path.{◌≡◌, sym, ap, ap₂, ◌∙◌, subst, fun_ext}
use mathlib.Core.List.{List}
use mathlib.Core.Logic.{◌≢◌}
use mathlib.Core.Option as Maybe
use Rattle.std.specs.Prelude.{Option, Some, None}
use Prim.Native.Nat.{ℕ, ◌+◌, ◌<◌, ◌≤◌}
use native.Mathlib.Omega.{arith}
use lib.ListN.{length, take}
use borrow.Author.Tests.{le-leb, lt-leb, le-ltb}
use Rattle.lists.specs.Count.{count}
use Rattle.lists.specs.Distinct.{among}
use Rattle.lists.specs.Listed.{listed}
use Rattle.lists.specs.Over.{over, over-same}
use Rattle.algebra.specs.Field.{one-mul}
use Rattle.algebra.specs.Coefficients.{scale, below-mono}
use Rattle.algebra.specs.Least.{Least, least-same}
use Rattle.galois.specs.Field16.{GF, K16, to_f, to_f-one}
use Rattle.family.specs.Member.{m16}
use Rattle.family.specs.Nodes.{ThroughNodes}
use Rattle.family.specs.Evaluation.{encode-length}
use Rattle.refusals.specs.Refusal.{accepted, none_near}
use Rattle.code.specs.Encoding.{encode_of}
use Rattle.soft.specs.Blank.{flag_at}
use Rattle.soft.specs.BlankLaws.{flags-listed}
use Rattle.soft.specs.Total.{differing_in}
use Rattle.values.specs.Holds.{Holds}
use Rattle.values.specs.Settled.{settled}
use Rattle.near.specs.Near.{near_to, codeword_near}
use Rattle.near.specs.Reach.{Repairable, radius}
use Rattle.near.specs.Tree.{decided-through}
use Rattle.near.specs.Interpolated.{nodes_of}
use Rattle.near.specs.Decider.{limit-decides, word-spent}
use Rattle.near.specs.Governing.{Only, only-near, only-far}
use Rattle.near.specs.Here.{m_of, reach_of, blank_limit, limit_of}
use Rattle.interpolant.specs.LeastQ.{reading_length, reading_of}
use Rattle.interpolant.specs.Reading.{byte_of}
use Rattle.interpolant.proofs.Reading.{reading-least, reading-size}
use Rattle.parts.specs.Parts.{values_of, first_of, second_of, polynomial_of, recovered}
use Rattle.candidate.specs.Ranged.{Ranged, workable, limit-small}
use Rattle.search.specs.Settled.{flagged-decided}
use Rattle.candidate.specs.declared.Candidate.{Candidate}
use Rattle.candidate.specs.declared.open.Open.{Open}
use Rattle.candidate.specs.Candidate.{CandidateOf}
use Rattle.elimination.specs.declared.solving.Solved.{Solved}
use Rattle.elimination.specs.Solving.{SolvedOf}
use Rattle.book64.specs.Here.{places}
use Rattle.book64.specs.engine.Engine.{unblanked_by, eliminated, engine_checks, engine_of}
use Rattle.book64.specs.engine.EngineLaws.{EnginePassed, engine-passed, engine-refused, engine-none, engine-some, unblanked-count}
use Rattle.engine.specs.declared.Solution.{Solution}
use Rattle.engine.specs.Solution.{open_flag, OpenOf, SolutionOf}
open K16 use {◌⊗◌}

module _ {k : ℕ} (rate : Ranged k) (word flags : List ℕ) {b : ℕ} (few : b ≤ blank_limit k) (all : count places (flag_at flags) + b ≡ places)
    {M limit : ℕ} (m-is : M ≡ m_of k) (limit_is : limit ≡ limit_of k b) where
  repairs : Repairable m16 (flag_at flags) (reach_of k b) k
  repairs = radius m16 (workable rate) (flag_at flags) few all

  -- the nodes of the flagged places are those of the word
  abbrev there : (c : ℕ → GF) → ThroughNodes m16 (m_of k) (nodes_of m16 (flag_at flags) word) c → ThroughNodes m16 (m_of k) (settled word flags places) c
  there = (decided-through m16 (flag_at flags) (m_of k) (flagged-decided word flags m16)).1

  abbrev back : (c : ℕ → GF) → ThroughNodes m16 (m_of k) (settled word flags places) c → ThroughNodes m16 (m_of k) (nodes_of m16 (flag_at flags) word) c
  back = (decided-through m16 (flag_at flags) (m_of k) (flagged-decided word flags m16)).0

  pub none-solved : SolvedOf M word flags limit None → SolutionOf k word flags b None
  none-solved S =
      let solved : SolvedOf (m_of k) word flags limit None = subst (λ n. SolvedOf n word flags limit None) m-is S in
      word-spent m16 (flag_at flags) (reach_of k b) (workable rate) word (λ c l t h. subst (λ n. n < l) limit_is (solved c l (there c t) h))

  module _ (s : Solved) (S : SolvedOf M word flags limit (Some s)) {r : Candidate} (C : CandidateOf k word s.row r) where
    solved : SolvedOf (m_of k) word flags limit (Some s)
    solved = subst (λ n. SolvedOf n word flags limit (Some s)) m-is S

    below : s.key ≤ limit
    below = solved.0

    Q : ℕ → GF
    Q = solved.1.0

    holds : Holds m16 (m_of k) word (values_of s.row) Q
    unfolding Q
    holds = solved.1.1

    least : Least K16 (ThroughNodes m16 (m_of k) (nodes_of m16 (flag_at flags) word)) Q s.key
    unfolding Q
    least = least-same K16 back there solved.1.2

    only : Only m16 (flag_at flags) (reach_of k b) k (take k r.message) word
    only n f =
        C.only Q holds (flag_at flags) (reach_of k b) word
        (record {
          lead = s.key;
          through = least.member;
          leads = least.leads;
          decides = limit-decides m16 (flag_at flags) (reach_of k b) k (subst (λ n. s.key ≤ n) limit_is below) repairs;
        })
        n f

    -- the distance is that of the candidate
    module _ {T d : ℕ} (t-is : T ≡ reach_of k b) (d-is : d ≡ differing_in (flag_at flags) places r.codeword word) where
      away : d ≡ differing_in (flag_at flags) places (encode_of k (take k r.message)) word
      away = d-is ∙ ap (λ c. differing_in (flag_at flags) places c word) C.encoded

      pub far-solved : T < d → SolutionOf k word flags b None
      unfolding near_to
      far-solved far =
          only-far m16 (flag_at flags) (reach_of k b) (workable rate) C.word_of word only (lt-leb _ (reach_of k b) (omega (arith, far, t-is, away)))

      bytes-are : {q0 q1 bytes : List ℕ} → q0 ≡ first_of word s.row → q1 ≡ second_of s.row
          → bytes ≡ listed reading_length (byte_of (m_of k) (scale K16 (to_f 1) (polynomial_of (m_of k) q0 q1)))
          → bytes ≡ reading_of (m_of k) (nodes_of m16 (flag_at flags) word)
      bytes-are e0 e1 e =
          e ∙ ap (λ (P : ℕ → GF). listed reading_length (byte_of (m_of k) (scale K16 (to_f 1) P))) (ap₂ (polynomial_of (m_of k)) e0 e1 ∙ is-Q)
          ∙ ap (λ (P : ℕ → GF). listed reading_length (byte_of (m_of k) P)) (fun_ext (λ o. ap (λ a. a ⊗ Q o) to_f-one ∙ one-mul K16 (Q o)))
          ∙ sym (reading-least (m_of k) (nodes_of m16 (flag_at flags) word) least)
        where
          is-Q : polynomial_of (m_of k) (first_of word s.row) (second_of s.row) ≡ Q
          is-Q = recovered s.row holds (below-mono K16 (omega (arith, below, limit_is, limit-small rate b)) least.leads.above)

      pub near-solved : d ≤ T → {q0 q1 : List ℕ} {o : Solution} → o.codeword ≡ r.codeword → q0 ≡ first_of word s.row → q1 ≡ second_of s.row
          → o.bytes ≡ listed reading_length (byte_of (m_of k) (scale K16 (to_f 1) (polynomial_of (m_of k) q0 q1))) → SolutionOf k word flags b (Some o)
      unfolding near_to
      near-solved close ec e0 e1 eb = (
        take k r.message,
        only-near m16 (flag_at flags) (reach_of k b) (workable rate) C.word_of word only (le-leb _ (reach_of k b) (omega (arith, close, t-is, away))),
        ec ∙ C.encoded,
        bytes-are e0 e1 eb,
      )

-- ---- the call
pub flags-unblanked : (blanks : List ℕ) → flag_at (listed places (open_flag blanks)) ≡ unblanked_by blanks
unfolding unblanked_by
flags-unblanked blanks =
    flags-listed places (unblanked_by blanks) (λ p h. ap (λ b. b && not (among p blanks)) (le-ltb p places h))

pub refused-left : (rate : ℕ) (word blanks codeword q : List ℕ) {n : ℕ} → n ≡ engine_checks rate word blanks (length codeword) (length q) → n ≢ accepted
    → eliminated n codeword q ≡ engine_of rate word blanks codeword q
refused-left rate word blanks codeword q e n =
    ap (λ m. eliminated m codeword q) e ∙ sym (engine-refused rate word blanks codeword q (λ z. n (e ∙ z)))

-- by the flags as by the list
flags-count : (blanks : List ℕ) {flags : List ℕ} → flags ≡ listed places (open_flag blanks) → flag_at flags ≡ unblanked_by blanks
flags-count blanks e = ap flag_at e ∙ flags-unblanked blanks

pub may-decide : (rate : ℕ) (word blanks : List ℕ) (codeword q : ℕ) → engine_checks rate word blanks codeword q ≡ accepted → {o : Open}
    → OpenOf rate blanks o → count places (flag_at o.counts) + o.blanks ≡ places
may-decide rate word blanks codeword q passed O =
    let P = engine-passed rate word blanks codeword q passed in
    ap₂ (λ on b. count places on + b) (flags-count blanks O.counts_are) O.blanks_are ∙ unblanked-count blanks P.fit

module _ (rate : ℕ) (word blanks codeword q : List ℕ) (passed : engine_checks rate word blanks (length codeword) (length q) ≡ accepted) {o : Open}
    (O : OpenOf rate blanks o) where
  abbrev Of : (ℕ → Bool) → Maybe.Option (List ℕ)
  Of on = codeword_near m16 on (reach_of rate (length blanks)) rate word

  counts : flag_at o.counts ≡ unblanked_by blanks
  counts = flags-count blanks O.counts_are

  P : EnginePassed rate word blanks (length codeword) (length q)
  P = engine-passed rate word blanks (length codeword) (length q) passed

  module _ {given : List ℕ} (given_is : given ≡ word) where
    given-solved : (r : Option Solution) → SolutionOf o.rate.k given o.counts o.blanks r → SolutionOf rate word o.counts (length blanks) r
    given-solved r S =
        subst (λ k. SolutionOf k word o.counts (length blanks) r) O.rate_is
        (subst (λ b. SolutionOf o.rate.k word o.counts b r) O.blanks_are
        (subst (λ w. SolutionOf o.rate.k w o.counts o.blanks r) given_is S))

    pub none_left : SolutionOf o.rate.k given o.counts o.blanks None → eliminated none_near codeword q ≡ engine_of rate word blanks codeword q
    none_left S = sym (engine-none rate word blanks codeword q passed (ap Of (sym counts) ∙ given-solved None S))

    pub some_left : {r : Solution} → SolutionOf o.rate.k given o.counts o.blanks (Some r) → {c d : List ℕ} → c ≡ over r.codeword codeword → d ≡ over r.bytes q
        → eliminated accepted c d ≡ engine_of rate word blanks codeword q
    some_left {r} S {c} {d} ec ed =
        let f = given-solved (Some r) S in
        let c-is : c ≡ encode_of rate f.0 =
        ec ∙ over-same r.codeword codeword (P.codeword_long ∙ sym (ap length f.2 ∙ encode-length m16 rate f.0)) ∙ f.2 in
        let d-is : d ≡ reading_of (m_of rate) (nodes_of m16 (flag_at o.counts) word) =
        ed ∙ over-same r.bytes q (P.q_long ∙ sym (ap length f.3 ∙ reading-size (m_of rate) (nodes_of m16 (flag_at o.counts) word))) ∙ f.3 in
        ap₂ (eliminated accepted) c-is (d-is ∙ ap (λ on. reading_of (m_of rate) (nodes_of m16 on word)) counts)
        ∙ sym (engine-some rate word blanks codeword q passed (ap Of (sym counts) ∙ f.1))
