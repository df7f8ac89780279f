-- Eight messages in a superframe that a burst strikes on its way, and what comes back.
--
--   struck_by start burst frame   the frame with the symbols of the burst in place of its own from number `start` on
--   through_of k messages start burst out   what building the superframe, writing the burst over it and taking it apart answer: the number with which building
--                          refuses, 2 if the burst does not lie within the 512 symbols, status 0 and the buffer as it was; else what taking apart answers
--   struck-size, struck-before, struck-inside, struck-after   the frame that was struck: its length, and its bytes before the burst, in it and behind it
--   struck-altered         so it is altered in a window of as many symbols as the burst has
--   through-refused-status   where the number is not 0, the status is 0
--   through-back           at every rate all eight messages come back and no word is named, where the burst has at most 8T symbols, each from 0 to 15
--   Relied messages start burst out r after   document 02: 'A user at rate 39 may rely on this: if at most 48 consecutive symbols are altered, still each 0
--                          to 15, all eight messages come back', with the 312 symbols of eight messages; no word is named
use Rattle.std.specs.Prelude.{Bool, true, false, cond, ◌≡◌, ◌≢◌, List, ◌++◌, ◌⊎◌, ℕ, ◌+◌, ◌-◌, ◌*◌, ◌<◌, ◌≤◌, eqb, leb, take, replicate}
use Rattle.std.proofs.Common.{sym, ◌∙◌, subst, inl, inr, arith, get_or-drop, length-take-le, le-leb}
use Rattle.std.proofs.Math.Path.{ap}
use Rattle.std.proofs.Math.Decide.{dec_lt, dec_le}
use Rattle.std.proofs.Math.ListN.{length, get_or, drop, length-append, length-drop, get_or-append}
use Rattle.std.proofs.lemmas.List.{length-replicate}
use Rattle.std.proofs.Math.Seq.{get_or-take, get_or-append-add}
use Rattle.lists.specs.Every.{true-T}
use Rattle.lists.specs.Words.{all_below, all_below-at}
use Rattle.refusals.specs.Refusal.{accepted, wrong_size}
use Rattle.refusals.specs.Numbers.{number_of}
use Rattle.soft.specs.Column.{symbols}
use Rattle.family.specs.Calls.{Answered, placed}
use Rattle.near.specs.Here.{reach_of}
use Rattle.superframe.specs.Superframe.{words, head_length, symbol_count, frame_length, built_of, build_of, symbol_in, Taken, taken, taken_of}
use Rattle.superframe.specs.Laws.{refused-status}
use Rattle.superframe.specs.Built.{Sent, build-sent, built-long, built-below}
use Rattle.superframe.specs.Burst.{Altered, burst}
use Rattle.taking_apart.specs.declared.Taken as Declared

unfoldable pub struck_by : ℕ → List ℕ → List ℕ → List ℕ
struck_by start burst frame = placed frame (head_length + start) burst

-- by what building answers
unfoldable pub through_by : Answered → ℕ → List ℕ → List ℕ → Taken
through_by built start burst out =
    cond (eqb built.number accepted)
    (cond (leb (start + length burst) symbol_count) (taken_of (struck_by start burst built.buffer) out) (taken wrong_size 0 out))
    (taken built.number 0 out)

unfoldable pub through_of : ℕ → List ℕ → ℕ → List ℕ → List ℕ → Taken
through_of k messages start burst out = through_by (build_of k messages (replicate frame_length 0)) start burst out

-- ---- the frame that was struck

module _ (start : ℕ) (burst frame : List ℕ) (fits : head_length + start + length burst ≤ length frame) where
  abbrev at : ℕ
  at = head_length + start

  front : length (take at frame) ≡ at
  front = length-take-le at frame (omega arith)

  pub struck-size : length (struck_by start burst frame) ≡ length frame
  unfolding struck_by placed
  struck-size =
      length-append (take at frame) (burst ++ drop (at + length burst) frame)
      ∙ omega (arith, front, length-append burst (drop (at + length burst) frame), length-drop (at + length burst) frame)

  pub struck-before : (i : ℕ) → i < at → get_or (struck_by start burst frame) i 0 ≡ get_or frame i 0
  unfolding struck_by placed
  struck-before i h =
      get_or-append (take at frame) (burst ++ drop (at + length burst) frame) 0 i (omega (arith, front)) ∙ get_or-take at frame i 0 h

  behind : (i : ℕ) → get_or (struck_by start burst frame) (at + i) 0 ≡ get_or (burst ++ drop (at + length burst) frame) i 0
  unfolding struck_by placed
  behind i =
      ap (λ n. get_or (take at frame ++ (burst ++ drop (at + length burst) frame)) (n + i) 0) (sym front)
      ∙ get_or-append-add (take at frame) (burst ++ drop (at + length burst) frame) i 0

  pub struck-inside : (i : ℕ) → i < length burst → get_or (struck_by start burst frame) (at + i) 0 ≡ get_or burst i 0
  struck-inside i h = behind i ∙ get_or-append burst (drop (at + length burst) frame) 0 i h

  pub struck-after : (i : ℕ) → at + length burst ≤ i → get_or (struck_by start burst frame) i 0 ≡ get_or frame i 0
  struck-after i h =
      let j : ℕ = i - (at + length burst) in
      let e : i ≡ at + (length burst + j) = omega arith in
      let f : at + length burst + j ≡ i = omega arith in
      ap (λ n. get_or (struck_by start burst frame) n 0) e ∙ behind (length burst + j)
      ∙ get_or-append-add burst (drop (at + length burst) frame) j 0 ∙ get_or-drop (at + length burst) frame j 0 ∙ ap (λ n. get_or frame n 0) f

pub struck-altered : (k : ℕ) (messages : List ℕ) (start : ℕ) (burst : List ℕ) → all_below symbols burst ≡ true → start + length burst ≤ symbol_count
    → Altered k messages (struck_by start burst (built_of k messages)) start (length burst)
unfolding symbol_in
struck-altered k messages start burst small fits =
    record {
      size = struck-size start burst sent room ∙ whole;
      head = λ i h. struck-before start burst sent room i (omega arith);
      below = λ s h. inside s h (dec_lt s start) (dec_le (start + length burst) s);
      outside = λ s h o. outside s o;
    }
  where
    sent : List ℕ
    sent = built_of k messages

    whole : length sent ≡ frame_length
    whole = built-long k messages

    room : head_length + start + length burst ≤ length sent
    room = omega (arith, whole)

    outside : (s : ℕ) → (s < start) ⊎ (start + length burst ≤ s) → symbol_in (struck_by start burst sent) s ≡ symbol_in sent s
    outside s (inl l) = struck-before start burst sent room (head_length + s) (omega arith)
    outside s (inr l) = struck-after start burst sent room (head_length + s) (omega arith)

    inside : (s : ℕ) → s < symbol_count → Dec (s < start) → Dec (start + length burst ≤ s) → symbol_in (struck_by start burst sent) s < symbols
    inside s h (yes l) d = subst (λ x. x < symbols) (sym (outside s (inl l))) (built-below k messages s h)
    inside s h (no l) (yes m) = subst (λ x. x < symbols) (sym (outside s (inr m))) (built-below k messages s h)
    inside s h (no l) (no m) =
        let j : ℕ = s - start in
        let e : head_length + s ≡ head_length + start + j = omega arith in
        subst (λ x. x < symbols) (sym (ap (λ n. get_or (struck_by start burst sent) n 0) e ∙ struck-inside start burst sent room j (omega arith)))
        (all_below-at symbols burst (true-T (all_below symbols burst) small) j (omega arith))

-- ---- where a call is refused

through-status : (built within : Bool) (frame out : List ℕ) (number : ℕ) {n s : ℕ} {after : List ℕ} → n ≢ accepted
    → taken n s after ≡ cond built (cond within (taken_of frame out) (taken wrong_size 0 out)) (taken number 0 out) → s ≡ 0
through-status true true frame out number other e = refused-status frame out other e
through-status true false frame out number other e = ap (λ (t : Taken). t.status) e
through-status false within frame out number other e = ap (λ (t : Taken). t.status) e

pub through-refused-status : (k : ℕ) (messages : List ℕ) (start : ℕ) (burst out : List ℕ) {n s : ℕ} {after : List ℕ} → n ≢ accepted
    → taken n s after ≡ through_of k messages start burst out → s ≡ 0
unfolding through_of through_by
through-refused-status k messages start burst out other e =
    let built : Answered = build_of k messages (replicate frame_length 0) in
    through-status (eqb built.number accepted) (leb (start + length burst) symbol_count) (struck_by start burst built.buffer) out built.number other e

-- ---- what comes back

pub through-back : (k : ℕ) (messages : List ℕ) (start : ℕ) (struck out : List ℕ) → Sent k messages → length struck ≤ words * reach_of k 0
    → all_below symbols struck ≡ true → start + length struck ≤ symbol_count → length out ≡ k * words
    → through_of k messages start struck out ≡ taken accepted 0 messages
unfolding through_of through_by
through-back k messages start struck out S few small fits room =
    ap (λ (b : Answered). through_by b start struck out) (build-sent k messages (replicate frame_length 0) S (length-replicate {A = ℕ} frame_length 0))
    ∙ ap (λ b. cond b (taken_of (struck_by start struck (built_of k messages)) out) (taken wrong_size 0 out)) (le-leb (start + length struck) symbol_count fits)
    ∙ burst k messages (struck_by start struck (built_of k messages)) start (length struck) S (struck-altered k messages start struck small fits) few out room

pub record Relied (messages : List ℕ) (start : ℕ) (burst out : List ℕ) (r : Declared.Taken) (after : List ℕ) : Type 0 where
  pub all_back : length messages ≡ 312 → all_below 16 messages ≡ true → length burst ≤ 48 → all_below 16 burst ≡ true → start + length burst ≤ 512
      → length out ≡ 312 → (number_of r.answer ≡ 0) × (r.status ≡ 0) × (after ≡ messages)
