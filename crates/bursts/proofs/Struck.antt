-- The burst in the part of the frame that is lent for it, whether it lies within the symbols, and each return by what building answered.
use mathlib.Core.Bool.{true, false, cond}
use mathlib.Core.Path.{◌≡◌, sym, ap, ap₂, ◌∙◌}
use mathlib.Core.List.{List, ◌++◌}
use mathlib.Core.Logic.{◌≢◌}
use Prim.Native.Nat.{ℕ, ◌+◌, ◌-◌, ◌<◌, ◌≤◌}
use native.Mathlib.Omega.{arith}
use lib.Dec.{leb}
use lib.ListN.{length, take, drop, replicate, length-take, length-drop}
use lib.Seq.{drop-drop}
use borrow.Author.Tests.{eq-eqb, ne_eqb, le-leb, lt-leb}
use Rattle.lists.specs.Over.{over, over-same}
use Rattle.refusals.specs.Refusal.{accepted, wrong_size}
use Rattle.family.specs.Calls.{Answered, outcome, placed}
use Rattle.superframe.specs.Superframe.{head_length, symbol_count, frame_length, build_of, Taken, taken, taken_of}
use Rattle.bursts.specs.Struck.{struck_by, through_by, through_of}

pub strike-done : (start : ℕ) (burst frame : List ℕ) → head_length + start + length burst ≤ length frame → {part : List ℕ}
    → part ≡ over burst (take (head_length + start + length burst - (head_length + start)) (drop (head_length + start) frame))
    → take (head_length + start) frame ++ (part ++ drop (head_length + start + length burst - (head_length + start)) (drop (head_length + start) frame))
    ≡ struck_by start burst frame
unfolding struck_by placed
strike-done start burst frame fits e =
    let at : ℕ = head_length + start in
    let wide : at + length burst - at ≡ length burst = omega arith in
    let old : List ℕ = take (at + length burst - at) (drop at frame) in
    let same : length old ≡ length burst = omega (arith, length-take (at + length burst - at) (drop at frame), length-drop at frame) in
    ap₂ (λ (p r : List ℕ). take at frame ++ (p ++ r)) (e ∙ over-same burst old same)
    (ap (λ n. drop n (drop at frame)) wide ∙ drop-drop (length burst) at frame)

-- ---- where it lies
module _ (start long : ℕ) where
  pub too_long : symbol_count < long → false ≡ leb (start + long) symbol_count
  too_long h = sym (lt-leb (start + long) symbol_count (omega arith))

  pub too_far : symbol_count - long < start → false ≡ leb (start + long) symbol_count
  too_far h = sym (lt-leb (start + long) symbol_count (omega arith))

  pub lies : long ≤ symbol_count → start ≤ symbol_count - long → true ≡ leb (start + long) symbol_count
  lies l h = sym (le-leb (start + long) symbol_count (omega arith))

-- ---- the call
module _ (rate : ℕ) (messages : List ℕ) (start : ℕ) (burst out : List ℕ) {number : ℕ} {bytes : List ℕ}
    (built : outcome number bytes ≡ build_of rate messages (replicate frame_length 0)) where
  by-built : through_by (outcome number bytes) start burst out ≡ through_of rate messages start burst out
  unfolding through_of
  by-built = ap (λ (b : Answered). through_by b start burst out) built

  pub through-refused : number ≢ accepted → taken number 0 out ≡ through_of rate messages start burst out
  unfolding through_by
  through-refused n =
      sym (ap (λ b. cond b (cond (leb (start + length burst) symbol_count) (taken_of (struck_by start burst bytes) out) (taken wrong_size 0 out)) (taken number 0 out)) (ne_eqb number accepted n))
      ∙ by-built

  module _ (done : number ≡ accepted) where
    pub through-beyond : leb (start + length burst) symbol_count ≡ false → taken wrong_size 0 out ≡ through_of rate messages start burst out
    unfolding through_by
    through-beyond e =
        sym (ap₂ (λ a b. cond a (cond b (taken_of (struck_by start burst bytes) out) (taken wrong_size 0 out)) (taken number 0 out)) (eq-eqb number accepted done) e)
        ∙ by-built

    pub through-struck : leb (start + length burst) symbol_count ≡ true → {frame : List ℕ} → frame ≡ struck_by start burst bytes → {t : Taken}
        → t ≡ taken_of frame out → t ≡ through_of rate messages start burst out
    unfolding through_by
    through-struck e f g =
        g ∙ ap (λ (l : List ℕ). taken_of l out) f
        ∙ sym (ap₂ (λ a b. cond a (cond b (taken_of (struck_by start burst bytes) out) (taken wrong_size 0 out)) (taken number 0 out)) (eq-eqb number accepted done) e)
        ∙ by-built
