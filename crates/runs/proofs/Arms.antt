-- From the step that an arm makes to the step of its kind: the buffers that the arm is not lent are as they were.
--
--   by_delivery, by-reading, by-writing, by_closing, by_withdrawal   the five arms
use mathlib.Core.Path.{◌≡◌, refl, sym, subst}
use mathlib.Core.List.{List, []}
use Prim.Native.Nat.{ℕ}
use Rattle.book64.specs.calls.Calls.{deliver, reading, writing, closing, withdraw}
use Rattle.session.specs.declared.Session.{Session}
use Rattle.runs.specs.declared.Kind.{Kind}
use Rattle.runs.specs.declared.Kind.TheVariants.{Deliver, Read, Write, Close, Withdraw}
use Rattle.session.specs.Calls.{Ending}
use Rattle.runs.specs.Step.{Step, answer_with}
use Rattle.runs.specs.Stepping.{call_of, step_answer, Spared, Stepping}

module _ {kind : Kind} {s : Session} {place : ℕ} {column first second : List ℕ} {r : Ending} where
  pub by_delivery : kind ≡ Deliver → Step s (deliver place column) (answer_with r.refusal [] []) r.session
      → Stepping kind s place column first second r first second
  unfolding call_of step_answer Spared
  by_delivery e step = subst (λ k. Stepping k s place column first second r first second) (sym e) (record { made = step; spared = (refl, refl) })

  pub by-reading : {first' : List ℕ} → kind ≡ Read → Step s (reading first) (answer_with r.refusal first' []) r.session
      → Stepping kind s place column first second r first' second
  unfolding call_of step_answer Spared
  by-reading {first'} e step = subst (λ k. Stepping k s place column first second r first' second) (sym e) (record { made = step; spared = refl })

  pub by-writing : {first' : List ℕ} → kind ≡ Write → Step s (writing first) (answer_with r.refusal first' []) r.session
      → Stepping kind s place column first second r first' second
  unfolding call_of step_answer Spared
  by-writing {first'} e step = subst (λ k. Stepping k s place column first second r first' second) (sym e) (record { made = step; spared = refl })

  pub by_closing : {first' second' : List ℕ} → kind ≡ Close → Step s (closing first second) (answer_with r.refusal first' second') r.session
      → Stepping kind s place column first second r first' second'
  unfolding call_of step_answer Spared
  by_closing {first'} {second'} e step =
      subst (λ k. Stepping k s place column first second r first' second') (sym e) (record { made = step; spared = tt })

  pub by_withdrawal : kind ≡ Withdraw → Step s (withdraw place) (answer_with r.refusal [] []) r.session
      → Stepping kind s place column first second r first second
  unfolding call_of step_answer Spared
  by_withdrawal e step = subst (λ k. Stepping k s place column first second r first second) (sym e) (record { made = step; spared = (refl, refl) })
