-- From the contracts of the library's calls to the change that a call of the stream makes.
--
--   leaves-as                what is left by a change is left by one equal to it
--   leaves-step              the session that a call leaves that was made by its kind
--   delivered-as             a delivery by its kind, of a column that is the one delivered
--   kept_same                no change leaves the session as it was
--   numbered-open, numbered-deliver, numbered-withdraw, numbered-kept   the change of a call with a number: at `O`, at `D`, at `U`, and at any other letter
--   change-capture, change-short, change-numbered   the change of a call: at `C`, with arguments too short for a number, and with a number
use mathlib.Core.Path.{◌≡◌, refl, sym, ap, ap₂, subst}
use mathlib.Core.List.{List}
use Prim.Native.Nat.{ℕ, ◌-◌, ◌<◌, ◌≤◌}
use native.Mathlib.Omega.{arith}
use lib.ListN.{length, take, drop, length-drop}
use lib.Seq.{take_all}
use borrow.Author.Tests.{eq-eqb, ne_eqb, lt-ltb, le-ltb}
use Rattle.soft.specs.Column.{symbols, costs_from}
use Rattle.book64.specs.captures.CaptureOpening.{open_capture_of}
use Rattle.book.specs.calls.Calls.{after}
use Rattle.book64.specs.Here.{open_of}
use Rattle.session.specs.declared.Session.{Session}
use Rattle.runs.specs.declared.Kind.{Kind}
use Rattle.runs.specs.declared.Kind.TheVariants.{Deliver, Read, Write, Close, Withdraw}
use Rattle.session.specs.Calls.{Ending}
use Rattle.runs.specs.Step.{changes}
use Rattle.runs.specs.Stepping.{Stepping, call_of}
use Rattle.stream.specs.Changes.{Change, renewed, delivered, withdrawn, kept, change_by, open_letter, capture_letter, deliver_letter, withdraw_letter, number_in, numbered_change, change_of, Leaves, leaves_delivered, leaves_withdrawn, leaves_kept}

pub leaves-as : {s t : Session} {change other : Change} → change ≡ other → Leaves s other t → Leaves s change t
leaves-as {s} {t} e = subst (λ c. Leaves s c t) (sym e)

pub leaves-step : {kind : Kind} {s : Session} {place : ℕ} {column first second first' second' : List ℕ} {r : Ending}
    → Stepping kind s place column first second r first' second' → Leaves s (change_by kind place column) r.session
unfolding change_by call_of changes after
leaves-step {kind = Deliver} step = leaves_delivered (λ good. record { good = step.made.good good; same = step.made.book good })
leaves-step {kind = Read} step = leaves_kept (step.made.kept refl)
leaves-step {kind = Write} step = leaves_kept (step.made.kept refl)
leaves-step {kind = Close} step = leaves_kept (step.made.kept refl)
leaves-step {kind = Withdraw} step = leaves_withdrawn (λ good. record { good = step.made.good good; same = step.made.book good })

pub delivered-as : {s t : Session} {p : ℕ} {column costs : List ℕ} → Leaves s (change_by Deliver p column) t → column ≡ costs
    → Leaves s (delivered p costs) t
unfolding change_by
delivered-as {p = p} l e = leaves-as (ap (delivered p) (sym e)) l

pub kept_same : {s t : Session} → Leaves s kept t → t ≡ s
kept_same (leaves_kept e) = e

module _ (letter number : ℕ) (rest : List ℕ) where
  pub numbered-open : letter ≡ open_letter → numbered_change letter number rest ≡ renewed (open_of number rest).book
  unfolding numbered_change
  numbered-open e = rw (eq-eqb letter open_letter e)

  pub numbered-deliver : letter ≡ deliver_letter → numbered_change letter number rest ≡ delivered number (costs_from symbols rest)
  unfolding numbered_change
  numbered-deliver e = rw e

  pub numbered-withdraw : letter ≡ withdraw_letter → numbered_change letter number rest ≡ withdrawn number
  unfolding numbered_change
  numbered-withdraw e = rw e

  pub numbered-kept : (letter ≡ open_letter → ⊥) → (letter ≡ deliver_letter → ⊥) → (letter ≡ withdraw_letter → ⊥) → numbered_change letter number rest ≡ kept
  unfolding numbered_change
  numbered-kept o d u = rw (ne_eqb letter open_letter o, ne_eqb letter deliver_letter d, ne_eqb letter withdraw_letter u)

module _ (letter : ℕ) (arguments : List ℕ) where
  pub change-capture : letter ≡ capture_letter → change_of letter arguments ≡ renewed (open_capture_of arguments).book
  unfolding change_of
  change-capture e = rw (eq-eqb letter capture_letter e)

  pub change-short : (letter ≡ capture_letter → ⊥) → length arguments < 2 → change_of letter arguments ≡ kept
  unfolding change_of
  change-short n h = rw (ne_eqb letter capture_letter n, lt-ltb (length arguments) 2 h)

  pub change-numbered : {number : ℕ} → (letter ≡ capture_letter → ⊥) → 2 ≤ length arguments → number ≡ number_in arguments
      → change_of letter arguments ≡ numbered_change letter number (take (length arguments - 2) (drop 2 arguments))
  unfolding change_of
  change-numbered n h e =
      rw (ne_eqb letter capture_letter n, le-ltb (length arguments) 2 h)
      (ap₂ (numbered_change letter) (sym e)
      (sym (take_all (length arguments - 2) (drop 2 arguments) (omega (arith, length-drop 2 arguments)))))
