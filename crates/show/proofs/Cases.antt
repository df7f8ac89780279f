-- The lines are those of the capture's book: of an accepted opening those of its closing, of a refused one its number.
use mathlib.Core.Path.{◌≡◌, ap, sym, ◌∙◌}
use mathlib.Core.List.{List}
use Prim.Native.Nat.{ℕ}
use Rattle.std.specs.Prelude.{Result, Ok, Err}
use Rattle.refusals.specs.Numbers.{number_in, number_of, never-accepted}
use Rattle.refusals.specs.declared.Refusal.{Refusal}
use Rattle.book64.specs.captures.CaptureOpening.{open_capture_of}
use Rattle.session.specs.declared.Session.{Session}
use Rattle.session.specs.View.{book_of}
use Rattle.session.specs.Calls.{ended, Opening}
use Rattle.text.specs.Text.{refused_line}
use Rattle.text.specs.Appended.{Appended, appended-as}
use Rattle.show.specs.Shown.{closed_lines, shown_of}
use Rattle.show.proofs.Showing.{opened-refused, opened-accepted, closed-alike}

pub accepted_shown : (bytes before after : List ℕ) (r : ℕ) (answer : Result Unit Refusal) (left : Session)
    → Opening (open_capture_of bytes) (ended answer left) → answer ≡ Ok tt → Appended before 0 (closed_lines (book_of left)) r after
    → Appended before 0 (shown_of bytes) r after
unfolding shown_of
accepted_shown bytes before after r answer left opened e shown =
    appended-as (closed-alike opened.book ∙ sym (opened-accepted (open_capture_of bytes) (sym opened.number ∙ ap number_of e))) shown

pub refused_shown : (bytes before after : List ℕ) (r n : ℕ) (answer : Result Unit Refusal) (left : Session) (refusal : Refusal)
    → Opening (open_capture_of bytes) (ended answer left) → answer ≡ Err refusal → n ≡ number_in refusal → Appended before 0 (refused_line n) r after
    → Appended before 0 (shown_of bytes) r after
unfolding shown_of
refused_shown bytes before after r n answer left refusal opened e told shown =
    let number = sym (ap number_of e) ∙ opened.number in
    appended-as
    (ap refused_line (told ∙ number) ∙ sym (opened-refused (open_capture_of bytes) (λ a. never-accepted refusal (number ∙ a)))) shown
