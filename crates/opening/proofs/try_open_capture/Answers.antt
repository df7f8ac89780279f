-- `opening::try_open_capture` meets its contract: each return is a case of opening a capture, and the tests on the way say which.
use mathlib.Core.Path.{◌≡◌, refl, sym, ap, ◌∙◌, subst}
use mathlib.Core.List.{List}
use Prim.Native.Nat.{ℕ, ◌+◌, ◌*◌, ◌-◌}
use native.Mathlib.Omega.{arith}
use borrow.Author.Rules.{rules}
use lib.ListN.{length, take, drop}
use Rattle.book64.specs.captures.Capture.{body_length, record_length, records_of}
use Rattle.book64.specs.captures.CaptureOpening.{rate_in, doubt_in, length_in, open_capture_of}
use Rattle.book64.specs.Here.{places, deliver_row}
use Rattle.refusals.specs.Numbers.{never-accepted}
use Rattle.session.specs.View.{book_of, Good}
use Rattle.std.specs.Prelude.{Ok, Err}
use Rattle.session.specs.Calls.{Ending, started, refused_with, opened_of, Opening}
use Rattle.session.specs.Laws.{opening-as, opened-refused, opens}
use Rattle.capture.specs.Rest.{rest-length}
use Rattle.opening.proofs.Checked.{too_short, too_long, other-version, other-total, other-doubt, opening-refused, opening-misfit, delivering}
use Rattle.opening.proofs.try_open_capture.Goals as goal

told-total : {told length size : ℕ} → told ≡ length → told + 3 ≡ size → length + 3 ≡ size
told-total n e = ap (λ k. k + 3) (sym n) ∙ e

pub returns-then-bytes-lt-LEAST_BYTES : goal.returns-then-bytes-lt-LEAST_BYTES
unfolding refused_with
returns-then-bytes-lt-LEAST_BYTES c = (too_short _ c.if-bytes-lt-LEAST_BYTES.true)

pub returns-then-bytes-gt-MOST_BYTES : goal.returns-then-bytes-gt-MOST_BYTES
unfolding refused_with
returns-then-bytes-gt-MOST_BYTES c = (too_long _ c.if-bytes-gt-MOST_BYTES.true)

pub returns-then-not-is_version : goal.returns-then-not-is_version
unfolding refused_with
returns-then-not-is_version c =
    (other-version _ c.if-bytes-lt-LEAST_BYTES.false c.if-bytes-gt-MOST_BYTES.false (sym c.is_version.ensures ∙ c.if-not-is_version.true))

pub overflow_cast-doubt : goal.overflow_cast-doubt
overflow_cast-doubt c = omega (arith, c.type_inv.bytes 4)

pub returns-then-length-bytes : goal.returns-then-length-bytes
unfolding refused_with
returns-then-length-bytes c =
    let n : c.from_be_bytes-length.result ≡ length_in c.args.bytes.now = omega (arith, c.from_be_bytes-length.ensures) in
    (other-total _ c.if-bytes-lt-LEAST_BYTES.false c.if-bytes-gt-MOST_BYTES.false (sym c.is_version.ensures ∙ c.if-not-is_version.false) (λ q. c.if-length-bytes.true (ap (λ k. k + 3) n ∙ q)))

pub overflow_add-doubt : goal.overflow_add-doubt
overflow_add-doubt c = omega (arith, c.type_inv.bytes 4)

pub returns-then-length-doubt : goal.returns-then-length-doubt
unfolding refused_with
returns-then-length-doubt c =
    let n : c.from_be_bytes-length.result ≡ length_in c.args.bytes.now = omega (arith, c.from_be_bytes-length.ensures) in
    (other-doubt _ c.if-bytes-lt-LEAST_BYTES.false c.if-bytes-gt-MOST_BYTES.false (sym c.is_version.ensures ∙ c.if-not-is_version.false) (λ q. c.if-length-doubt.true (n ∙ q)))

pub overflow_cast-bytes : goal.overflow_cast-bytes
overflow_cast-bytes c = omega (arith, c.type_inv.bytes 3)

pub returns-in_err-opened : goal.returns-in_err-opened
returns-in_err-opened c =
    let bytes : List ℕ = c.args.bytes.now in
    let n : c.from_be_bytes-length.result ≡ length_in bytes = omega (arith, c.from_be_bytes-length.ensures) in
    let list : List ℕ = take (5 + doubt_in bytes - 5) (drop 5 bytes) in
    let e : started (Err c.in_err-opened.field-0.0) ≡ opened_of (rate_in bytes) list = grind arith in
    let same : c.from_residual.result ≡ Err c.in_err-opened.field-0.0 = search rules in
    let number = ap (λ (o : Ending). o.refusal) e in
    opening-as (ap started same ∙ e)
    (subst (λ (o : Ending). Opening (open_capture_of bytes) o) (opened-refused _ _ (λ n. never-accepted _ (number ∙ n)))
    (opening-refused bytes c.if-bytes-lt-LEAST_BYTES.false c.if-bytes-gt-MOST_BYTES.false (sym c.is_version.ensures ∙ c.if-not-is_version.false) (told-total n c.if-length-bytes.false) (sym n ∙ c.if-length-doubt.false)
    list refl (λ n. never-accepted _ (number ∙ n))))

pub returns-then-version-suited : goal.returns-then-version-suited
unfolding refused_with
returns-then-version-suited c =
    let bytes : List ℕ = c.args.bytes.now in
    let n : c.from_be_bytes-length.result ≡ length_in bytes = omega (arith, c.from_be_bytes-length.ensures) in
    let list : List ℕ = take (5 + doubt_in bytes - 5) (drop 5 bytes) in
    let e : started (Ok c.in_ok-opened.opened) ≡ opened_of (rate_in bytes) list = grind arith in
    (opening-misfit bytes c.if-bytes-lt-LEAST_BYTES.false c.if-bytes-gt-MOST_BYTES.false (sym c.is_version.ensures ∙ c.if-not-is_version.false) (told-total n c.if-length-bytes.false) (sym n ∙ c.if-length-doubt.false)
    list refl (sym (ap (λ (o : Ending). o.refusal) e)) (λ q. c.if-version-suited.true (q ∙ sym c.version_of-suited.ensures)))

pub deliver_records-requires : goal.deliver_records-requires
deliver_records-requires c =
    let bytes : List ℕ = c.args.bytes.now in
    let n : c.from_be_bytes-length.result ≡ length_in bytes = omega (arith, c.from_be_bytes-length.ensures) in
    let list : List ℕ = take (5 + doubt_in bytes - 5) (drop 5 bytes) in
    let total : length_in bytes + 3 ≡ length bytes = told-total n c.if-length-bytes.false in
    let body : length_in bytes ≡ body_length (doubt_in bytes) = sym n ∙ c.if-length-doubt.false in
    let e : started (Ok c.in_ok-opened.opened) ≡ opened_of (rate_in bytes) list = grind arith in (
      subst (λ (o : Ending). Good o.session) (sym e) (opens (rate_in bytes) list).good,
      rest-length (5 + doubt_in bytes) (record_length * places) bytes (omega arith),
    )

pub returns : goal.returns
returns c =
    let bytes : List ℕ = c.args.bytes.now in
    let n : c.from_be_bytes-length.result ≡ length_in bytes = omega (arith, c.from_be_bytes-length.ensures) in
    let list : List ℕ = take (5 + doubt_in bytes - 5) (drop 5 bytes) in
    let e : started (Ok c.in_ok-opened.opened) ≡ opened_of (rate_in bytes) list = grind arith in
    let rest : List ℕ = take (length bytes - (5 + doubt_in bytes)) (drop (5 + doubt_in bytes) bytes) in
    let made : Ending = started c.deliver_records.result in
    delivering bytes c.if-bytes-lt-LEAST_BYTES.false c.if-bytes-gt-MOST_BYTES.false (sym c.is_version.ensures ∙ c.if-not-is_version.false) (told-total n c.if-length-bytes.false) (sym n ∙ c.if-length-doubt.false)
    list refl rest made (sym (ap (λ (o : Ending). o.refusal) e)) (c.if-version-suited.false ∙ c.version_of-suited.ensures) refl
    (subst (λ (o : Ending). Opening (deliver_row (book_of o.session) (records_of places rest)) made) e
    c.deliver_records.ensures)
