-- `writing::write_capture` meets its contract: each refusal is a case of writing; else the head and the records make up the capture.
use borrow.Author.Rules.{rules}
use mathlib.Core.Bool.{true}
use mathlib.Core.Path.{◌≡◌, sym, ap, ap₂, ◌∙◌}
use mathlib.Core.List.{List, ◌++◌}
use Prim.Native.Nat.{ℕ, ◌+◌}
use native.Mathlib.Omega.{arith}
use lib.ListN.{length, drop, length-append, length-drop}
use lib.Seq.{length-take-le}
use Rattle.session.specs.View.{all_taken}
use Rattle.capture.specs.Rest.{rest-length}
use Rattle.writing.proofs.Parts.{both-parts}
use Rattle.writing.proofs.Written.{writing-missing, writing-accepted}
use Rattle.writing.proofs.write_capture.Goals as goal

pub returns-then-not-all_taken : goal.returns-then-not-all_taken
returns-then-not-all_taken c =
    writing-missing c.args.session _ c.if-out-doubt.false cc

pub slice_bounds-write_head-end-2 : goal.slice_bounds-write_head-end-2
slice_bounds-write_head-end-2 c =
    let a = c.args in
    sym (length-take-le (5 + a.session.doubt) a.out.now (omega arith))

pub write_head-requires : goal.write_head-requires
write_head-requires c =
    let a = c.args in
    (omega arith, length-take-le (5 + a.session.doubt) a.out.now (omega arith))

pub write_records-requires : goal.write_records-requires
write_records-requires c =
    let a = c.args in
    let start : ℕ = 5 + a.session.doubt in
    let out : List ℕ = a.out.now in
    let sized : length out ≡ 2117 + a.session.doubt = c.if-out-doubt.false in
    let head : List ℕ = c.write_head.new.out in
    let n : length head ≡ start = c.write_head.auto.out ∙ length-take-le start out (omega arith) in (
      search rules,
      rest-length start 2112 (head ++ drop start out)
          (length-append head (drop start out) ∙ omega (arith, length-drop start out)),
    )

pub returns : goal.returns
returns c =
    let a = c.args in
    let start : ℕ = 5 + a.session.doubt in
    let out : List ℕ = a.out.now in
    let sized : length out ≡ 2117 + a.session.doubt = c.if-out-doubt.false in
    let head : List ℕ = c.write_head.new.out in
    let n : length head ≡ start = c.write_head.auto.out ∙ length-take-le start out (omega arith) in
    let rest : List ℕ = c.write_records.new.out in
    let m : length rest ≡ 2112 =
    c.write_records.auto.out
    ∙ rest-length start 2112 (head ++ drop start out)
    (length-append head (drop start out) ∙ omega (arith, length-drop start out)) in
    let whole = both-parts out head rest start n (omega arith) in
    let long : length (head ++ rest) ≡ length out = length-append head rest ∙ omega arith in
    let taken : all_taken a.session.taken ≡ true = cc in
    writing-accepted a.session out sized _ (ap length whole ∙ long) taken
    (whole ∙ ap₂ (λ (x y : List ℕ). x ++ y) c.write_head.ensures c.write_records.ensures)
