-- Three numbers, three more and the margin, one behind the other, five of them read from the report.
use mathlib.Core.Path.{◌≡◌, ap}
use mathlib.Core.List.{List, ◌++◌}
use Prim.Native.Nat.{ℕ}
use native.Mathlib.Omega.{arith}
use Rattle.text.specs.Text.{space, heading_of, number_line}
use Rattle.text.specs.Appended.{Appended, appended-as, appended-both}
use Rattle.text.proofs.put_heading.Goals as goal

-- a number that a call has read from the report
number-as : {before after : List ℕ} {at r n m : ℕ} (end : ℕ) → n ≡ m → Appended before at (number_line n end) r after
    → Appended before at (number_line m end) r after
number-as end e p = appended-as (ap (λ x. number_line x end) e) p

pub returns : goal.returns
unfolding heading_of
returns c =
    let cost = c.put_cost-after_total.ensures in
    let tests = c.put_number-after_tests.ensures in
    let pinned = c.put_number-after_pinned.ensures in
    let changed = c.put_number-after_changed.ensures in
    let margin = c.put_margin.ensures in
    let first =
    appended-as
    (ap (λ x. number_line c.args.rate space ++ number_line c.args.doubt space ++ number_line x space)
    c.total_in.ensures)
    cost.0
    in (
      appended-both
          (appended-both
          (appended-both
          (appended-both first (number-as space c.tests_in.ensures tests.0))
          (number-as space c.byte.ensures.0 pinned.0))
          (number-as space c.byte-2.ensures.0 changed.0))
          margin.0,
      omega (arith, cost.1, tests.1, pinned.1, changed.1, margin.1),
    )
