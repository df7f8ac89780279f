-- A place is stored if it is chosen and there is room; without room, storing changes nothing.
use mathlib.Core.Path.{sym}
use native.Mathlib.Omega.{arith}
use lib.Seq.{set_out}
use Rattle.doubt.proofs.with_place.Goals as goal

pub returns-then-at-lt-MOST_DOUBT : goal.returns-then-at-lt-MOST_DOUBT
returns-then-at-lt-MOST_DOUBT c = simp c.if-chosen.true

pub returns-else-at-lt-MOST_DOUBT : goal.returns-else-at-lt-MOST_DOUBT
returns-else-at-lt-MOST_DOUBT c =
    let a = c.args in
    simp c.if-chosen.true (sym (set_out a.list.now a.at a.place (omega (arith, c.told-list))))

pub returns-else-chosen : goal.returns-else-chosen
returns-else-chosen c = simp c.if-chosen.false
