use mathlib.Core.Path.{◌≡◌}
use Prim.Native.Nat.{◌+◌, ◌-◌, ◌*◌, ◌≤◌}
use lib.ListN.{drop}
use Rattle.book64.specs.captures.LookUp.{record_with}
use Rattle.book64.specs.Here.{places}
use Rattle.look_up.proofs.record_of.Given as goal

abbrev pub invariant-loop-i : goal.invariant-loop-i
invariant-loop-i l = (l.i ≤ 64) × (record_with l.place places l.records ≡ l.i + record_with l.place (64 - l.i) (drop (33 * l.i) l.records))
