use mathlib.Core.Path.{◌≡◌}
use Prim.Native.Nat.{◌≤◌}
use lib.ListN.{length, drop}
use Rattle.book64.specs.Here.{fit_places}
use Rattle.book64.specs.Modem64.{modem64}
use Rattle.calls.specs.Scan.{fits_from}
use Rattle.session.proofs.fit_places.Given as goal

abbrev pub invariant-loop-i : goal.invariant-loop-i
invariant-loop-i l = (l.i ≤ length l.list) × (fit_places l.list ≡ fits_from modem64 l.least (drop l.i l.list))
