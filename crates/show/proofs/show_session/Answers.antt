-- A known rate is at most 64, so the message has room, and it starts as zeros.
use mathlib.Core.Path.{sym}
use lib.ListN.{replicate}
use lib.Seq.{length-take-le}
use Rattle.show.proofs.Showing.{known-short, zeros-take}
use Rattle.show.proofs.show_session.Goals as goal

pub slice_bounds-space-end : goal.slice_bounds-space-end
slice_bounds-space-end c = known-short c.args.opened.rate c.requires.0.rate_known

pub slice_bounds-show_closed-end : goal.slice_bounds-show_closed-end
slice_bounds-show_closed-end c =
    sym (length-take-le c.args.opened.rate (replicate 64 0) (known-short c.args.opened.rate c.requires.0.rate_known))

pub show_closed-requires : goal.show_closed-requires
show_closed-requires c =
    let short = known-short c.args.opened.rate c.requires.0.rate_known in
    (c.requires.0, zeros-take c.args.opened.rate 64 short, short, c.requires.1)
