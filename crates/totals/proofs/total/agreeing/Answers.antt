-- `soft::total::agreeing` meets its contract.
use lib.ListN.{length}
use borrow.Author.Tests.{lt-ltb, le-ltb}
use Rattle.soft.specs.Total.{agree}
use Rattle.totals.proofs.total.agreeing.Goals as goal

pub returns-then-u-place : goal.returns-then-u-place
unfolding agree
returns-then-u-place c = simp (le-ltb c.args.place (length c.args.u.now) c.if-u-place.true)

pub returns-then-v-place : goal.returns-then-v-place
unfolding agree
returns-then-v-place c =
    simp (
      lt-ltb c.args.place (length c.args.u.now) c.if-u-place.false,
      le-ltb c.args.place (length c.args.v.now) c.if-v-place.true,
    )

pub returns : goal.returns
unfolding agree
returns c =
    let a = c.args in
    simp (
      lt-ltb a.place (length a.u.now) c.if-u-place.false,
      lt-ltb a.place (length a.v.now) c.if-v-place.false,
    )
