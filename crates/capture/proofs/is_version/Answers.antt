-- `capture::is_version` meets its contract, by its two tests.
use borrow.Author.Tests.{eq-eqb, ne_eqb}
use Rattle.book64.specs.captures.Capture.{first_version, is_version}
use Rattle.capture.proofs.is_version.Goals as goal

pub returns-then-version-eq-FIRST_VERSION : goal.returns-then-version-eq-FIRST_VERSION
unfolding is_version
returns-then-version-eq-FIRST_VERSION c = rw (eq-eqb c.args.version first_version c.if-version-eq-FIRST_VERSION.true)

pub returns : goal.returns
unfolding is_version
returns c = rw (ne_eqb c.args.version first_version c.if-version-eq-FIRST_VERSION.false)
