-- `capture::version_of` meets its contract, by its test.
use mathlib.Core.Path.{sym}
use Rattle.book64.specs.captures.Versions.{version-one, version-two}
use Rattle.capture.proofs.version_of.Goals as goal

pub returns-then-doubt-gt-MOST_IN_FIRST_VERSION : goal.returns-then-doubt-gt-MOST_IN_FIRST_VERSION
returns-then-doubt-gt-MOST_IN_FIRST_VERSION c = sym (version-two c.args.doubt c.if-doubt-gt-MOST_IN_FIRST_VERSION.true)

pub returns : goal.returns
returns c = sym (version-one c.args.doubt c.if-doubt-gt-MOST_IN_FIRST_VERSION.false)
