-- `make_capture` meets its contract: it hands on what writing the session with the table answers.
use Rattle.captures.specs.Calls.{make_capture_of}
use Rattle.captures.proofs.make_capture.Goals as goal

pub returns : goal.returns
unfolding make_capture_of
returns c = c.write_opened.ensures.answers _ c.open_table.ensures
