-- `sort_capture` meets its contract: it hands on what writing the opened capture answers.
use Rattle.captures.specs.Calls.{sort_capture_of}
use Rattle.captures.proofs.sort_capture.Goals as goal

pub returns : goal.returns
unfolding sort_capture_of
returns c = c.write_opened.ensures.answers _ c.try_open_capture.ensures
