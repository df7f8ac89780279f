-- `show_bytes` meets its contract: the lines of the capture, of bytes.
use Rattle.show.specs.Shown.{shown-numbers}
use Rattle.show.proofs.show_bytes.Goals as goal

pub returns : goal.returns
returns c = (c.show_capture.ensures, shown-numbers _ c.bytes.ensures)
