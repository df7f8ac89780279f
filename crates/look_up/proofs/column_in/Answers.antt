-- `look_up::column_in` meets its contract: the record of the place is there, and the part lies within the capture.
use Rattle.look_up.proofs.Found.{found-in, part-found}
use Rattle.look_up.proofs.column_in.Goals as goal

pub returns : goal.returns
returns c = part-found c.args.capture.now c.args.place c.record_of.result c.requires.0 c.requires.1 (found-in c.args.capture.now c.args.place c.record_of.ensures)
