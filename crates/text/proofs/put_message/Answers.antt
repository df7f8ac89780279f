-- The digits, and then the end of the line.
use native.Mathlib.Omega.{arith}
use lib.ListN.{length-map}
use Rattle.text.specs.Text.{hex_of, message_line}
use Rattle.text.specs.Appended.{appended-both}
use Rattle.text.proofs.put_message.Goals as goal

pub put_bytes-requires : goal.put_bytes-requires
put_bytes-requires c =
    omega (arith, c.put_digits-after.ensures.end, c.put_digits-after.ensures.room, length-map c.args.message.now hex_of)

pub returns : goal.returns
unfolding message_line
returns c = appended-both c.put_digits-after.ensures c.put_bytes.ensures
