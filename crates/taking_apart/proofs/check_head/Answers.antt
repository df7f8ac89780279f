-- The first check of the head that fails.
use mathlib.Core.Path.{sym}
use mathlib.Core.Logic.{inl, inr}
use Rattle.superframe.specs.Checks.{head-total, head-version, head-length, head-right}
use Rattle.taking_apart.proofs.check_head.Goals as goal

pub returns-then-frame-ne-FRAME_BYTES : goal.returns-then-frame-ne-FRAME_BYTES
returns-then-frame-ne-FRAME_BYTES c = sym (head-total _ c.if-frame-ne-FRAME_BYTES.true)

pub returns-then-frame-ne-VERSION : goal.returns-then-frame-ne-VERSION
returns-then-frame-ne-VERSION c = sym (head-version _ c.if-frame-ne-FRAME_BYTES.false c.if-frame-ne-VERSION.true)

pub returns-then-frame-ne-LENGTH_HIGH : goal.returns-then-frame-ne-LENGTH_HIGH
returns-then-frame-ne-LENGTH_HIGH c = sym (head-length _ c.if-frame-ne-FRAME_BYTES.false c.if-frame-ne-VERSION.false (inl c.if-frame-ne-LENGTH_HIGH.true))

pub returns-then-frame-ne-LENGTH_LOW : goal.returns-then-frame-ne-LENGTH_LOW
returns-then-frame-ne-LENGTH_LOW c = sym (head-length _ c.if-frame-ne-FRAME_BYTES.false c.if-frame-ne-VERSION.false (inr c.if-frame-ne-LENGTH_LOW.true))

pub returns : goal.returns
returns c =
    sym
    (head-right _
    (record {
      long = c.if-frame-ne-FRAME_BYTES.false;
      version_byte = c.if-frame-ne-VERSION.false;
      high_byte = c.if-frame-ne-LENGTH_HIGH.false;
      low_byte = c.if-frame-ne-LENGTH_LOW.false;
    }))
