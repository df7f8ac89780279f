-- The digits stand behind the text, one more at each turn.
use mathlib.Core.Path.{◌∙◌, sym}
use Prim.Native.Nat.{ℕ}
use lib.ListN.{length-map}
use mathlib.Core.List.{List, map}
use native.Mathlib.Omega.{arith}
use Rattle.text.specs.Text.{hex_of}
use Rattle.text.proofs.Put.{putting-start, putting-turn, putting-whole, putting-room, putting-length, mapped_at}
use Rattle.text.proofs.put_digits.Goals as goal

pub loop-i-init : goal.loop-i-init
loop-i-init c =
    putting-start c.args.out.now c.args.at (map hex_of c.args.symbols.now)
    (omega (arith, length-map c.args.symbols.now hex_of))

pub bounds-out-at : goal.bounds-out-at
bounds-out-at c =
    putting-room c.loop-i.invariant
    (omega (arith, length-map c.args.symbols.now hex_of))

pub loop-i-preserved : goal.loop-i-preserved
loop-i-preserved c =
    let symbols : List ℕ = c.args.symbols.now in
    putting-turn c.loop-i.invariant (omega (arith, length-map symbols hex_of))
    (c.hex_digit.ensures ∙ sym (mapped_at hex_of symbols c.loop-i.i c.loop-i-test.true))

pub shape_of-out : goal.shape_of-out
shape_of-out c = putting-length c.loop-i.invariant

pub returns : goal.returns
returns c =
    putting-whole c.loop-i.invariant (omega (arith, length-map c.args.symbols.now hex_of))
    (sym (length-map c.args.symbols.now hex_of))
