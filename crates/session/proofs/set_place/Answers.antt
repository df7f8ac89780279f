-- `session::set_place` meets its contract: a part of the table that is written is the table with that part pasted in.
use borrow.Author.Rules.{rules}
use mathlib.Core.List.{List}
use mathlib.Core.Path.{◌≡◌, sym}
use Prim.Native.Nat.{ℕ, ◌*◌}
use native.Mathlib.Omega.{arith}
use lib.ListN.{length, set}
use Rattle.lists.specs.Block.{put_block}
use Rattle.std.proofs.lemmas.Slice.{put_mid-paste}
use Rattle.session.specs.View.{with_place}
use Rattle.session.proofs.set_place.Goals as goal

pub returns : goal.returns
unfolding put_block with_place
returns c =
    let s = c.args.session.now in
    let l : length c.args.column ≡ 16 = search rules in
    let costs = put_mid-paste (16 * c.args.place) _ s.costs _ c.args.column 16 c.copy_from_slice.ensures.after (omega arith) (sym l) in
    λ i. record {
      rate = s.rate;
      doubt = s.doubt;
      doubtful = s.doubtful;
      taken = set s.taken c.args.place c.args.flag;
      costs = costs i;
    }
