-- `write_again` meets its contract: what opening and writing ensure, of bytes.
use borrow.Author.Rules.{rules}
use Rattle.session.specs.Calls.{ended}
use Rattle.promises.specs.Told.{by_opening}
use Rattle.promises.proofs.write_again.Goals as goal

pub returns : goal.returns
returns c =
    let o = c.open_capture-opened.result in
    by_opening {o = ended o.answer o.session} c.open_capture-opened.ensures c.write_capture.ensures (search rules)
