-- `step` meets its contract: each arm makes the call of its kind.
use Rattle.runs.proofs.Arms.{by_delivery, by-reading, by-writing, by_closing, by_withdrawal}
use Rattle.runs.proofs.step.Goals as goal

pub returns-in-Deliver : goal.returns-in-Deliver
returns-in-Deliver c = by_delivery c.in-Deliver.is c.make_delivery.ensures

pub returns-in-Read : goal.returns-in-Read
returns-in-Read c = by-reading c.in-Read.is c.make_reading.ensures

pub returns-in-Write : goal.returns-in-Write
returns-in-Write c = by-writing c.in-Write.is c.make_writing.ensures

pub returns-in-Close : goal.returns-in-Close
returns-in-Close c =
    by_closing c.in-Close.is
    c.make_closing.ensures

pub returns-in-Withdraw : goal.returns-in-Withdraw
returns-in-Withdraw c = by_withdrawal c.in-Withdraw.is c.make_withdrawal.ensures
