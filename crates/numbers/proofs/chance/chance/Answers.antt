-- `numbers::chance::chance` meets its contract: each entry of the table is the largest power, by one computation over all rates.
use Rattle.lists.specs.Every.{every}
use Rattle.near.specs.Near as Near
use Rattle.hermitian.specs.Present.{genus}
use Rattle.numbers.specs.Chance.{choose, within}
use Rattle.numbers.specs.declared.chance.TheConstants.{POWERS_OF_TEN}
use Rattle.numbers.proofs.Powers.{greatest, from-table}
use Rattle.numbers.proofs.chance.chance.Goals as goal

pub returns : goal.returns
unfolding every greatest choose within Near.reach_of Near.blank_limit Near.m_of genus
returns c = from-table POWERS_OF_TEN tt c.args.rate.ranged
