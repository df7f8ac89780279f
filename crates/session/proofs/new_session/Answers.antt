-- `session::new_session` meets its contract, by what the padded list is.
use mathlib.Core.Bool.{false}
use lib.ListN.{length, replicate}
use Rattle.session.specs.View.{new_session}
use Rattle.session.proofs.new_session.Goals as goal

pub returns : goal.returns
unfolding new_session
returns c =
    λ i. record {
      rate = c.args.rate;
      doubt = length c.args.list.now;
      doubtful = c.padded-doubtful.ensures i;
      taken = replicate 64 false;
      costs = replicate 1024 0;
    }
