-- `decode_costs` meets its contract: the places picked from the columns are such as the search may be asked for, and they are the list.
use native.Mathlib.Omega.{arith}
use Rattle.doubt.specs.Picked.{picked-in}
use Rattle.table_decoding.specs.Costs.{costs-askable, costs-decoded}
use Rattle.table_decoding.proofs.decode_costs.Goals as goal

pub decode-requires : goal.decode-requires
decode-requires c =
    let r = c.requires in (
      record {
        askable = costs-askable _ (omega arith) _ _ (picked-in (c.doubtful_by-picked.ensures _ c.summary_of-summary.ensures)) r.0 r.1;
        message_long = r.3;
        report_long = r.4;
      },
      c.summary_of-summary.ensures,
    )

pub returns : goal.returns
returns c = costs-decoded _ c.requires.2 _ _ (picked-in (c.doubtful_by-picked.ensures _ c.summary_of-summary.ensures)) _ _ c.decode.ensures
