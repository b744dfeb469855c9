use Rattle.std.proofs.Common.{◌∙◌}
use Rattle.kf_ops.specs.Views.{rows_of, row_of}
use Rattle.kf_ops.specs.Table.{has_word}
use Rattle.kf_ops.proofs.First.{placed}
use Rattle.kf_ops.proofs.Mapped.{position-map}
use Rattle.kf_ops.proofs.lookup.find.Goals as goal

pub returns : goal.returns
returns c =
    let place = c.position_of.ensures ∙ position-map (has_word c.args.word.now) row_of c.args.table.now in
    record {
      exact = placed (rows_of c.args.table.now) c.args.word.now c.position_of.result place;
      computed = place;
    }
