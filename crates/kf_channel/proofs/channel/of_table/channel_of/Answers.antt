use Rattle.std.proofs.Common.{List, map, sym, subst}
use Rattle.kf_value.specs.Targets.{Item}
use Rattle.kf_value.specs.Numbers.{target_size}
use Rattle.kf_column.specs.Columns.{IsColumn}
use Rattle.kf_hyper.specs.Tables.{table_row}
use Rattle.kf_channel.specs.Shapes.{IsChannel}
use Rattle.kf_channel.proofs.Secrets.{channel_made, are_secrets}
use Rattle.kf_channel.proofs.channel.of_table.channel_of.Goals as goal

pub invariant_of-result : goal.invariant_of-result
invariant_of-result c = record {
  channel = subst (λ (items : List Item). IsChannel (target_size items) (map table_row c.in_ok-copy-2.field-0) c.in_ok-average.field-0) (sym c.in_ok-copy.ensures)
      (channel_made _ _ _ _ c.args.t.now.table (subst IsColumn c.drop-2.view_is c.drop-2.invariant) c.in_ok-average.ensures.weights (map table_row c.in_ok-copy-2.field-0) c.in_ok-copy-2.ensures c.in_ok-average.ensures.total c.in_ok-average.ensures.below);
}

pub returns-clause-secrets : goal.returns-clause-secrets
returns-clause-secrets c = are_secrets _ _ _ _ c.args.t.now.table (subst IsColumn c.drop-2.view_is c.drop-2.invariant) c.in_ok-average.ensures.weights
