use Rattle.std.proofs.Common.{map}
use Rattle.std.proofs.lemmas.Option.{slice_get_within}
use Rattle.kf_value.specs.Views.{value_tree}
use Rattle.kf_ops.specs.Rows.{operators}
use Rattle.kf_ops.proofs.Applying.{some_few, all_formed, answer_fits}
use Rattle.kf_ops.proofs.values.apply.Goals as goal

pub operator_at-requires : goal.operator_at-requires
operator_at-requires c = slice_get_within operators c.args.row c.requires.row c.requires.here

pub applied_to-requires-clause-some : goal.applied_to-requires-clause-some
applied_to-requires-clause-some c = (some_few c.args.row c.args.args.now c.requires).0

pub applied_to-requires-clause-few : goal.applied_to-requires-clause-few
applied_to-requires-clause-few c = (some_few c.args.row c.args.args.now c.requires).1

pub applied_to-requires-clause-formed : goal.applied_to-requires-clause-formed
applied_to-requires-clause-formed c = all_formed c.args.row c.args.args.now c.requires

pub returns-clause-kind : goal.returns-clause-kind
returns-clause-kind c =
    answer_fits c.args.row c.operator_at.result (map value_tree c.args.args.now) c.applied_to.result c.operator_at.ensures c.applied_to.ensures.value
