use Rattle.std.proofs.Common.{map, arith}
use Rattle.std.proofs.lemmas.List.{length-map}
use Rattle.kf_core.specs.Views.{ex_tree}
use Rattle.kf_eval.proofs.TotalRows.{few_arguments, many_arguments}
use Rattle.kf_eval.proofs.sureness.has_divisor.Goals as goal

pub returns-in_default : goal.returns-in_default
returns-in_default c = few_arguments (map ex_tree c.args.args.now) (omega (arith, length-map c.args.args.now ex_tree, c.in_default.len_below))

pub returns-in_default-2 : goal.returns-in_default-2
returns-in_default-2 c = many_arguments (map ex_tree c.args.args.now) (omega (arith, length-map c.args.args.now ex_tree, c.in_default.len_at_least))
