use Rattle.std.proofs.Common.{map}
use Rattle.std.proofs.lemmas.Result.{err_from_is_err_and}
use Rattle.kf_value.specs.Views.{value_tree}
use Rattle.kf_ops.specs.Values.{applied}
use Rattle.kf_eval.proofs.Checking.{fault_of_op}
use Rattle.kf_eval.proofs.evaluation.apply_row.Goals as goal

pub returns-in_err-apply : goal.returns-in_err-apply
returns-in_err-apply c = λ r here.
    let p = err_from_is_err_and c.from_residual.result c.from_residual.ensures.1 in
    rw (p.1, p.2) (fault_of_op (applied r.code (map value_tree c.args.values.now)) c.in_err-apply.field-0.0 (c.in_err-apply.ensures.value r here))
