use Rattle.kf_value.specs.Views.{kind_tree}
use Rattle.kf_check.specs.Views.{known_in}
use Rattle.kf_check.proofs.ExprNodes.{ex_tree-Slot}
use Rattle.kf_check.proofs.ExprRules.{variable_found, variable_unknown}
use Rattle.kf_check.proofs.exprs.variable.Goals as goal

pub returns-in_ok-copy-in-Some : goal.returns-in_ok-copy-in-Some
returns-in_ok-copy-in-Some c = λ at.
    rw (ex_tree-Slot c.in-Some.place, c.in_ok-copy-in-Some.ensures) (variable_found (known_in c.args.known.now) c.args.name.now c.as_str.result.now c.as_str.ensures at c.in-Some.place (kind_tree c.in-Some.kind.now) c.in-Some.ensures)

pub returns-in-None : goal.returns-in-None
returns-in-None c = λ at other. variable_unknown (known_in c.args.known.now) c.args.name.now c.as_str.result.now c.as_str.ensures at c.in-None.ensures
