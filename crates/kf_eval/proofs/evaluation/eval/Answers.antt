use Rattle.std.proofs.Common.{Ok}
use Rattle.kf_value.specs.Shapes.{shape_types}
use Rattle.kf_core.specs.Runs.{store_at}
use Rattle.kf_core.specs.Evaluation.{ev}
use Rattle.kf_core.specs.Views.{ex_tree}
use Rattle.kf_eval.specs.Answers.{Answers}
use Rattle.kf_eval.specs.Kinds.{shape_kinds}
use Rattle.kf_eval.proofs.Checking.{at_store, answer_kind, store_kinds}
use Rattle.kf_eval.proofs.evaluation.eval.Goals as goal

pub returns-in-Some-clause-kind : goal.returns-in-Some-clause-kind
returns-in-Some-clause-kind c = λ k kinded.
    let are = store_kinds c.evaluation_laws.ensures.stores c.args.shape.now c.args.store c.requires.store in
    answer_kind c.evaluation_laws.ensures.kinds (shape_kinds c.args.shape.now) (store_at (shape_types c.args.shape.now) c.args.store) are (ex_tree c.args.e.now) k (Ok c.in-Some.value) kinded
    c.in-Some.ensures

pub returns-in-None-clause-value : goal.returns-in-None-clause-value
returns-in-None-clause-value c = λ s is. at_store c.args.shape.now c.args.store s is (λ t. Answers c.value_of.result (ev t (ex_tree c.args.e.now))) c.value_of.ensures

pub returns-in-None-clause-kind : goal.returns-in-None-clause-kind
returns-in-None-clause-kind c = λ k kinded.
    let are = store_kinds c.evaluation_laws.ensures.stores c.args.shape.now c.args.store c.requires.store in
    answer_kind c.evaluation_laws.ensures.kinds (shape_kinds c.args.shape.now) (store_at (shape_types c.args.shape.now) c.args.store) are (ex_tree c.args.e.now) k c.value_of.result kinded
    c.value_of.ensures
