use Rattle.std.proofs.Common.{refl, map, sym, ap, subst, ◌∙◌}
use Rattle.std.proofs.lemmas.Result.{err_from_is_err_and}
use Rattle.kf_value.specs.Kinds.{SetKind}
use Rattle.kf_value.specs.Views.{value_tree}
use Rattle.kf_value.specs.Values.{elements}
use Rattle.kf_value.specs.Shapes.{shape_types}
use Rattle.kf_core.specs.Runs.{store_at}
use Rattle.kf_core.specs.Choices.{Chosen, once, some_of, with_value}
use Rattle.kf_core.specs.Evaluation.{Evaluated, ev}
use Rattle.kf_core.specs.Views.{ex_tree}
use Rattle.kf_eval.specs.Gathering.{AnswersWeights}
use Rattle.kf_core.proofs.Stores.{store_is}
use Rattle.kf_eval.proofs.Weighing.{fault_on, finished, set_ascends, set_chosen}
use Rattle.kf_eval.proofs.weights.uniform_set.Goals as goal

pub returns-in_err-elements : goal.returns-in_err-elements
returns-in_err-elements c =
    let s = store_at (shape_types c.args.shape.now) c.args.store in
    let p = err_from_is_err_and c.from_residual.result c.from_residual.ensures.1 in
    rw (p.1, p.2)
    (fault_on (λ (e : Evaluated). finished (with_value e (λ v. some_of (map once (elements v))))) (λ f. refl) (ev s (ex_tree c.args.x.now)) c.in_err-elements.field-0.0
    (c.in_err-elements.ensures.value s (store_is (shape_types c.args.shape.now) c.args.store c.requires.store)))

pub each_once-requires : goal.each_once-requires
each_once-requires c =
    let formed = (c.in_ok-elements.ensures.kind (SetKind c.requires.kinded.0) c.requires.kinded.1).1 in
    rw (c.as_slice.ensures) (set_ascends c.in_ok-elements.field-0 c.in-Set.elements c.in-Set.is formed)

pub returns : goal.returns
returns c =
    let s = store_at (shape_types c.args.shape.now) c.args.store in
    let is = set_chosen c.in_ok-elements.field-0 c.in-Set.elements c.in-Set.is s (ex_tree c.args.x.now)
    (c.in_ok-elements.ensures.value s (store_is (shape_types c.args.shape.now) c.args.store c.requires.store)) in
    let listed = is ∙ ap (λ vs. finished (some_of (map once (map value_tree vs)))) (sym c.as_slice.ensures) in
    subst (λ (r : Chosen). AnswersWeights c.each_once.result r) (sym listed) c.each_once.ensures
