use Rattle.std.proofs.Common.{rules, tests}
use Rattle.std.specs.Ordering.{is_lt}
use Rattle.std.proofs.lemmas.List.Sorted.{answers_always}
use Rattle.kf_value.specs.Values.{order}
use Rattle.kf_value.specs.Views.{value_tree}
use Rattle.kf_value.specs.declared.value.Value.{Value}
use Rattle.kf_eval.proofs.Inserting.{adjacent_set}
use Rattle.kf_eval.proofs.sets.ascend.Goals as goal

pub returns : goal.returns
returns c =
    adjacent_set c.args.values.now c.is_sorted_by.result
    (c.is_sorted_by.ensures.cases (λ (x y : Value). is_lt (order (value_tree x) (value_tree y))) (answers_always _ _ _ (λ f a r g called. search (rules, tests))))
