use Rattle.std.proofs.Common.{◌<◌, ap, ◌∙◌}
use Rattle.kf_value.specs.Types.{count}
use Rattle.kf_value.specs.TypeViews.{type_tree}
use Rattle.kf_value.proofs.Trees.{type_tree-Bool}
use Rattle.kf_eval.proofs.Holding.{digit_found, size_at}
use Rattle.kf_eval.proofs.Variables.{truth_there}
use Rattle.kf_eval.proofs.parts.truth_in_slot.Goals as goal

pub returns-in-Bool : goal.returns-in-Bool
returns-in-Bool c =
    let ty = c.index-as_slice-i.result in
    let size = size_at c.args.shape.now c.types.result.now c.as_slice.result.now c.args.i ty c.types.ensures c.as_slice.ensures c.requires.within c.index-as_slice-i.is in
    let below : c.slot.result < count (type_tree ty) = rw (← size) c.slot.ensures.below in
    digit_found c.args.shape.now c.types.result.now c.as_slice.result.now c.args.i ty c.types.ensures c.as_slice.ensures c.requires.within c.index-as_slice-i.is
    c.args.store c.slot.result c.requires.store c.slot.ensures.value
    ∙ truth_there (type_tree ty) c.slot.result (ap type_tree c.in-Bool.is ∙ type_tree-Bool) below
