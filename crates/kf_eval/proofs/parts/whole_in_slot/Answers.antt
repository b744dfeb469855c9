use Rattle.std.proofs.Common.{◌<◌, ap, ◌∙◌}
use Rattle.kf_value.specs.Types.{count}
use Rattle.kf_value.specs.TypeViews.{type_tree}
use Rattle.kf_value.proofs.Trees.{type_tree-Int}
use Rattle.kf_eval.proofs.Holding.{digit_found, size_at, type_sized}
use Rattle.kf_eval.proofs.Variables.{number_fits, number_there}
use Rattle.kf_eval.proofs.parts.whole_in_slot.Goals as goal

pub overflow_add-result : goal.overflow_add-result
overflow_add-result c =
    let ty = c.index-as_slice-i.result in
    let size = size_at c.args.shape.now c.types.result.now c.as_slice.result.now c.args.i ty c.types.ensures c.as_slice.ensures c.requires.within c.index-as_slice-i.is in
    let sized = type_sized c.args.shape.now c.types.result.now c.as_slice.result.now c.args.i ty c.types.ensures c.as_slice.ensures c.requires.within c.index-as_slice-i.is in
    let below : c.slot.result < count (type_tree ty) = rw (← size) c.slot.ensures.below in
    number_fits (type_tree ty) c.in-Int.lo c.in-Int.hi c.from.result c.slot.result (ap type_tree c.in-Int.is ∙ type_tree-Int c.in-Int.lo c.in-Int.hi) sized below c.from.ensures

pub returns-in-Int : goal.returns-in-Int
returns-in-Int c =
    let ty = c.index-as_slice-i.result in
    let size = size_at c.args.shape.now c.types.result.now c.as_slice.result.now c.args.i ty c.types.ensures c.as_slice.ensures c.requires.within c.index-as_slice-i.is in
    let sized = type_sized c.args.shape.now c.types.result.now c.as_slice.result.now c.args.i ty c.types.ensures c.as_slice.ensures c.requires.within c.index-as_slice-i.is in
    let below : c.slot.result < count (type_tree ty) = rw (← size) c.slot.ensures.below in
    digit_found c.args.shape.now c.types.result.now c.as_slice.result.now c.args.i ty c.types.ensures c.as_slice.ensures c.requires.within c.index-as_slice-i.is
    c.args.store c.slot.result c.requires.store c.slot.ensures.value
    ∙ number_there (type_tree ty) c.in-Int.lo c.in-Int.hi c.from.result c.slot.result (ap type_tree c.in-Int.is ∙ type_tree-Int c.in-Int.lo c.in-Int.hi) sized below c.from.ensures
