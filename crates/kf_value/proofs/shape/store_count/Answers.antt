use Rattle.std.proofs.Common.{◌≡◌, ◌+◌, None, map, drop, arith}
use Rattle.std.proofs.lemmas.List.Elements.{All-head}
use Rattle.kf_value.specs.Sizes.{fault_of}
use Rattle.kf_value.specs.TypeViews.{type_tree}
use Rattle.kf_value.proofs.ListLemmas.{left_step, left_end}
use Rattle.kf_value.proofs.Widening.{count_start, count_step, count_end}
use Rattle.kf_value.proofs.shape.store_count.Goals as goal

pub loop-ty-init : goal.loop-ty-init
loop-ty-init c = count_start (map type_tree c.args.types.now) c.requires

pub loop-ty-preserved : goal.loop-ty-preserved
loop-ty-preserved c =
    let here = left_step type_tree c.args.types.now c.loop-ty.ty-index c.ty-item.result (omega arith) c.ty-item.is in
    let next = count_step (map type_tree c.args.types.now) (type_tree c.ty-item.result) (map type_tree (drop (c.loop-ty.ty-index + 1) c.args.types.now)) c.loop-ty.stores
    (rw here at c.loop-ty.invariant) in
    rw (c.saturating_mul-stores.ensures, c.from.ensures, c.known_size.ensures.exact) next

pub returns : goal.returns
returns c =
    count_end (map type_tree c.args.types.now) c.loop-ty.stores (rw (left_end type_tree c.args.types.now c.loop-ty.ty-index (omega arith)) at c.loop-ty.invariant)

pub known_size-requires : goal.known_size-requires
known_size-requires c =
    let here = left_step type_tree c.args.types.now c.loop-ty.ty-index c.ty-item.result (omega arith) c.ty-item.is in
    let sized = rw here at c.loop-ty.invariant.sized in
    All-head (λ t. fault_of t ≡ None) (type_tree c.ty-item.result) (map type_tree (drop (c.loop-ty.ty-index + 1) c.args.types.now)) sized
