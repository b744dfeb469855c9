use Rattle.std.proofs.Common.{◌≡◌, ◌+◌, Ok, sym, ap, ◌∙◌, map, drop, arith, nat_le}
use Rattle.kf_value.proofs.ListLemmas.{left_step, left_end}
use Rattle.kf_value.specs.Sizes.{capped_product, size_within}
use Rattle.kf_value.specs.TypeViews.{type_tree}
use Rattle.kf_value.specs.Views.{type_trees}
use Rattle.kf_value.proofs.Sizing.{at_most_few, judged, capped_after, capped_start, capped_end, capped_step, judged_tuple}
use Rattle.kf_value.proofs.Trees.{type_tree-Bool, type_tree-Tuple}
use Rattle.kf_value.proofs.sizes.+size.Goals as goal

pub product_of_sizes-loop-ty-init : goal.product_of_sizes-loop-ty-init
product_of_sizes-loop-ty-init t c = record { fits = omega arith; rest = capped_start (map type_tree c.args.types.now) }

pub product_of_sizes-loop-ty-preserved : goal.product_of_sizes-loop-ty-preserved
product_of_sizes-loop-ty-preserved t c =
    let later = map type_tree (drop (c.loop-ty.ty-index + 1) c.args.types.now) in
    let left = left_step type_tree c.args.types.now c.loop-ty.ty-index c.ty-item.result (omega arith) c.ty-item.is in
    let step = capped_step c.loop-ty.product (type_tree c.ty-item.result) later c.in_ok-size_within.field-0 c.in_ok-size_within.ensures.exact in
    record {
      fits = omega arith;
      rest = ap (λ n. capped_after n later) c.saturating_mul-product.ensures
          ∙ (sym step ∙ (ap (λ ts. capped_after c.loop-ty.product ts) (sym left) ∙ c.loop-ty.invariant.rest));
    }

pub product_of_sizes-returns : goal.product_of_sizes-returns
product_of_sizes-returns t c =
    capped_end c.loop-ty.product c.loop-ty.invariant.fits
    ∙ (ap (λ ts. capped_after c.loop-ty.product ts) (sym (left_end type_tree c.args.types.now c.loop-ty.ty-index (omega arith))) ∙ c.loop-ty.invariant.rest)

pub size_within-returns-in_ok-product_of_sizes-in-Tuple-clause-exact :
    goal.size_within-returns-in_ok-product_of_sizes-in-Tuple-clause-exact
size_within-returns-in_ok-product_of_sizes-in-Tuple-clause-exact t c =
    let known : Ok c.in_ok-product_of_sizes-in-Tuple.field-0 ≡ capped_product (type_trees c.in-Tuple.parts) =
    cc (c.in_ok-product_of_sizes-in-Tuple.ensures, c.as_slice.ensures) in
    cc (type_tree-Tuple c.in-Tuple.parts, judged_tuple c.args.limit c.in_ok-product_of_sizes-in-Tuple.field-0 (type_trees c.in-Tuple.parts) (omega arith) known)

pub size_within-returns-in-Bool-clause-exact : goal.size_within-returns-in-Bool-clause-exact
size_within-returns-in-Bool-clause-exact t c =
    c.at_most.ensures ∙ (judged (nat_le 2 c.args.limit) 2 ∙ ap (λ u. size_within c.args.limit u) (sym (ap type_tree c.in-Bool.is ∙ type_tree-Bool)))

pub size_within-returns-in-Bool-clause-few : goal.size_within-returns-in-Bool-clause-few
size_within-returns-in-Bool-clause-few t c = at_most_few c.args.limit _ _ c.at_most.ensures

pub size_within-returns-in_ok-range_size-in-Int-clause-few : goal.size_within-returns-in_ok-range_size-in-Int-clause-few
size_within-returns-in_ok-range_size-in-Int-clause-few t c = at_most_few c.args.limit _ _ c.at_most-in-Int.ensures

pub size_within-returns-in_ok-product_of_sizes-in-Tuple-clause-few : goal.size_within-returns-in_ok-product_of_sizes-in-Tuple-clause-few
size_within-returns-in_ok-product_of_sizes-in-Tuple-clause-few t c = at_most_few c.args.limit _ _ c.at_most-in-Tuple.ensures

pub size_within-returns-in_ok-size_within-in-Set-clause-few : goal.size_within-returns-in_ok-size_within-in-Set-clause-few
size_within-returns-in_ok-size_within-in-Set-clause-few t c = at_most_few c.args.limit _ _ c.at_most-in-Set.ensures
