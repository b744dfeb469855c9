use Rattle.std.proofs.Common.{◌≡◌, ◌<◌, ◌^◌, map, drop}
use Rattle.kf_value.specs.Sizes.{capped_product}
use Rattle.kf_value.specs.TypeViews.{type_tree}
use Rattle.kf_value.proofs.Sizing.{capped_after}
use Rattle.kf_value.proofs.sizes.+size.Given as goal

-- what is left brings the product to the answer
abbrev pub invariant-product_of_sizes-loop-ty : goal.invariant-product_of_sizes-loop-ty
invariant-product_of_sizes-loop-ty l = record {
  fits : l.product < 2 ^ 32;
  rest : capped_after l.product (map type_tree (drop l.ty-index l.types)) ≡ capped_product (map type_tree l.types);
}
