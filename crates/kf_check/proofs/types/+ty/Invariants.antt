use Rattle.std.proofs.Common.{◌≡◌, ◌-◌, ◌^◌, min, map, take}
use Rattle.kf_value.specs.Types.{count, product}
use Rattle.kf_value.specs.TypeViews.{type_tree}
use Rattle.kf_check.proofs.Each.{Each}
use Rattle.kf_check.proofs.TypeRules.{IsType}
use Rattle.kf_check.proofs.types.+ty.Given as goal

abbrev pub invariant-tys-loop-part : goal.invariant-tys-loop-part
invariant-tys-loop-part l = record {
  judged : Each IsType (take l.part-index l.parts) l.types.items;
  sized : l.product ≡ min (product (map count (map type_tree l.types.items))) (2 ^ 32 - 1);
}
