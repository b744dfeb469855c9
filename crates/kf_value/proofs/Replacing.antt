-- A store with one variable changed.
use Rattle.std.proofs.Common.{◌≡◌, ℕ, ◌+◌, ◌-◌, ◌*◌, ◌<◌, ◌≤◌, List, length, map, slice_get, get_or, set, Some, None, ap, ◌∙◌, arith}
use Rattle.std.specs.List.{All}
use Rattle.std.proofs.lemmas.List.{length-map}
use Rattle.kf_value.specs.declared.ty.Ty.{Ty}
use Rattle.kf_value.specs.Types.{TypeTree, count, product}
use Rattle.kf_value.specs.Sizes.{fault_of}
use Rattle.kf_value.specs.TypeViews.{type_tree}
use Rattle.kf_value.specs.Numbers.{weights, digits}
use Rattle.kf_value.proofs.Digits.{sizes, Changed, change_digit, positive_sizes}
use Rattle.kf_value.proofs.ListLemmas.{mapped_read}

pub variable_type : (items all : List Ty) (i : ℕ) (x : Ty) → items ≡ all → i < length (map type_tree all) → x ≡ get_or items i x
    → slice_get (map type_tree all) i ≡ Some (type_tree x)
variable_type items all i x same within read =
    let long = length-map all type_tree in
    mapped_read type_tree all i x (omega arith) (read ∙ ap (λ xs. get_or xs i x) same)

module _ (ts : List TypeTree) (sized : All (λ t. fault_of t ≡ None) ts) (store i old weight new : ℕ)
    (below : store < product (sizes ts)) (within : i < length ts) (small : new < get_or (sizes ts) i 0)
    (old_is : old ≡ get_or (digits (sizes ts) store) i 0) (weight_is : weight ≡ get_or (weights (sizes ts)) i 0) where
  changed : Changed (sizes ts) store i new
  changed =
      let long = length-map ts count in
      change_digit (sizes ts) store i new (positive_sizes ts sized) below (omega arith) small

  pub replaced_held : old * weight ≤ store
  replaced_held = rw (old_is, weight_is) changed.held

  pub replaced_below : store - old * weight + new * weight < product (sizes ts)
  replaced_below = rw (old_is, weight_is) changed.below

  pub replaced_digits : digits (sizes ts) (store - old * weight + new * weight) ≡ set (digits (sizes ts) store) i new
  replaced_digits = rw (old_is, weight_is) changed.now
