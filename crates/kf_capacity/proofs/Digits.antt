-- How many lists of values a target's items have.
use Rattle.std.proofs.Common.{◌≡◌, ◌*◌, List, [], ◌∷◌, length, map, refl, sym, ap, ◌∙◌}
use Rattle.kf_value.specs.Values.{ValueTree}
use Rattle.kf_value.specs.Types.{values, combinations, count, product}
use Rattle.kf_value.specs.Stores.{stores}
use Rattle.kf_value.specs.Targets.{Item, target_values}
use Rattle.kf_value.specs.Numbers.{target_size}
use Rattle.kf_value.proofs.Ascending.{length-values}
use Rattle.kf_value.proofs.Places.{length-combinations}

-- all lists of one value for each item
abbrev all_lists : List Item → List (List ValueTree)
all_lists items = combinations (map values (map (λ i. i.ty) items))

lists_many : (items : List Item) → length (all_lists items) ≡ target_size items
lists_many [] = refl
lists_many (i ∷ items) =
    length-combinations (map values (map (λ i. i.ty) (i ∷ items)))
    ∙ ap (λ n. n * product (map length (map values (map (λ i. i.ty) items)))) (length-values i.ty)
    ∙ ap (λ n. count i.ty * n) (sym (length-combinations (map values (map (λ i. i.ty) items))) ∙ lists_many items)

-- how many values a target has
pub values_many : (items : List Item) → length (target_values items) ≡ target_size items
unfolding stores
values_many items = lists_many items
