-- The target of a full program has a value for each pair of stores.
use Rattle.std.proofs.Common.{◌≡◌, ◌*◌, List, [], ◌∷◌, map, refl, sym, ap, ◌∙◌}
use Rattle.kf_value.specs.Targets.{Item}
use Rattle.kf_value.specs.Types.{count}
use Rattle.kf_value.specs.Numbers.{target_size}
use Rattle.kf_check.specs.Laws.{CheckedIfTyped}
use Rattle.kf_check.specs.Sources.{types_of}
use Rattle.kf_prior.specs.Laws.{FullIsBuilt, FullTargetIsSquare}
use Rattle.kf_prior.proofs.PriorFull.{full_paired}
use Rattle.kf_prior.proofs.PriorStores.{size, size_append}
use Rattle.kf_prior.proofs.PriorTargets.{IsPaired, count_is}

size_of_items : (is : List Item) → target_size is ≡ size (map (λ i. i.ty) is)
size_of_items [] = refl
size_of_items (i ∷ is) = ap (λ n. count i.ty * n) (size_of_items is)

pub full_square : FullIsBuilt → CheckedIfTyped → FullTargetIsSquare
full_square built checked p f =
    let ts = types_of f.full.variables in
    let paired : IsPaired p ts = full_paired built checked p f in
    let stores = count_is p ts paired in
    size_of_items p.target ∙ (ap size paired.about ∙ (size_append ts ts ∙ ap (λ n. n * n) (sym stores)))
