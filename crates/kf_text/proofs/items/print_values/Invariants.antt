use Rattle.std.proofs.Common.{◌≡◌, ◌++◌, map, drop, codes}
use Rattle.std.specs.List.{flat_map}
use Rattle.kf_value.specs.Texts.{text}
use Rattle.kf_value.specs.Views.{value_tree}
use Rattle.kf_text.proofs.items.print_values.Given as goal

-- what is left brings the text to its end
abbrev pub invariant-loop-value : goal.invariant-loop-value
invariant-loop-value l =
    l.out.items ++ flat_map (λ u. codes ", " ++ u) (map text (map value_tree (drop l.value-index l.others)))
    ≡ l.initial.out.items ++ flat_map (λ u. codes ", " ++ u) (map text (map value_tree l.others))
