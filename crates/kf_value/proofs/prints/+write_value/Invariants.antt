use Rattle.std.proofs.Common.{◌≡◌, ◌++◌, map, drop, codes}
use Rattle.std.specs.List.{flat_map}
use Rattle.kf_value.specs.Texts.{text}
use Rattle.kf_value.specs.Views.{value_tree}
use Rattle.kf_value.proofs.prints.+write_value.Given as goal

-- what is left brings the text to its end
abbrev pub invariant-write_separated-loop-value : goal.invariant-write_separated-loop-value
invariant-write_separated-loop-value l =
    l.out.items ++ flat_map (λ u. codes ", " ++ u) (map text (map value_tree (drop l.value-index l.others)))
    ≡ l.initial.out.items ++ flat_map (λ u. codes ", " ++ u) (map text (map value_tree l.others))
