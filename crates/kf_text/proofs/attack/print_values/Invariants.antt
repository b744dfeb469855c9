use Rattle.std.proofs.Common.{◌≡◌, ◌++◌, drop}
use Rattle.std.specs.List.{flat_map}
use Rattle.kf_value.specs.Views.{items_of}
use Rattle.kf_text.specs.AttackViews.{own_value_line}
use Rattle.kf_text.proofs.attack.print_values.Given as goal

abbrev pub invariant-loop-weighed : goal.invariant-loop-weighed
invariant-loop-weighed l =
    l.out.items ++ flat_map (own_value_line (items_of l.target)) (drop l.weighed-index l.values)
    ≡ l.initial.out.items ++ flat_map (own_value_line (items_of l.target)) l.values
