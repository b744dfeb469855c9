use Rattle.std.proofs.Common.{◌≡◌, ◌++◌, [], map, drop}
use Rattle.std.specs.Prelude.{slice_index_or}
use Rattle.kf_value.specs.Targets.{target_values}
use Rattle.kf_value.specs.Views.{value_trees}
use Rattle.kf_channel.specs.Views.{target_of, secrets_of}
use Rattle.kf_capacity.specs.Compositions.{secret_values}
use Rattle.kf_capacity.specs.Views.{channel_tree}
use Rattle.kf_capacity.proofs.places.secret_lists.Given as goal

abbrev pub invariant-loop-i : goal.invariant-loop-i
invariant-loop-i l =
    map value_trees l.lists.items ++ map (λ x. slice_index_or (target_values (target_of l.d)) x []) (drop l.i (secrets_of l.d))
    ≡ secret_values (channel_tree l.d)
