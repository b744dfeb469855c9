use Rattle.std.proofs.Common.{◌≡◌, ◌++◌, map, drop, Some}
use Rattle.kf_capacity.specs.Compositions.{named}
use Rattle.kf_capacity.specs.Views.{channel_tree}
use Rattle.kf_capacity.proofs.places.trace_places.Given as goal

abbrev pub invariant-loop-j : goal.invariant-loop-j
invariant-loop-j l =
    map (λ place. Some place) l.places.items ++ drop l.j (named (channel_tree l.c) (channel_tree l.d)) ≡ named (channel_tree l.c) (channel_tree l.d)
