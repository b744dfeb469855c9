-- For bodies: weights that are put on stores one after the other, in any order.
use Rattle.std.specs.Prelude.{[], ◌∷◌}
use Rattle.kf_traces.specs.Traced.{Weights, with_weight}

-- with each of the later weights put on its store
abbrev pub folded : Weights → Weights → Weights
folded es [] = es
folded es (f ∷ fs) = folded (with_weight es f.0 f.1) fs
