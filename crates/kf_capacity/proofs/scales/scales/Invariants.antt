use Rattle.std.proofs.Common.{◌≡◌, ◌++◌, map, drop}
use Rattle.kf_capacity.specs.Divided.{scale_of}
use Rattle.kf_capacity.proofs.scales.scales.Given as goal

abbrev pub invariant-loop-secret : goal.invariant-loop-secret
invariant-loop-secret l = l.list.items ++ map (scale_of l.over) (drop l.secret-index l.secrets) ≡ map (scale_of l.over) l.secrets
