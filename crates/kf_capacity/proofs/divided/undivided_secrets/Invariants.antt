use Rattle.std.proofs.Common.{◌≡◌, map, take}
use Rattle.kf_channel.specs.Views.{rows_of, secrets_of}
use Rattle.kf_capacity.specs.Divided.{undivided}
use Rattle.kf_capacity.proofs.divided.undivided_secrets.Given as goal

abbrev pub invariant-loop-entry : goal.invariant-loop-entry
invariant-loop-entry l = l.secrets.items ≡ take l.entry-index (map (undivided (rows_of l.c)) (secrets_of l.c))
