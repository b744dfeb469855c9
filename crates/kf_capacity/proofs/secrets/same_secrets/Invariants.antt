use Rattle.std.proofs.Common.{◌≡◌, take}
use Rattle.kf_channel.specs.Views.{secrets_of}
use Rattle.kf_capacity.proofs.secrets.same_secrets.Given as goal

abbrev pub invariant-loop-i : goal.invariant-loop-i
invariant-loop-i l = take l.i (secrets_of l.c) ≡ take l.i (secrets_of l.d)
