use Rattle.std.proofs.Common.{◌≡◌, drop, map}
use Rattle.kf_channel.specs.Views.{rows_of, secrets_of}
use Rattle.kf_capacity.specs.Divided.{divided}
use Rattle.kf_capacity.proofs.Dividing.{divided_on}
use Rattle.kf_capacity.proofs.divided.divided_secrets.Given as goal

abbrev pub invariant-loop-row : goal.invariant-loop-row
invariant-loop-row l = record {
  same : map (divided_on (drop l.row-index (rows_of l.c))) l.secrets.items ≡ map (divided (rows_of l.c)) (secrets_of l.c);
  named : map (λ s. s.value) l.secrets.items ≡ secrets_of l.c;
}
