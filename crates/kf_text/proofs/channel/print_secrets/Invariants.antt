use Rattle.std.proofs.Common.{◌≡◌, ◌++◌, drop}
use Rattle.std.specs.List.{flat_map}
use Rattle.kf_channel.specs.Views.{rows_of, secrets_of, target_of}
use Rattle.kf_text.specs.Texts.{secret_lines}
use Rattle.kf_text.proofs.channel.print_secrets.Given as goal
use Rattle.kf_text.specs.Parts.{rows_lines}

abbrev pub invariant-loop-i : goal.invariant-loop-i
invariant-loop-i l =
    l.out.items ++ flat_map (secret_lines (target_of l.channel) (rows_of l.channel)) (drop l.i (secrets_of l.channel))
    ≡ l.fn.out.items ++ rows_lines (target_of l.channel) (rows_of l.channel) (secrets_of l.channel)
