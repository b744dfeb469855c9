use Rattle.std.proofs.Common.{◌≡◌, ◌≤◌, length, refl}
use Rattle.std.proofs.lemmas.List.{length-map}
use Rattle.kf_load.specs.Views.{program_in}
use Rattle.kf_load.proofs.Faults.{is_long, is_short}
use Rattle.kf_load.proofs.clear.long_enough.Goals as goal

pub returns-then-least-statements : goal.returns-then-least-statements
returns-then-least-statements c =
    let read = rw (c.as_slice-statements.ensures, c.program.ensures) at c.if-least-statements.true in
    let within : c.args.least ≤ length (program_in c.args.cleared).body = rw length-map read in
    record { answer = is_long c.args.name.now c.args.least (program_in c.args.cleared) within; turns = refl; long = within; read = tt }

pub returns-else-least-statements : goal.returns-else-least-statements
returns-else-least-statements c =
    let counted : length c.as_slice-statements.result.now ≡ length (program_in c.args.cleared).body = rw (c.as_slice-statements.ensures, c.program.ensures, length-map) refl in
    record { answer = is_short c.args.name.now c.args.least (program_in c.args.cleared) _ counted c.if-least-statements.false; turns = tt; long = tt; read = tt }
