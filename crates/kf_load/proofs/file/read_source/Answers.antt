use Rattle.std.proofs.Common.{◌≤◌, length, None, Some, Err, ap, rules, refl}
use Rattle.kf_load.proofs.Faults.{is_short_file}
use Rattle.kf_load.proofs.Readings.{long_reading}
use Rattle.kf_load.proofs.Stepwise.{some_bytes}
use Rattle.kf_load.proofs.file.read_source.Goals as goal

pub returns-in-Ok-clause-answer : goal.returns-in-Ok-clause-answer
returns-in-Ok-clause-answer g c =
    let few : length c.in-Ok.bytes.items ≤ 1048576 = search rules in
    (c.in-Ok.bytes.items, c.in-Ok.ensures.told, is_short_file c.args.name.now c.in-Ok.bytes.items few)

pub returns-in-Err-Failed-clause-answer : goal.returns-in-Err-Failed-clause-answer
returns-in-Err-Failed-clause-answer g c = (None, record { read = c.in-Err-Failed.ensures.failed (ap Err c.in-Err-Failed.field-0-is); fails = tt }, refl)

pub returns-in-Err-TooLong-clause-answer : goal.returns-in-Err-TooLong-clause-answer
returns-in-Err-TooLong-clause-answer g c =
    long_reading (g.F.Files.contents c.args.files.now) _ _ _ c.args.name.now (c.in-Err-TooLong.ensures.long (ap Err c.in-Err-TooLong.field-0-is))

pub returns-in-Err-Mem-clause-answer : goal.returns-in-Err-Mem-clause-answer
returns-in-Err-Mem-clause-answer g c =
    let bytes = some_bytes (g.F.Files.contents c.args.files.now) c.args.name.now in
    (Some bytes.0, record { read = bytes.1; fails = tt }, tt)
