use Rattle.std.proofs.Common.{slice_index}
use Rattle.kf_channel.specs.Views.{rows_of, secrets_of, target_of}
use Rattle.kf_text.specs.Texts.{secret_lines}
use Rattle.kf_text.proofs.Printing.{one_more, read_itself}
use Rattle.kf_text.proofs.channel.print_secrets.Goals as goal

pub loop-i-preserved : goal.loop-i-preserved
loop-i-preserved c =
    let secrets = secrets_of c.args.channel.now in
    one_more (secret_lines (target_of c.args.channel.now) (rows_of c.args.channel.now)) secrets c.loop-i.i (slice_index secrets c.loop-i.i)
    c.loop-i.out.items c.print_secret.new.out.items _ (rw c.rows-count.ensures.count at c.loop-i-test.true)
    (read_itself secrets c.loop-i.i 0) c.loop-i.invariant c.in_ok-print_secret.ensures
