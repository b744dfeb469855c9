use Rattle.kf_lines.specs.Views.{own_text_of}
use Rattle.kf_text.proofs.Printing.{one_more}
use Rattle.kf_lines.proofs.text.print_lines.Goals as goal

pub loop-line-preserved : goal.loop-line-preserved
loop-line-preserved c =
    one_more (own_text_of c.args.bytes.now) c.args.lines.now c.loop-line.line-index c.line-item.result c.loop-line.out.items c.print_line.new.out.items _
    c.loop-line-test.true c.line-item.is c.loop-line.invariant c.in_ok-print_line.ensures
