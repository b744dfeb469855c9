use Rattle.std.proofs.Common.{rules, append_assoc}
use Rattle.kf_text.proofs.Printing.{share_text}
use Rattle.kf_text.proofs.channel.print_cell.Goals as goal

pub returns : goal.returns
returns c =
    let same = share_text c.cell-cell.result _ _ c.cell-cell.ensures.num c.cell-cell.ensures.den in
    search (rules, append_assoc)
