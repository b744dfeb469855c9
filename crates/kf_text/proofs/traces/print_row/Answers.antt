use Rattle.std.proofs.Common.{rules, append_assoc}
use Rattle.kf_text.proofs.Printing.{share_text}
use Rattle.kf_text.proofs.traces.print_row.Goals as goal

pub returns : goal.returns
returns c =
    let same = share_text c.share-weight.result _ _ c.share-weight.ensures.num c.share-weight.ensures.den in
    search (rules, append_assoc)
