use Rattle.std.proofs.Common.{rules, append_assoc}
use Rattle.kf_text.proofs.Printing.{share_text}
use Rattle.kf_text.proofs.made.print_last.Goals as goal

pub returns : goal.returns
returns c =
    let same = share_text c.last_outer.result _ _ c.last_outer.ensures.num c.last_outer.ensures.den in
    search (rules, append_assoc)
