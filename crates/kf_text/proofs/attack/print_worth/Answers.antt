use Rattle.std.proofs.Common.{rules, append_assoc}
use Rattle.kf_text.proofs.Printing.{share_text}
use Rattle.kf_text.proofs.attack.print_worth.Goals as goal

pub returns : goal.returns
returns c =
    let same = share_text c.outer-outer.result _ _ c.outer-outer.ensures.num c.outer-outer.ensures.den in
    search (rules, append_assoc)
