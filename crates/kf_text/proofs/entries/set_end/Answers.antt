use Rattle.std.proofs.Common.{rules, append_assoc}
use Rattle.kf_text.proofs.Printing.{share_text}
use Rattle.kf_text.proofs.entries.set_end.Goals as goal

pub returns : goal.returns
returns c =
    let same = share_text c.share.result _ _ c.share.ensures.num c.share.ensures.den in
    search (rules, append_assoc)
