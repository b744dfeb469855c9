use Rattle.std.proofs.Common.{rules, append_assoc}
use Rattle.kf_text.proofs.Printing.{quotient_text, whole_text}
use Rattle.kf_text.proofs.items.print_frac.Goals as goal

pub returns-then-den-eq1 : goal.returns-then-den-eq1
returns-then-den-eq1 c =
    let same = whole_text c.args.fraction c.num.result c.den-den.result c.num.ensures c.den-den.ensures c.if-den-eq1.true in
    search rules

pub returns : goal.returns
returns c =
    let same = quotient_text c.args.fraction c.num.result c.den-den.result c.num.ensures c.den-den.ensures c.if-den-eq1.false in
    search (rules, append_assoc)
