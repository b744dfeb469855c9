use Rattle.std.proofs.Common.{append_assoc, rules}
use Rattle.kf_text.proofs.Verdicts.{own_texts}
use Rattle.kf_text.proofs.verdict.print_row.Goals as goal

pub returns : goal.returns
returns c = let same = own_texts c.args.row.now in search (rules, append_assoc)
