use Rattle.std.proofs.Common.{rules}
use Rattle.kf_lex.proofs.Spelling.{in_two}
use Rattle.kf_lex.proofs.words.reserved.Goals as goal

pub returns : goal.returns
returns c = rw (in_two c.args.text.now) (search rules)
