use Rattle.std.proofs.Common.{arith, None}
use Rattle.std.proofs.lemmas.Str.Pattern.{strip_prefix_char}
use Rattle.kf_cert.proofs.Digits.{no_sign}
use Rattle.kf_cert.proofs.numerals.past_sign.Goals as goal

pub returns-in-None : goal.returns-in-None
returns-in-None c = no_sign c.args.text.now (strip_prefix_char 45 c.args.text.now None c.in-None.ensures.cases (omega arith))
