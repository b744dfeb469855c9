use Rattle.std.proofs.Common.{Some, None, ◌∙◌, sym, arith}
use Rattle.std.proofs.lemmas.Str.Pattern.{split_once_first}
use Rattle.std.proofs.lemmas.List.{take_all}
use Rattle.kf_cert.proofs.Digits.{before_is}
use Rattle.kf_cert.proofs.numerals.before_bar.Goals as goal

pub returns-in-Some : goal.returns-in-Some
returns-in-Some c = (split_once_first 47 c.args.text.now (Some (c.in-Some.before, c.in-Some.field-0-1)) c.in-Some.ensures.cases (omega arith)).1 ∙ sym (before_is c.args.text.now)

pub returns-in-None : goal.returns-in-None
returns-in-None c =
    let past = split_once_first 47 c.args.text.now None c.in-None.ensures.cases (omega arith) in
    sym (before_is c.args.text.now ∙ take_all _ c.args.text.now (omega (arith, past)))
