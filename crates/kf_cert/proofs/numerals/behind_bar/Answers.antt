use Rattle.std.proofs.Common.{Some, None, ◌∙◌, sym, ap, arith}
use Rattle.std.proofs.lemmas.Str.Pattern.{split_once_first}
use Rattle.kf_cert.proofs.Digits.{behind_is, no_bar}
use Rattle.kf_cert.proofs.numerals.behind_bar.Goals as goal

pub returns-in-Some : goal.returns-in-Some
returns-in-Some c =
    let split = split_once_first 47 c.args.text.now (Some (c.in-Some.field-0-0, c.in-Some.behind)) c.in-Some.ensures.cases (omega arith) in
    ap (λ t. Some t) split.2 ∙ sym (behind_is c.args.text.now split.0)

pub returns-in-None : goal.returns-in-None
returns-in-None c = sym (no_bar c.args.text.now (split_once_first 47 c.args.text.now None c.in-None.ensures.cases (omega arith)))
