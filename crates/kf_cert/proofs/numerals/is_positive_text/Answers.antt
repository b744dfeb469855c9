use Rattle.std.proofs.Common.{sym, ◌∙◌, ap, not, ◌&&◌, bytes_eq, codes}
use Rattle.kf_cert.proofs.Digits.{positive_whole}
use Rattle.kf_cert.proofs.numerals.is_positive_text.Goals as goal

pub returns-then-not-is_negative : goal.returns-then-not-is_negative
returns-then-not-is_negative c =
    let positive = positive_whole c.args.text.now c.requires in
    let sign = sym c.is_negative.ensures ∙ c.if-not-is_negative.true in
    c.ne.ensures ∙ sym (positive ∙ ap (λ b. not b && not (bytes_eq c.args.text.now (codes "0"))) sign)
