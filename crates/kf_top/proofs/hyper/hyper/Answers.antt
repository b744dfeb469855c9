use Rattle.std.proofs.Common.{ap, ◌∙◌}
use Rattle.kf_hyper.specs.Views.{inners_of}
use Rattle.kf_text.specs.Texts.{hyper_text}
use Rattle.kf_top.specs.Answer.{prints}
use Rattle.kf_top.proofs.hyper.hyper.Goals as goal

pub returns-clause-answer : goal.returns-clause-answer
returns-clause-answer c =
    let is = c.in_ok-hyper.ensures in
    let inners = inners_of c.in_ok-hyper.hyper in
    let whole = is.scale ∙ c.args.cleared.now.scale_is in
    (inners, is.hyper, ap prints (c.in_ok-bytes.ensures ∙ (λ i. hyper_text (is.target i) (whole i) inners)))
