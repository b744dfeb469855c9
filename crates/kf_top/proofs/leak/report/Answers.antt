use Rattle.std.proofs.Common.{Err, ap}
use Rattle.kf_gain.specs.Views.{gain_tree}
use Rattle.kf_report.specs.Reports.{IsLeakage}
use Rattle.kf_text.specs.ReportTexts.{report_text}
use Rattle.kf_top.specs.Answer.{PrintsSome, prints}
use Rattle.kf_top.proofs.Leakage.{narrow_answers, wide_stops}
use Rattle.kf_top.proofs.leak.report.Goals as goal

pub returns-clause-answer : goal.returns-clause-answer
returns-clause-answer c =
    let g = gain_tree c.args.gain.now in
    let is = c.in_ok-hyper.ensures in
    let width = c.in-Ok.ensures.narrow in
    let leakage = c.in-Ok.ensures.is in
    narrow_answers c.args.cleared.now g c.in_ok-hyper.hyper is.hyper is.scale is.target width.0 width.1 (λ h. PrintsSome (IsLeakage g h.scale h.inners) (report_text g)) width.2
    c.in_ok-bytes.bytes.items (leakage.0, leakage.1, ap prints (c.in_ok-bytes.ensures.numbers leakage.0 leakage.2))

pub returns-in-Err-Wide-clause-answer : goal.returns-in-Err-Wide-clause-answer
returns-in-Err-Wide-clause-answer c =
    let g = gain_tree c.args.gain.now in
    let is = c.in_ok-hyper.ensures in
    let width = c.in-Err-Wide.ensures.wide (ap Err c.in-Err-Wide.field-0-is) in
    wide_stops c.args.cleared.now g c.in_ok-hyper.hyper is.hyper is.scale is.target width.0 width.1 (λ h. PrintsSome (IsLeakage g h.scale h.inners) (report_text g)) width.2
