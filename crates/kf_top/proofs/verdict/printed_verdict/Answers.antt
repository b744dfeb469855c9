use Rattle.std.proofs.Common.{Ok}
use Rattle.kf_refine.specs.Views.{hyper_tree, verdict_tree}
use Rattle.kf_top.specs.Answer.{shows}
use Rattle.kf_top.proofs.Verdicts.{its_error, its_verdict, text_of}
use Rattle.kf_top.proofs.verdict.printed_verdict.Goals as goal

pub returns-clause-answer : goal.returns-clause-answer
returns-clause-answer c =
    let hypers = c.args.hypers.now in
    let v = verdict_tree c.in-Ok.verdict in
    let is = its_verdict hypers c.args.verdict c.in-Ok.verdict c.in-Ok.is c.requires.ok in
    let text = text_of c.args.json v c.target.ensures c.in_ok-bytes.ensures in
    (Ok v, is.is, (is.proves, (λ i. shows (c.is_yes-yes.ensures i) (text i))))

pub returns-in-Err-clause-answer : goal.returns-in-Err-clause-answer
returns-in-Err-clause-answer c =
    let hypers = c.args.hypers.now in
    let a = hyper_tree hypers.a in
    let b = hyper_tree hypers.b in
    c.verdict_stop.ensures.answer c.args.json a b (its_error a b c.args.verdict c.in-Err.error c.in-Err.is c.requires.err)
