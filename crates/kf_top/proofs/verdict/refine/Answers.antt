use Rattle.kf_load.specs.Views.{program_in}
use Rattle.kf_refine.specs.Views.{hyper_tree}
use Rattle.kf_support.specs.Cleared.{turns_of}
use Rattle.kf_top.proofs.Verdicts.{is_verdict_on, on_hypers}
use Rattle.kf_top.proofs.verdict.refine.Goals as goal

pub printed_verdict-requires-clause-ok : goal.printed_verdict-requires-clause-ok
printed_verdict-requires-clause-ok c =
    is_verdict_on c.in_ok-hypers.hypers c.refine-verdict.result c.refine-verdict.ensures.is c.refine-verdict.ensures.proves

pub returns-clause-answer : goal.returns-clause-answer
returns-clause-answer c =
    let pair = c.args.pair.now in
    let hypers = c.in_ok-hypers.hypers in
    on_hypers c.args.json (turns_of pair.first) (program_in pair.first) (program_in pair.second) (hyper_tree hypers.a) (hyper_tree hypers.b)
    c.in_ok-hypers.ensures c.printed_verdict.result c.printed_verdict.ensures.answer
