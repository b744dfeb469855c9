use Rattle.std.proofs.Common.{Ok, subst, ◌∙◌}
use Rattle.kf_ast.specs.Sources.{SourceTree}
use Rattle.kf_load.specs.Stops as load
use Rattle.kf_load.specs.Texts.{TextWith}
use Rattle.kf_load.specs.Views.{text_of}
use Rattle.kf_top.proofs.FullTexts.{is_full}
use Rattle.kf_top.proofs.Steps.{lift_own, lift_stops}
use Rattle.kf_top.proofs.full.full_text.Goals as goal

pub returns-in-Ok-clause-answer : goal.returns-in-Ok-clause-answer
returns-in-Ok-clause-answer c =
    let name = c.args.name.now in
    let t = text_of name c.args.text in
    subst (λ (tree : SourceTree). TextWith name t.bytes tree (Ok (text_of name c.in-Ok.full))) c.requires.full c.in-Ok.ensures.answer

pub returns-in-Ok-clause-full : goal.returns-in-Ok-clause-full
returns-in-Ok-clause-full c = is_full c.args.name.now c.args.text c.in-Ok.full c.requires.proper c.in-Ok.ensures.proper (c.in-Ok.ensures.source ∙ c.requires.full)

pub returns-in-Err-clause-answer : goal.returns-in-Err-clause-answer
returns-in-Err-clause-answer c =
    let name = c.args.name.now in
    let t = text_of name c.args.text in
    rw c.lift.ensures (lift_stops (TextWith name t.bytes _) c.in-Err.stop
    (subst (λ (tree : SourceTree). load.Stopped c.in-Err.stop (TextWith name t.bytes tree)) c.requires.full c.in-Err.ensures.answer))

pub returns-in-Err-clause-read : goal.returns-in-Err-clause-read
returns-in-Err-clause-read c = rw c.lift.ensures (lift_own c.in-Err.stop c.in-Err.ensures.read)
