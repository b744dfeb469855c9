use Rattle.std.proofs.Common.{Ok, Err, ap}
use Rattle.std.proofs.lemmas.Result.{err_from_is_err_and}
use Rattle.kf_core.specs.declared.program.Program.{Program}
use Rattle.kf_value.specs.Views.{items_of}
use Rattle.kf_gain.specs.Views.{gain_tree}
use Rattle.kf_load.specs.Views.{program_in}
use Rattle.kf_support.specs.Cleared.{turns_of}
use Rattle.kf_top.specs.Answer.{GainIn, OnHyper, ReportOn}
use Rattle.kf_top.specs.TaskAnswers.{names_in}
use Rattle.kf_top.specs.Views.{shown}
use Rattle.kf_words.specs.Jobs.{gain_of}
use Rattle.kf_top.proofs.Readings.{counts_next, files_next, files_stop, gain_about}
use Rattle.kf_top.proofs.leak.leak.Goals as goal

pub returns-in_err-gain-clause-answer : goal.returns-in_err-gain-clause-answer
returns-in_err-gain-clause-answer g c =
    let e = err_from_is_err_and c.from_residual.result c.from_residual.ensures.1 in
    let turns = turns_of c.args.cleared.now in
    let p = program_in c.args.cleared.now in
    let word = gain_of c.args.word.now in
    rw (e.1, e.2) (files_stop _ _ _ (names_in word) (GainIn p.target word) (λ gain. OnHyper turns p (ReportOn gain)) gain_tree shown
    c.in_err-gain.field-0.0 (gain_about _ _ _ word _ _ (ap (λ (q : Program). items_of q.target) c.program.ensures) (Err c.in_err-gain.field-0.0) c.in_err-gain.ensures.answer))

pub returns-in_err-gain-clause-counts : goal.returns-in_err-gain-clause-counts
returns-in_err-gain-clause-counts g c =
    let p = err_from_is_err_and c.from_residual.result c.from_residual.ensures.1 in
    rw (p.1, p.2) c.in_err-gain.ensures.counts

pub returns-clause-answer : goal.returns-clause-answer
returns-clause-answer g c =
    let cleared = c.args.cleared.now in
    let turns = turns_of cleared in
    let p = program_in cleared in
    let word = gain_of c.args.word.now in
    files_next _ _ _ (names_in word) (GainIn p.target word) (λ gain. OnHyper turns p (ReportOn gain)) gain_tree shown
    c.in_ok-gain.gain c.report.result (gain_about _ _ _ word _ _ (ap (λ (q : Program). items_of q.target) c.program.ensures) (Ok c.in_ok-gain.gain) c.in_ok-gain.ensures.answer)
    c.report.ensures.answer

pub returns-clause-counts : goal.returns-clause-counts
returns-clause-counts g c = counts_next (names_in (gain_of c.args.word.now)) _ _ c.report.result c.in_ok-gain.ensures.counts c.report.ensures.read
