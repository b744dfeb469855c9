use Rattle.std.proofs.Common.{Ok, Err, ap}
use Rattle.std.proofs.lemmas.Result.{err_from_is_err_and}
use Rattle.kf_ast.specs.Views.{source_tree}
use Rattle.kf_core.specs.declared.program.Program.{Program}
use Rattle.kf_load.specs.Views.{program_in}
use Rattle.kf_support.specs.Cleared.{turns_of}
use Rattle.kf_top.specs.TaskAnswers.{names_in}
use Rattle.kf_value.specs.Views.{items_of}
use Rattle.kf_words.specs.Jobs.{gain_of}
use Rattle.kf_top.proofs.LineAnswers.{all_there, no_gain}
use Rattle.kf_top.proofs.Readings.{counts_next, gain_about}
use Rattle.kf_top.proofs.lines.gain_lines.Goals as goal

pub returns-in_err-gain-clause-answer : goal.returns-in_err-gain-clause-answer
returns-in_err-gain-clause-answer g c =
    let e = err_from_is_err_and c.from_residual.result c.from_residual.ensures.1 in
    rw (e.1, e.2) (no_gain _ _ _ (gain_of c.args.word.now) (turns_of c.args.cleared.now) c.args.bytes.now (source_tree c.args.source.now) (program_in c.args.cleared.now)
    c.in_err-gain.field-0.0
    (gain_about _ _ _ (gain_of c.args.word.now) _ _ (ap (λ (q : Program). items_of q.target) c.program.ensures) (Err c.in_err-gain.field-0.0) c.in_err-gain.ensures.answer))

pub returns-in_err-gain-clause-counts : goal.returns-in_err-gain-clause-counts
returns-in_err-gain-clause-counts g c =
    let p = err_from_is_err_and c.from_residual.result c.from_residual.ensures.1 in
    rw (p.1, p.2) c.in_err-gain.ensures.counts

pub returns-clause-answer : goal.returns-clause-answer
returns-clause-answer g c =
    all_there _ _ _ (gain_of c.args.word.now) (turns_of c.args.cleared.now) c.args.bytes.now (source_tree c.args.source.now) (program_in c.args.cleared.now)
    c.in_ok-gain.gain c.lines_under.result
    (gain_about _ _ _ (gain_of c.args.word.now) _ _ (ap (λ (q : Program). items_of q.target) c.program.ensures) (Ok c.in_ok-gain.gain) c.in_ok-gain.ensures.answer)
    c.lines_under.ensures.answer

pub returns-clause-counts : goal.returns-clause-counts
returns-clause-counts g c = counts_next (names_in (gain_of c.args.word.now)) _ _ c.lines_under.result c.in_ok-gain.ensures.counts c.lines_under.ensures.read
