use Rattle.std.proofs.Common.{◌≡◌, ℕ, List, Ok, Err, refl, subst}
use Rattle.kf_ast.specs.Views.{source_tree}
use Rattle.kf_core.specs.Views.{program_tree}
use Rattle.kf_load.specs.Steps.{Gives}
use Rattle.kf_load.specs.Stops as load
use Rattle.kf_load.specs.Texts.{cleared as whether_cleared}
use Rattle.kf_load.specs.Views.{program_in, text_of}
use Rattle.kf_support.specs.Cleared.{turns_of}
use Rattle.kf_top.specs.Stops.{lifted}
use Rattle.kf_top.specs.TaskAnswers.{names_in}
use Rattle.kf_top.specs.declared.refusal.Done.{Done}
use Rattle.kf_words.specs.Jobs.{gain_of}
use Rattle.kf_top.proofs.LineAnswers.{not_cleared, once_cleared}
use Rattle.kf_top.proofs.Readings.{counts_next}
use Rattle.kf_top.proofs.Steps.{lift_own}
use Rattle.kf_top.proofs.lines.text_lines.Goals as goal

pub returns-clause-answer : goal.returns-clause-answer
returns-clause-answer g c =
    let text = c.args.text in
    rw c.lift.ensures (not_cleared _ _ _ (gain_of c.args.word.now) c.args.turns (text_of c.args.name.now text) c.in-Err.stop
    (subst (λ (bytes : List ℕ). load.Stopped c.in-Err.stop (Gives (whether_cleared c.args.turns
    (record { name = c.args.name.now; bytes = bytes; source = source_tree text.source; program = program_tree text.program }))))
    c.deref.ensures.value (c.in-Err.ensures.answer (source_tree text.source))))

pub returns-clause-counts : goal.returns-clause-counts
returns-clause-counts g c =
    rw c.lift.ensures (counts_next {A = Done} (names_in (gain_of c.args.word.now)) _ _ (Err (lifted c.in-Err.stop)) refl (lift_own c.in-Err.stop c.in-Err.ensures.read))

pub returns-in-Ok-clause-answer : goal.returns-in-Ok-clause-answer
returns-in-Ok-clause-answer g c =
    let text = c.args.text in
    let word = gain_of c.args.word.now in
    let p = program_in c.in-Ok.cleared in
    once_cleared _ _ _ word c.args.turns (text_of c.args.name.now text) p
    (subst (λ (bytes : List ℕ). Ok p ≡ whether_cleared c.args.turns
    (record { name = c.args.name.now; bytes = bytes; source = source_tree text.source; program = program_tree text.program }))
    c.deref.ensures.value (c.in-Ok.ensures.answer (source_tree text.source)))
    c.gain_lines.result (turns_of c.in-Ok.cleared) c.in-Ok.ensures.turns _ c.deref-in-Ok.ensures.value c.gain_lines.ensures.answer
