use Rattle.std.proofs.Common.{◌≤◌, IsOk, ap, subst, Ok, Err, ◌∙◌}
use Rattle.kf_frac.specs.Fractions.{limit}
use Rattle.kf_core.specs.Programs.{ProgramTree}
use Rattle.kf_core.specs.Scale.{scale_of}
use Rattle.kf_core.specs.Support.{program_pass}
use Rattle.kf_core.specs.Views.{program_tree}
use Rattle.kf_support.specs.Answers.{halted}
use Rattle.kf_support.specs.Cleared.{turns_of}
use Rattle.kf_load.proofs.Faults.{halts, fits, too_wide}
use Rattle.kf_load.proofs.clear.cleared_text.Goals as goal

pub returns-in-Ok-clause-answer : goal.returns-in-Ok-clause-answer
returns-in-Ok-clause-answer c source =
    let cleared = c.in-Ok.cleared in
    let q = program_tree c.args.program in
    let turns = c.args.turns in
    let same = ap program_tree c.in-Ok.ensures.cleared.0 in
    let clear = subst (λ n. IsOk (program_pass n q)) c.in-Ok.ensures.cleared.1 (subst (λ (p : ProgramTree). IsOk (program_pass (turns_of cleared) p)) same cleared.clear) in
    let few = subst (λ n. scale_of n q ≤ limit) c.in-Ok.ensures.cleared.1
    (subst (λ (p : ProgramTree). scale_of (turns_of cleared) p ≤ limit) same (subst (λ n. n ≤ limit) cleared.scale_is cleared.fits)) in
    ap (λ (p : ProgramTree). Ok p) same
    ∙ fits turns (record { name = c.args.name.now; bytes = c.args.bytes.now; source = source; program = q }) clear few

pub returns-in-Err-Fault-clause-answer : goal.returns-in-Err-Fault-clause-answer
returns-in-Err-Fault-clause-answer c source =
    rw (c.place-line.ensures.line, c.place-line.ensures.column, c.fault_word-word.ensures)
    (halts c.args.turns (record { name = c.args.name.now; bytes = c.args.bytes.now; source = source; program = program_tree c.args.program })
    (halted c.in-Err-Fault.kind c.in-Err-Fault.at) (c.in-Err-Fault.ensures.fault c.in-Err-Fault.kind c.in-Err-Fault.at (ap Err c.in-Err-Fault.field-0-is)))

pub returns-in-Err-Scale-clause-answer : goal.returns-in-Err-Scale-clause-answer
returns-in-Err-Scale-clause-answer c source =
    let wide = c.in-Err-Scale.ensures.scale (ap Err c.in-Err-Scale.field-0-is) in
    too_wide c.args.turns (record { name = c.args.name.now; bytes = c.args.bytes.now; source = source; program = program_tree c.args.program }) wide.0 wide.1

pub clear-requires : goal.clear-requires
clear-requires c = record { checked = c.requires.checked; some_turns = c.requires.some_turns; few_turns = c.requires.few_turns }

pub place-line-requires : goal.place-line-requires
place-line-requires c = c.requires.short

pub returns-in-Ok-clause-program : goal.returns-in-Ok-clause-program
returns-in-Ok-clause-program c = ap program_tree c.in-Ok.ensures.cleared.0

pub returns-in-Ok-clause-turns : goal.returns-in-Ok-clause-turns
returns-in-Ok-clause-turns c = c.in-Ok.ensures.cleared.1
