use Rattle.kf_laws.proofs.ClearedPrograms.{AreClear, are_clear}
use Rattle.kf_laws.proofs.OneAnswer.{one_answer}
use Rattle.kf_laws.proofs.ProperHypers.{AreProper, are_proper}
use Rattle.kf_laws.proofs.SomeAnswer.{some_answer}
use Rattle.kf_laws.proofs.definitions.exactly_one_answer.Goals as goal

pub returns : goal.returns
returns c words programs tables =
    let read = c.one_reading.ensures in
    let program = c.grammar.ensures in
    let refused = c.refusals.ensures in
    let typed = c.type_laws.ensures in
    let joint = c.joint_laws.ensures in
    let run = c.run_laws.ensures in
    let average = c.average_laws.ensures in
    let gain = c.gain_laws.ensures in
    let table = c.table_laws.ensures in
    let trail = c.trail_laws.ensures in
    let verdict = c.one_verdict.ensures in
    let mark = c.mark_laws.ensures in
    let attack = c.attack_laws.ensures in
    let reach = c.reach_laws.ensures in
    let blame = c.blame_laws.ensures in
    let silent = c.silent_hypers.ensures in
    let clear : AreClear = are_clear c.full_laws.ensures.built typed.checked typed.sizes program.built in
    let proper : AreProper = are_proper joint.whole run.positive run.least in
    let one = one_answer read program.one refused.both refused.refusal typed.one typed.typed table.one joint.one_rows joint.one_hyper average.one verdict.one mark.one clear proper
    gain.one trail.only attack.one reach.one blame.only silent.only programs tables c.tasks_in_range.ensures words in
    let some = some_answer read.read refused.either program.built typed.either typed.told c.full_laws.ensures.built table.some table.actions joint.rows c.some_secrets.ensures joint.hyper average.some
    verdict.some c.verdict_laws.ensures.prove c.cert_laws.ensures.read_sound mark.some clear proper gain.some trail.some attack.some reach.some blame.some silent.some programs tables c.tasks_in_range.ensures words in
    (some.0, some.1, λ other is. one other some.0 is some.1)
