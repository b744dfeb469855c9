use Rattle.std.proofs.Common.{◌≡◌, ℕ, ◌≤◌, ◌<◌, arith, map, string_bytes, ⊎_elim}
use Rattle.std.proofs.lemmas.Bool.{cases_lt}
use Rattle.kf_laws.proofs.runs.run_over_sure_files.Goals as goal

pub returns-clause-no_write_fails : goal.returns-clause-no_write_fails
returns-clause-no_write_fails g c room failed =
    let part = (c.told_answers.ensures (map string_bytes c.args.words.now) _ _ _ _ _ _ c.run.ensures.causes).part failed in
    absurd (omega (arith, part.no_room, room part.answer part.is_answer))

pub returns-clause-no_fault : goal.returns-clause-no_fault
returns-clause-no_fault g c room =
    let before : ℕ = g.O.Sink.faults c.args.out.now in
    let now : ℕ = g.O.Sink.faults c.run.new.out in
    ⊎_elim (λ (rose : before < now). absurd (returns-clause-no_write_fails g c room (c.run.ensures.causes.write_shown rose))) (λ (le : now ≤ before). le) (cases_lt before now)

pub returns-clause-answered : goal.returns-clause-answered
returns-clause-answered g c room had =
    let read : c.run.result ≡ 3 → ⊥ = λ failed. let rose = (c.run.ensures.causes.read failed).rose in absurd (omega (arith, rose)) in
    (c.told_answers.ensures (map string_bytes c.args.words.now) _ _ _ _ _ _ c.run.ensures.causes).decided read (returns-clause-no_write_fails g c room) had
