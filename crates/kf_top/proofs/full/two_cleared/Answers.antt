use Rattle.std.proofs.Common.{sym, subst}
use Rattle.kf_core.specs.Programs.{ProgramTree}
use Rattle.kf_load.specs.Steps.{Each, Gives}
use Rattle.kf_load.specs.Texts.{cleared}
use Rattle.kf_load.specs.Views.{texts_in}
use Rattle.kf_prior.specs.Laws.{IsFull}
use Rattle.kf_top.proofs.Steps.{lift_own, lift_stops}
use Rattle.kf_top.proofs.full.two_cleared.Goals as goal

pub returns-in-Ok-clause-first_full : goal.returns-in-Ok-clause-first_full
returns-in-Ok-clause-first_full c = subst (λ (p : ProgramTree). IsFull p) (sym c.in-Ok.ensures.first_program) c.requires.first_full

pub returns-in-Ok-clause-second_full : goal.returns-in-Ok-clause-second_full
returns-in-Ok-clause-second_full c = subst (λ (p : ProgramTree). IsFull p) (sym c.in-Ok.ensures.second_program) c.requires.second_full

pub returns-in-Err-clause-answer : goal.returns-in-Err-clause-answer
returns-in-Err-clause-answer c =
    rw c.lift.ensures (lift_stops (Each (λ t. Gives (cleared c.args.turns t)) (texts_in c.args.first.now c.args.second.now c.args.texts)) c.in-Err.stop c.in-Err.ensures.answer)

pub returns-in-Err-clause-read : goal.returns-in-Err-clause-read
returns-in-Err-clause-read c = rw c.lift.ensures (lift_own c.in-Err.stop c.in-Err.ensures.read)
