use Rattle.std.proofs.Common.{arith, sym, subst}
use Rattle.std.proofs.lemmas.Result.{err_from_is_err_and}
use Rattle.kf_core.proofs.SoundParts as sound
use Rattle.kf_support.specs.Answers.{AnswersPass}
use Rattle.kf_support.proofs.Declaring as declaring
use Rattle.kf_support.proofs.passes.pass_program.Goals as goal

pub loop-i-init : goal.loop-i-init
loop-i-init c =
    declaring.decls_start c.args.program.now c.args.turns c.new-states.result.items c.push.new.self.items c.new-states.ensures.items c.in_ok-push.ensures.items

pub assign-requires-clause-kinded : goal.assign-requires-clause-kinded
assign-requires-clause-kinded c =
    sound.decl_kinded c.args.program.now c.requires c.as_slice-decls.result.now c.loop-i.i c.index-decls-i.result c.as_slice-decls.ensures (omega arith) c.index-decls-i.is

pub pass_all-requires-clause-sound : goal.pass_all-requires-clause-sound
pass_all-requires-clause-sound c = sound.whole_sound c.args.program.now c.requires c.as_slice-2.result.now c.as_slice-2.ensures

pub assign-requires-clause-ways : goal.assign-requires-clause-ways
assign-requires-clause-ways c = rw c.as_slice.ensures.value c.loop-i.invariant.ways.0

pub returns-in_err-states-clause-answer : goal.returns-in_err-states-clause-answer
returns-in_err-states-clause-answer c =
    let p = err_from_is_err_and c.from_residual-in_err-states.result c.from_residual-in_err-states.ensures.1 in
    let fault = rw c.as_slice.ensures.value at c.in_err-states.ensures.answer in
    rw (p.1, p.2)
    (declaring.decl_fails c.args.program.now c.args.turns c.loop-i.i c.loop-i.states.items c.loop-i.invariant c.as_slice-decls.result.now
    c.index-decls-i.result c.as_slice-decls.ensures (omega arith) c.index-decls-i.is c.in_err-states.field-0.0 fault)

pub loop-i-preserved : goal.loop-i-preserved
loop-i-preserved c =
    let done = rw c.as_slice.ensures.value at c.in_ok-states.ensures.answer in
    declaring.decl_done c.args.program.now c.args.turns c.loop-i.i c.loop-i.states.items c.loop-i.invariant c.as_slice-decls.result.now
    c.index-decls-i.result c.as_slice-decls.ensures (omega arith) c.index-decls-i.is c.in_ok-states.states.items done c.in_ok-states.ensures.ways

pub copy-requires-clause-ways : goal.copy-requires-clause-ways
copy-requires-clause-ways c = c.loop-i.invariant.ways

pub returns-in_err-copied-clause-answer : goal.returns-in_err-copied-clause-answer
returns-in_err-copied-clause-answer c =
    let p = err_from_is_err_and c.from_residual-in_err-copied.result c.from_residual-in_err-copied.ensures.1 in
    rw (p.1, p.2)
    (declaring.copy_fails c.args.program.now c.args.turns c.loop-i.i c.loop-i.states.items c.loop-i.invariant c.as_slice-decls.result.now c.as_slice-decls.ensures (omega arith)
    c.in_err-copied.field-0.0 c.in_err-copied.ensures.answer)

pub pass_all-requires-clause-ways : goal.pass_all-requires-clause-ways
pass_all-requires-clause-ways c = c.in_ok-copied.ensures.ways

pub returns-clause-answer : goal.returns-clause-answer
returns-clause-answer c =
    let same =
    declaring.body_is c.args.program.now c.args.turns c.loop-i.i c.loop-i.states.items c.loop-i.invariant c.as_slice-decls.result.now c.as_slice-decls.ensures (omega arith)
    c.as_slice-2.result.now c.in_ok-copied.copied.items c.as_slice-2.ensures c.in_ok-copied.ensures.answer in
    subst (AnswersPass c.pass_all.result) (sym same) c.pass_all.ensures.answer
