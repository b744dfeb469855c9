use Rattle.std.proofs.Common.{rules, map, Ok, sym, ◌∙◌, arith, subst, ap}
use Rattle.std.proofs.lemmas.Result.{err_from_is_err_and}
use Rattle.kf_value.specs.Shapes.{shape_sizes, shape_types}
use Rattle.kf_value.specs.Types.{product}
use Rattle.kf_value.proofs.ListLemmas.{left_step, left_end}
use Rattle.kf_core.specs.declared.st.St.{the_lemmas}
use Rattle.kf_core.specs.Views.{st_tree}
use Rattle.kf_eval.specs.Kinds.{shape_kinds}
use Rattle.kf_core.proofs.SoundParts as sound
use Rattle.kf_support.specs.Answers.{AnswersPass}
use Rattle.kf_support.specs.Carried.{carry}
use Rattle.kf_support.proofs.Passing as pass
use Rattle.kf_support.proofs.Settling.{both_reached, settled_reached}
use Rattle.kf_support.proofs.Adding.{no_ways}
use Rattle.kf_support.proofs.passes.+pass.Goals as goal

pub pass-assign-requires-clause-variable : goal.pass-assign-requires-clause-variable
pass-assign-requires-clause-variable t c =
    let known = sound.assign_parts (shape_kinds c.args.shape.now) c.args.statement.now c.requires.sound c.in-Assign.slot c.in-Assign.dist c.in-Assign.shown c.in-Assign.is in
    sound.variable_within c.args.shape.now c.in-Assign.slot c.from.result known.0 c.from.ensures known.1.0

pub pass-pass_while-requires : goal.pass-pass_while-requires
pass-pass_while-requires t c =
    let ks = shape_kinds c.args.shape.now in (
      search (rules, the_lemmas),
      (
        sound.while_guard ks c.args.statement.now c.requires.sound c.in-While.test c.in-While.body c.in-While.is,
        (sound.body_sound ks c.args.statement.now c.requires.sound c.in-While.test c.in-While.body c.in-While.is c.as_slice-in-While.result.now c.as_slice-in-While.ensures, c.requires.ways),
      ),
    )

pub pass_all-pass-requires : goal.pass_all-pass-requires
pass_all-pass-requires t c =
    let here = left_step st_tree c.args.statements.now c.loop-statement.statement-index c.statement-item.result (omega arith) c.statement-item.is in
    let before = rw here at c.loop-statement.invariant in
    (search (rules, the_lemmas), (pass.pass_sound c.args.shape.now c.args.turns _ _ _ _ before, before.ways))

pub pass_all-loop-statement-preserved : goal.pass_all-loop-statement-preserved
pass_all-loop-statement-preserved t c =
    let here = left_step st_tree c.args.statements.now c.loop-statement.statement-index c.statement-item.result (omega arith) c.statement-item.is in
    let before = rw here at c.loop-statement.invariant in
    pass.pass_step c.args.shape.now c.args.turns _ _ _ _ before c.in_ok-states.states.items c.in_ok-states.ensures.answer c.in_ok-states.ensures.ways

pub pass_while-returns-then-is_empty-clause-answer : goal.pass_while-returns-then-is_empty-clause-answer
pass_while-returns-then-is_empty-clause-answer t c =
    let taken = rw c.as_slice.ensures.value at c.in_ok-branches.ensures.taken in
    let left = rw c.as_slice.ensures.value at c.in_ok-branches.ensures.left ∙ (λ i. Ok (sym c.in_ok-gone.ensures.same i)) in
    pass.none_taken c.args.shape.now c.args.turns c.args.test.now (map st_tree c.args.body.now) _ c.loop-turn._turn c.loop-turn.gone.items c.loop-turn.states.items c.loop-turn.invariant
    (omega arith) c.in_ok-branches.branches.taken.items c.in_ok-gone.gone.items taken left c.carry_laws.ensures.nothing
    (pass.no_stores c.in_ok-branches.branches.taken.items (search rules))
    ∙ (λ i. Ok (sym c.in_ok-reached.ensures.settled i))

pub pass_while-returns-in_err-states-clause-answer : goal.pass_while-returns-in_err-states-clause-answer
pass_while-returns-in_err-states-clause-answer t c =
    let taken = rw c.as_slice.ensures.value at c.in_ok-branches.ensures.taken in
    let left = rw c.as_slice.ensures.value at c.in_ok-branches.ensures.left ∙ (λ i. Ok (sym c.in_ok-gone.ensures.same i)) in
    let p = err_from_is_err_and c.from_residual-in_err-states.result c.from_residual-in_err-states.ensures.1 in
    rw (p.1, p.2)
    (pass.body_fails c.args.shape.now c.args.turns c.args.test.now (map st_tree c.args.body.now) _ c.loop-turn._turn c.loop-turn.gone.items c.loop-turn.states.items c.loop-turn.invariant
    (omega arith) c.in_ok-branches.branches.taken.items c.in_ok-gone.gone.items taken left c.in_err-states.field-0.0 c.in_err-states.ensures.answer)

pub pass_while-loop-turn-preserved : goal.pass_while-loop-turn-preserved
pass_while-loop-turn-preserved t c =
    let taken = rw c.as_slice.ensures.value at c.in_ok-branches.ensures.taken in
    let left = rw c.as_slice.ensures.value at c.in_ok-branches.ensures.left ∙ (λ i. Ok (sym c.in_ok-gone.ensures.same i)) in
    pass.body_done c.args.shape.now c.args.turns c.args.test.now (map st_tree c.args.body.now) _ c.loop-turn._turn c.loop-turn.gone.items c.loop-turn.states.items c.loop-turn.invariant
    (omega arith) c.in_ok-branches.branches.taken.items c.in_ok-gone.gone.items taken left
    c.in_ok-states.states.items c.in_ok-states.ensures.answer c.in_ok-states.ensures.ways (c.in_ok-gone.ensures.ways (product (shape_sizes c.args.shape.now)) c.in_ok-branches.ensures.ways.1)

pub pass-pass_all-requires : goal.pass-pass_all-requires
pass-pass_all-requires t c =
    let parts = sound.yes_sound (shape_kinds c.args.shape.now) c.args.statement.now c.requires.sound c.in-If.test c.in-If.yes c.in-If.no c.in-If.is c.as_slice-in-If-2.result.now c.as_slice-in-If-2.ensures in
    (search (rules, the_lemmas), (parts, c.in_ok-branches-in-If.ensures.ways.0))

pub pass-pass_all-requires-in-If : goal.pass-pass_all-requires-in-If
pass-pass_all-requires-in-If t c =
    let parts = sound.no_sound (shape_kinds c.args.shape.now) c.args.statement.now c.requires.sound c.in-If.test c.in-If.yes c.in-If.no c.in-If.is c.as_slice-in-If-3.result.now c.as_slice-in-If-3.ensures in
    (search (rules, the_lemmas), (parts, settled_reached (product (shape_sizes c.args.shape.now)) c.in_ok-branches-in-If.branches.left.items c.in_ok-left-in-If.left.items c.in_ok-branches-in-If.ensures.ways.1 c.in_ok-left-in-If.ensures.settled))

pub pass-returns-in_ok-reached-in-If-clause-ways : goal.pass-returns-in_ok-reached-in-If-clause-ways
pass-returns-in_ok-reached-in-If-clause-ways t c =
    both_reached (product (shape_sizes c.args.shape.now)) c.in_ok-one-in-If.one.items c.in_ok-other-in-If.other.items c.in_ok-reached-in-If.reached.items c.in_ok-one-in-If.ensures.ways
    c.in_ok-other-in-If.ensures.ways c.in_ok-reached-in-If.ensures.all

pub pass_while-returns-in_err-branches-clause-answer : goal.pass_while-returns-in_err-branches-clause-answer
pass_while-returns-in_err-branches-clause-answer t c =
    let p = err_from_is_err_and c.from_residual.result c.from_residual.ensures.1 in
    let fault = rw c.as_slice.ensures.value at c.in_err-branches.ensures.fault in
    rw (p.1, p.2)
    (pass.guard_fails c.args.shape.now c.args.turns c.args.test.now (map st_tree c.args.body.now) _ c.loop-turn._turn c.loop-turn.gone.items c.loop-turn.states.items c.loop-turn.invariant
    (omega arith) c.in_err-branches.field-0.0 fault)

pub pass_while-returns-then-is_empty-clause-ways : goal.pass_while-returns-then-is_empty-clause-ways
pass_while-returns-then-is_empty-clause-ways t c =
    let size = product (shape_sizes c.args.shape.now) in
    settled_reached size c.in_ok-gone.gone.items c.in_ok-reached.reached.items (c.in_ok-gone.ensures.ways size c.in_ok-branches.ensures.ways.1) c.in_ok-reached.ensures.settled

pub pass_while-settled-requires : goal.pass_while-settled-requires
pass_while-settled-requires t c =
    let size = product (shape_sizes c.args.shape.now) in
    record { ways = (size, c.in_ok-gone.ensures.ways size c.in_ok-branches.ensures.ways.1) }

pub pass-assign-requires-clause-kinded : goal.pass-assign-requires-clause-kinded
pass-assign-requires-clause-kinded t c =
    let known = sound.assign_parts (shape_kinds c.args.shape.now) c.args.statement.now c.requires.sound c.in-Assign.slot c.in-Assign.dist c.in-Assign.shown c.in-Assign.is in
    (known.0, known.1.1)

pub pass-assign-requires-clause-ways : goal.pass-assign-requires-clause-ways
pass-assign-requires-clause-ways t c = rw c.as_slice.ensures.value c.requires.ways.0

pub pass-observe-requires-clause-kinded : goal.pass-observe-requires-clause-kinded
pass-observe-requires-clause-kinded t c = sound.observe_parts (shape_kinds c.args.shape.now) c.args.statement.now c.requires.sound c.in-Observe.dist c.in-Observe.is

pub pass-guard-requires-clause-kinded : goal.pass-guard-requires-clause-kinded
pass-guard-requires-clause-kinded t c = sound.if_guard (shape_kinds c.args.shape.now) c.args.statement.now c.requires.sound c.in-If.test c.in-If.yes c.in-If.no c.in-If.is

pub pass-guard-requires-clause-ways : goal.pass-guard-requires-clause-ways
pass-guard-requires-clause-ways t c = rw c.as_slice-in-If.ensures.value c.requires.ways.0

pub pass-guard-requires-clause-left_ways : goal.pass-guard-requires-clause-left_ways
pass-guard-requires-clause-left_ways t c = rw c.new.ensures.items (no_ways (product (shape_sizes c.args.shape.now)))

pub pass-settled-requires : goal.pass-settled-requires
pass-settled-requires t c = record { ways = ((product (shape_sizes c.args.shape.now)), c.in_ok-branches-in-If.ensures.ways.1) }

pub pass-add_all-requires-clause-one : goal.pass-add_all-requires-clause-one
pass-add_all-requires-clause-one t c = ((product (shape_sizes c.args.shape.now)), c.in_ok-one-in-If.ensures.ways)

pub pass-add_all-requires-clause-other : goal.pass-add_all-requires-clause-other
pass-add_all-requires-clause-other t c = ((product (shape_sizes c.args.shape.now)), c.in_ok-other-in-If.ensures.ways)

pub pass_all-returns-clause-answer : goal.pass_all-returns-clause-answer
pass_all-returns-clause-answer t c =
    let used = left_end st_tree c.args.statements.now c.loop-statement.statement-index (omega arith) in
    pass.pass_end c.args.shape.now c.args.turns _ c.loop-statement.states.items (rw used at c.loop-statement.invariant)

pub pass_all-returns-clause-ways : goal.pass_all-returns-clause-ways
pass_all-returns-clause-ways t c = c.loop-statement.invariant.ways

pub pass_while-guard-requires-clause-ways : goal.pass_while-guard-requires-clause-ways
pass_while-guard-requires-clause-ways t c = rw c.as_slice.ensures.value c.loop-turn.invariant.ways.0

pub pass_while-guard-requires-clause-left_ways : goal.pass_while-guard-requires-clause-left_ways
pass_while-guard-requires-clause-left_ways t c = c.loop-turn.invariant.left_ways

pub pass_while-shortened-requires : goal.pass_while-shortened-requires
pass_while-shortened-requires t c = record { ways = ((product (shape_sizes c.args.shape.now)), c.in_ok-branches.ensures.ways.1) }

pub pass_while-pass_all-requires : goal.pass_while-pass_all-requires
pass_while-pass_all-requires t c = (search (rules, the_lemmas), (c.requires.sound, c.in_ok-branches.ensures.ways.0))

pub pass-returns-in-Assign-clause-answer : goal.pass-returns-in-Assign-clause-answer
pass-returns-in-Assign-clause-answer t c =
    let same = ap st_tree c.in-Assign.is ∙ sound.tree-Assign c.in-Assign.slot c.in-Assign.dist c.in-Assign.shown in
    let answer = rw (c.as_slice.ensures.value, c.from.ensures) at c.assign.ensures.answer in
    subst (λ s. AnswersPass c.assign.result (carry (shape_types c.args.shape.now) c.args.turns s c.args.from.items)) (sym same) answer

pub pass-returns-in-Observe-clause-answer : goal.pass-returns-in-Observe-clause-answer
pass-returns-in-Observe-clause-answer t c =
    let same = ap st_tree c.in-Observe.is ∙ sound.tree-Observe c.in-Observe.dist in
    subst (λ s. AnswersPass c.observe.result (carry (shape_types c.args.shape.now) c.args.turns s c.args.from.items)) (sym same) c.observe.ensures.answer
