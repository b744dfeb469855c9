use Rattle.std.proofs.Common.{rules, ◌≡◌, ◌+◌, ◌-◌, List, [], ◌∷◌, ap, subst, ◌∙◌, sym, map, drop, reverse, arith, false, refl}
use Rattle.std.proofs.lemmas.List.Elements.{All-cons, All-map, All-nil, All-same}
use Rattle.std.specs.Prelude.{flat_map, IfOk}
use Rattle.std.specs.Vec.Iter.{into_iter_items}
use Rattle.kf_value.specs.Kinds.{TruthKind}
use Rattle.kf_value.specs.Shapes.{shape_size, shape_types}
use Rattle.kf_value.proofs.ListLemmas.{left_step, left_end, map-reverse}
use Rattle.kf_core.specs.declared.st.St.{the_lemmas}
use Rattle.kf_core.specs.Sts.{sts}
use Rattle.kf_core.specs.Views.{dx_tree, st_tree}
use Rattle.kf_core.specs.Runs.{tried}
use Rattle.kf_eval.specs.Kinds.{shape_kinds}
use Rattle.kf_core.proofs.SoundParts as pass
use Rattle.kf_traces.specs.declared.walks.Visit.TheVariants as code
use Rattle.kf_traces.specs.Traced.{Traced, all_traced, assignment_traced, loop_traced}
use Rattle.kf_traces.specs.Views.{traced_of}
use Rattle.kf_traces.specs.Visits.{VisitTree, Asks, Left, visit_of, visitor, visits_next}
use Rattle.kf_traces.proofs.Walking as walking
use Rattle.kf_traces.proofs.WalkingLoops as loops
use Rattle.kf_traces.proofs.WalkingStatements as form
use Rattle.kf_traces.proofs.walks.+walk.Goals as goal
use Rattle.kf_traces.proofs.walks.+walk.Goals.{walk_each-then-ends_true, walk_each-else-ends_true}

pub ask_again-returns-clause-fits : goal.ask_again-returns-clause-fits
ask_again-returns-clause-fits t c =
    let size = shape_size c.args.shape.now in
    let fits = λ (v : VisitTree). walking.InSize size (visitor v) in
    let asks = λ (s : Traced). Asks s (c.args.rest - 1) in
    All-same fits (map visit_of c.in_ok-asking.asking.items) (map asks (map traced_of c.in_ok-walked.walked.items)) c.in_ok-asking.ensures
    (All-map fits asks (map traced_of c.in_ok-walked.walked.items) c.in_ok-walked.ensures.fits)

pub turn-ask_again-requires : goal.turn-ask_again-requires
turn-ask_again-requires t c =
    let size = shape_size c.args.shape.now in
    let next = visits_next (walking.ends_of c.args.shape.now c.args.turns (map st_tree c.args.body.now)) c.args.rest in (
      search (rules, the_lemmas),
      (
        c.requires.sound,
        walking.goes_next next (walking.InSize size) (λ v. walking.InSize size (visitor v)) (flat_map next (map traced_of c.args.states.items)) (map visit_of c.loop-state.visits.items) (map traced_of (into_iter_items c.loop-state.state-iterator)) (traced_of c.in-Some.state) (map traced_of (into_iter_items c.next.new.self))
            (ap (map traced_of) c.in-Some.ensures.steps.0) c.loop-state.invariant,
      ),
    )

pub turn-loop-state-preserved-then-ends_true : goal.turn-loop-state-preserved-then-ends_true
turn-loop-state-preserved-then-ends_true t c =
    let size = shape_size c.args.shape.now in
    let body = walking.ends_of c.args.shape.now c.args.turns (map st_tree c.args.body.now) in
    walking.goes_step (visits_next body c.args.rest) (walking.InSize size) (λ v. walking.InSize size (visitor v)) (flat_map (visits_next body c.args.rest) (map traced_of c.args.states.items)) (map visit_of c.loop-state.visits.items) (map traced_of (into_iter_items c.loop-state.state-iterator)) (traced_of c.in-Some.state)
    (map traced_of (into_iter_items c.next.new.self)) (ap (map traced_of) c.in-Some.ensures.steps.0) c.loop-state.invariant
    (map visit_of c.in_ok-asking.asking.items) (map visit_of c.append.new.self.items)
    (loops.asked_next body c.args.rest (traced_of c.in-Some.state) (map visit_of c.in_ok-asking.asking.items) c.in_ok-asking.ensures.visits (sym c.if-ends_true.true ∙ c.ends_true.ensures))
    (walking.mapped_joined visit_of c.append.new.self.items c.loop-state.visits.items c.in_ok-asking.asking.items c.in_ok-append.ensures.items) c.in_ok-asking.ensures.fits

pub turn-loop-state-preserved : goal.turn-loop-state-preserved
turn-loop-state-preserved t c =
    let size = shape_size c.args.shape.now in
    let body = walking.ends_of c.args.shape.now c.args.turns (map st_tree c.args.body.now) in
    let s = traced_of c.in-Some.state in
    let kept = λ (v : VisitTree). walking.InSize size (visitor v) in
    let before = c.loop-state.invariant in
    let step : map traced_of (into_iter_items c.loop-state.state-iterator) ≡ s ∷ map traced_of (into_iter_items c.next.new.self) = ap (map traced_of) c.in-Some.ensures.steps.0 in
    walking.goes_step (visits_next body c.args.rest) (walking.InSize size) (λ v. walking.InSize size (visitor v)) (flat_map (visits_next body c.args.rest) (map traced_of c.args.states.items)) (map visit_of c.loop-state.visits.items) (map traced_of (into_iter_items c.loop-state.state-iterator)) s
    (map traced_of (into_iter_items c.next.new.self)) step before (Left s ∷ []) (map visit_of c.push.new.self.items)
    (loops.next_is body c.args.rest s false (sym c.if-ends_true.false ∙ c.ends_true.ensures))
    (walking.mapped_joined visit_of c.push.new.self.items c.loop-state.visits.items (code.Left c.in-Some.state ∷ []) c.in_ok-push.ensures.items)
    (All-cons kept (Left s) [] (walking.goes_next (visits_next body c.args.rest) (walking.InSize size) (λ v. walking.InSize size (visitor v)) (flat_map (visits_next body c.args.rest) (map traced_of c.args.states.items)) (map visit_of c.loop-state.visits.items) (map traced_of (into_iter_items c.loop-state.state-iterator)) s (map traced_of (into_iter_items c.next.new.self)) step before) (All-nil kept))

pub walk_each-assigned_all-requires-clause-variable : goal.walk_each-assigned_all-requires-clause-variable
walk_each-assigned_all-requires-clause-variable t c =
    let known = pass.assign_parts (shape_kinds c.args.shape.now) c.args.statement.now c.requires.sound c.in-Assign.slot c.in-Assign.dist c.in-Assign.shown c.in-Assign.is in
    pass.variable_within c.args.shape.now c.in-Assign.slot c.from.result known.0 c.from.ensures known.1.0

pub walk_each-walk_loops-requires : goal.walk_each-walk_loops-requires
walk_each-walk_loops-requires t c =
    let ks = shape_kinds c.args.shape.now in (
      search (rules, the_lemmas),
      (
        pass.while_guard ks c.args.statement.now c.requires.sound c.in-While.test c.in-While.body c.in-While.is,
        (pass.body_sound ks c.args.statement.now c.requires.sound c.in-While.test c.in-While.body c.in-While.is c.as_slice.result.now c.as_slice.ensures, c.requires.fits),
      ),
    )

pub walk_each-walk_all-requires : goal.walk_each-walk_all-requires
walk_each-walk_all-requires t c =
    let size = shape_size c.args.shape.now in
    let ts = shape_types c.args.shape.now in
    let ks = shape_kinds c.args.shape.now in
    let next = form.branch_of ts c.args.turns c.in-If.yes c.in-If.no in
    let s = traced_of c.in-Some.state in
    let step : map traced_of (into_iter_items c.loop-state.state-iterator) ≡ s ∷ map traced_of (into_iter_items c.next.new.self) = ap (map traced_of) c.in-Some.ensures.steps.0 in
    let fits = walking.goes_next next (walking.InSize size) (walking.InSize size) (flat_map next (map traced_of (into_iter_items c.into_iter-state-iterator.result))) (map traced_of c.loop-state.next.items) (map traced_of (into_iter_items c.loop-state.state-iterator)) s (map traced_of (into_iter_items c.next.new.self)) step c.loop-state.invariant in
    elim c.if-ends_true.branch [
      | walk_each-then-ends_true w ↦
          rw w.block-is (search (rules, the_lemmas), (pass.yes_sound ks c.args.statement.now c.requires.sound c.in-If.test c.in-If.yes c.in-If.no c.in-If.is w.as_slice-block.result.now w.as_slice-block.ensures, fits))
      | walk_each-else-ends_true w ↦
          rw w.block-is (search (rules, the_lemmas), (pass.no_sound ks c.args.statement.now c.requires.sound c.in-If.test c.in-If.yes c.in-If.no c.in-If.is w.as_slice-block-else-ends_true.result.now w.as_slice-block-else-ends_true.ensures, fits))
    ]

pub walk_each-loop-state-preserved : goal.walk_each-loop-state-preserved
walk_each-loop-state-preserved t c =
    let size = shape_size c.args.shape.now in
    let ts = shape_types c.args.shape.now in
    let next = form.branch_of ts c.args.turns c.in-If.yes c.in-If.no in
    let s = traced_of c.in-Some.state in
    let walked = map traced_of c.in_ok-walked-in-If.walked.items in
    let step : map traced_of (into_iter_items c.loop-state.state-iterator) ≡ s ∷ map traced_of (into_iter_items c.next.new.self) = ap (map traced_of) c.in-Some.ensures.steps.0 in
    let went : walked ≡ next s =
    elim c.if-ends_true.branch [
      | walk_each-then-ends_true w ↦
          form.took_first ts c.args.turns c.in-If.yes c.in-If.no s c.if-ends_true.block.now walked c.in_ok-walked-in-If.ensures.walked (sym w.if-ends_true.true ∙ c.ends_true.ensures) ((λ i. (w.block-is i).now) ∙ w.as_slice-block.ensures)
      | walk_each-else-ends_true w ↦
          form.took_second ts c.args.turns c.in-If.yes c.in-If.no s c.if-ends_true.block.now walked c.in_ok-walked-in-If.ensures.walked (sym w.if-ends_true.false ∙ c.ends_true.ensures) ((λ i. (w.block-is i).now) ∙ w.as_slice-block-else-ends_true.ensures)
    ] in
    walking.goes_step next (walking.InSize size) (walking.InSize size) (flat_map next (map traced_of (into_iter_items c.into_iter-state-iterator.result))) (map traced_of c.loop-state.next.items) (map traced_of (into_iter_items c.loop-state.state-iterator)) s (map traced_of (into_iter_items c.next.new.self)) step c.loop-state.invariant
    walked (map traced_of c.append.new.self.items) went
    (walking.mapped_joined traced_of c.append.new.self.items c.loop-state.next.items c.in_ok-walked-in-If.walked.items c.in_ok-append-in-If.ensures.items) c.in_ok-walked-in-If.ensures.fits

pub walk_all-walk_each-requires : goal.walk_all-walk_each-requires
walk_all-walk_each-requires t c =
    let here = left_step st_tree c.args.statements.now c.loop-statement.statement-index c.statement-item.result (omega arith) c.statement-item.is in
    let before = rw here at c.loop-statement.invariant in
    (search (rules, the_lemmas), (walking.block_sound c.args.shape.now c.args.turns (walking.ends_of c.args.shape.now c.args.turns (map st_tree c.args.statements.now) (traced_of c.args.from)) (st_tree c.statement-item.result) (map st_tree (drop (c.loop-statement.statement-index + 1) c.args.statements.now)) (map traced_of c.loop-statement.states.items) before, before.fits))

pub walk_all-loop-statement-preserved : goal.walk_all-loop-statement-preserved
walk_all-loop-statement-preserved t c =
    let here = left_step st_tree c.args.statements.now c.loop-statement.statement-index c.statement-item.result (omega arith) c.statement-item.is in
    let before = rw here at c.loop-statement.invariant in
    walking.block_step c.args.shape.now c.args.turns (walking.ends_of c.args.shape.now c.args.turns (map st_tree c.args.statements.now) (traced_of c.args.from)) (st_tree c.statement-item.result) (map st_tree (drop (c.loop-statement.statement-index + 1) c.args.statements.now)) (map traced_of c.loop-statement.states.items) before (map traced_of c.in_ok-states-2.states.items) c.in_ok-states-2.ensures.walked c.in_ok-states-2.ensures.fits

pub walk_all-returns-clause-walked : goal.walk_all-returns-clause-walked
walk_all-returns-clause-walked t c =
    walking.block_end c.args.shape.now c.args.turns _ _ (map traced_of c.loop-statement.states.items) (left_end st_tree c.args.statements.now c.loop-statement.statement-index (omega arith)) c.loop-statement.invariant

pub walk_while-leak-requires-clause-fits : goal.walk_while-leak-requires-clause-fits
walk_while-leak-requires-clause-fits t c =
    let size = shape_size c.args.shape.now in
    let guard = tried (shape_types c.args.shape.now) (dx_tree c.args.test.now) in
    let body = walking.ends_of c.args.shape.now c.args.turns (map st_tree c.args.body.now) in
    let whole = loop_traced c.args.turns guard body (traced_of c.args.from) in
    let ended = map traced_of c.loop-visit.ended.items in
    let visits = map visit_of c.loop-visit.visits.items in
    let rest = map visit_of c.pop.new.self.items in
    let s = traced_of c.in-Asks.state in
    let k = c.in-Asks.rest in
    let is = walking.mapped_last visit_of c.loop-visit.visits.items c.pop.new.self.items c.in-Some.visit (code.Asks c.in-Asks.state c.in-Asks.rest) c.in-Some.ensures.items c.in-Asks.is in
    loops.stack_fits guard body size whole ended visits rest (Asks s k) is c.loop-visit.invariant.on

pub walk_while-loop-visit-preserved : goal.walk_while-loop-visit-preserved
walk_while-loop-visit-preserved t c =
    let size = shape_size c.args.shape.now in
    let guard = tried (shape_types c.args.shape.now) (dx_tree c.args.test.now) in
    let body = walking.ends_of c.args.shape.now c.args.turns (map st_tree c.args.body.now) in
    let whole = loop_traced c.args.turns guard body (traced_of c.args.from) in
    let ended = map traced_of c.loop-visit.ended.items in
    let visits = map visit_of c.loop-visit.visits.items in
    let rest = map visit_of c.pop.new.self.items in
    let s = traced_of c.in-Asks.state in
    let k = c.in-Asks.rest in
    let is = walking.mapped_last visit_of c.loop-visit.visits.items c.pop.new.self.items c.in-Some.visit (code.Asks c.in-Asks.state c.in-Asks.rest) c.in-Some.ensures.items c.in-Asks.is in
    let next = map visit_of c.in_ok-next-in-Asks.next.items in
    let turned = map visit_of c.reverse.new.self.items in
    let after = map visit_of c.append.new.self.items in
    let turn : turned ≡ reverse next = ap (map visit_of) c.reverse.ensures.items ∙ map-reverse visit_of c.in_ok-next-in-Asks.next.items in
    let put = walking.mapped_joined visit_of c.append.new.self.items c.pop.new.self.items c.reverse.new.self.items c.in_ok-append-in-Asks.ensures.items in
    record {
      on = loops.stack_asked guard body size whole ended visits rest (Asks s k) is c.loop-visit.invariant.on s k refl (map traced_of c.in_ok-states-in-Asks.states.items) next turned after
          c.in_ok-states-in-Asks.ensures.leaked c.in_ok-next-in-Asks.ensures.visits turn put c.in_ok-next-in-Asks.ensures.fits;
      memo = c.in_ok-states-in-Asks.ensures.memo;
    }

pub walk_while-loop-visit-smaller : goal.walk_while-loop-visit-smaller
walk_while-loop-visit-smaller t c =
    let size = shape_size c.args.shape.now in
    let guard = tried (shape_types c.args.shape.now) (dx_tree c.args.test.now) in
    let body = walking.ends_of c.args.shape.now c.args.turns (map st_tree c.args.body.now) in
    let whole = loop_traced c.args.turns guard body (traced_of c.args.from) in
    let ended = map traced_of c.loop-visit.ended.items in
    let visits = map visit_of c.loop-visit.visits.items in
    let rest = map visit_of c.pop.new.self.items in
    let s = traced_of c.in-Asks.state in
    let k = c.in-Asks.rest in
    let is = walking.mapped_last visit_of c.loop-visit.visits.items c.pop.new.self.items c.in-Some.visit (code.Asks c.in-Asks.state c.in-Asks.rest) c.in-Some.ensures.items c.in-Asks.is in
    let next = map visit_of c.in_ok-next-in-Asks.next.items in
    let turned = map visit_of c.reverse.new.self.items in
    let after = map visit_of c.append.new.self.items in
    let turn : turned ≡ reverse next = ap (map visit_of) c.reverse.ensures.items ∙ map-reverse visit_of c.in_ok-next-in-Asks.next.items in
    let put = walking.mapped_joined visit_of c.append.new.self.items c.pop.new.self.items c.reverse.new.self.items c.in_ok-append-in-Asks.ensures.items in
    loops.asked_falls guard body size whole ended visits rest (Asks s k) is c.loop-visit.invariant.on s k refl (map traced_of c.in_ok-states-in-Asks.states.items) next turned after
    c.in_ok-states-in-Asks.ensures.leaked c.in_ok-next-in-Asks.ensures.visits turn put

pub walk_each-returns-in-None-clause-walked : goal.walk_each-returns-in-None-clause-walked
walk_each-returns-in-None-clause-walked t c =
    let size = shape_size c.args.shape.now in
    let ts = shape_types c.args.shape.now in
    let next = form.branch_of ts c.args.turns c.in-If.yes c.in-If.no in
    let states = map traced_of (into_iter_items c.into_iter-state-iterator.result) in
    let none : into_iter_items c.loop-state.state-iterator ≡ [] = walking.none_left _ (omega (arith, c.in-None.ensures.steps.0, c.loop-state.state-iterator.rest.ok)) in
    form.if_walked ts c.args.turns c.args.statement.now (map traced_of c.args.states.items) c.in-If.test c.in-If.yes c.in-If.no c.in-If.is states (map traced_of c.in_ok-leaks-in-If.leaks.items) (map traced_of c.loop-state.next.items)
    (ap (map traced_of) c.into_iter-state-iterator.ensures.into_iter_gives.0) c.in_ok-leaks-in-If.ensures.leaked
    (walking.goes_end next (walking.InSize size) (walking.InSize size) (flat_map next states) (map traced_of c.loop-state.next.items) (map traced_of (into_iter_items c.loop-state.state-iterator)) (ap (map traced_of) none) c.loop-state.invariant)

pub walk_while-loop-visit-preserved-in-Continue-branch-2 : goal.walk_while-loop-visit-preserved-in-Continue-branch-2
walk_while-loop-visit-preserved-in-Continue-branch-2 t c =
    let size = shape_size c.args.shape.now in
    let guard = tried (shape_types c.args.shape.now) (dx_tree c.args.test.now) in
    let body = walking.ends_of c.args.shape.now c.args.turns (map st_tree c.args.body.now) in
    let whole = loop_traced c.args.turns guard body (traced_of c.args.from) in
    let ended = map traced_of c.loop-visit.ended.items in
    let visits = map visit_of c.loop-visit.visits.items in
    let rest = map visit_of c.pop.new.self.items in
    let s = traced_of c.in-Left.state in
    let is = walking.mapped_last visit_of c.loop-visit.visits.items c.pop.new.self.items c.in-Some.visit (code.Left c.in-Left.state) c.in-Some.ensures.items c.in-Left.is in
    record {
      on = loops.stack_left guard body size whole ended visits rest (Left s) is c.loop-visit.invariant.on s (map traced_of c.push-in-Left.new.self.items) refl
          (walking.mapped_joined traced_of c.push-in-Left.new.self.items c.loop-visit.ended.items (c.in-Left.state ∷ []) c.in_ok-push-in-Left.ensures.items);
      memo = c.loop-visit.invariant.memo;
    }

pub walk_while-loop-visit-smaller-in-Continue-branch-2 : goal.walk_while-loop-visit-smaller-in-Continue-branch-2
walk_while-loop-visit-smaller-in-Continue-branch-2 t c =
    let size = shape_size c.args.shape.now in
    let guard = tried (shape_types c.args.shape.now) (dx_tree c.args.test.now) in
    let body = walking.ends_of c.args.shape.now c.args.turns (map st_tree c.args.body.now) in
    let whole = loop_traced c.args.turns guard body (traced_of c.args.from) in
    let ended = map traced_of c.loop-visit.ended.items in
    let visits = map visit_of c.loop-visit.visits.items in
    let rest = map visit_of c.pop.new.self.items in
    let s = traced_of c.in-Left.state in
    let is = walking.mapped_last visit_of c.loop-visit.visits.items c.pop.new.self.items c.in-Some.visit (code.Left c.in-Left.state) c.in-Some.ensures.items c.in-Left.is in
    loops.left_falls guard body size whole ended visits rest (Left s) is c.loop-visit.invariant.on s refl

pub turn-loop-state-init : goal.turn-loop-state-init
turn-loop-state-init t c =
    let size = shape_size c.args.shape.now in
    let next = visits_next (walking.ends_of c.args.shape.now c.args.turns (map st_tree c.args.body.now)) c.args.rest in
    walking.goes_start next (walking.InSize size) (λ v. walking.InSize size (visitor v)) (map visit_of c.new-visits.result.items) (map traced_of c.args.states.items) (map traced_of (into_iter_items c.into_iter-state-iterator.result))
    (ap (map visit_of) c.new-visits.ensures.items) (ap (map traced_of) c.into_iter-state-iterator.ensures.into_iter_gives.0) c.requires.fits

pub turn-returns-clause-visits : goal.turn-returns-clause-visits
turn-returns-clause-visits t c =
    let size = shape_size c.args.shape.now in
    let next = visits_next (walking.ends_of c.args.shape.now c.args.turns (map st_tree c.args.body.now)) c.args.rest in
    let none : into_iter_items c.loop-state.state-iterator ≡ [] = walking.none_left _ (omega (arith, c.in-None.ensures.steps.0, c.loop-state.state-iterator.rest.ok)) in
    walking.goes_end next (walking.InSize size) (λ v. walking.InSize size (visitor v)) (flat_map next (map traced_of c.args.states.items)) (map visit_of c.loop-state.visits.items) (map traced_of (into_iter_items c.loop-state.state-iterator))
    (ap (map traced_of) none) c.loop-state.invariant

pub turn-returns-clause-fits : goal.turn-returns-clause-fits
turn-returns-clause-fits t c = c.loop-state.invariant.holds

pub walk_each-loop-state-init : goal.walk_each-loop-state-init
walk_each-loop-state-init t c =
    let size = shape_size c.args.shape.now in
    let next = form.branch_of (shape_types c.args.shape.now) c.args.turns c.in-If.yes c.in-If.no in
    let states = map traced_of (into_iter_items c.into_iter-state-iterator.result) in
    walking.goes_start next (walking.InSize size) (walking.InSize size) (map traced_of c.new-next.result.items) states states (ap (map traced_of) c.new-next.ensures.items) refl
    (All-same (walking.InSize size) states (map traced_of c.in_ok-leaks-in-If.leaks.items) (ap (map traced_of) c.into_iter-state-iterator.ensures.into_iter_gives.0) c.in_ok-leaks-in-If.ensures.fits)

pub walk_each-returns-in-None-clause-fits : goal.walk_each-returns-in-None-clause-fits
walk_each-returns-in-None-clause-fits t c = c.loop-state.invariant.holds

pub walk_each-assigned_all-requires-clause-kinded : goal.walk_each-assigned_all-requires-clause-kinded
walk_each-assigned_all-requires-clause-kinded t c =
    let known = pass.assign_parts (shape_kinds c.args.shape.now) c.args.statement.now c.requires.sound c.in-Assign.slot c.in-Assign.dist c.in-Assign.shown c.in-Assign.is in
    (known.0, known.1.1)

pub walk_each-assigned_all-requires-clause-fits : goal.walk_each-assigned_all-requires-clause-fits
walk_each-assigned_all-requires-clause-fits t c = c.requires.fits

pub walk_each-leak_each-requires-clause-kinded : goal.walk_each-leak_each-requires-clause-kinded
walk_each-leak_each-requires-clause-kinded t c = pass.observe_parts (shape_kinds c.args.shape.now) c.args.statement.now c.requires.sound c.in-Observe.dist c.in-Observe.is

pub walk_each-leak_each-requires-clause-fits : goal.walk_each-leak_each-requires-clause-fits
walk_each-leak_each-requires-clause-fits t c = c.requires.fits

pub walk_each-leak_each-requires-in-If-clause-kinded : goal.walk_each-leak_each-requires-in-If-clause-kinded
walk_each-leak_each-requires-in-If-clause-kinded t c =
    (TruthKind, pass.if_guard (shape_kinds c.args.shape.now) c.args.statement.now c.requires.sound c.in-If.test c.in-If.yes c.in-If.no c.in-If.is)

pub walk_each-leak_each-requires-in-If-clause-fits : goal.walk_each-leak_each-requires-in-If-clause-fits
walk_each-leak_each-requires-in-If-clause-fits t c = c.requires.fits

pub walk_while-leak-requires-clause-kinded : goal.walk_while-leak-requires-clause-kinded
walk_while-leak-requires-clause-kinded t c = (TruthKind, c.requires.kinded)

pub walk_while-loop-visit-init : goal.walk_while-loop-visit-init
walk_while-loop-visit-init t c =
    let guard = tried (shape_types c.args.shape.now) (dx_tree c.args.test.now) in
    let body = walking.ends_of c.args.shape.now c.args.turns (map st_tree c.args.body.now) in
    record {
      on = loops.stack_start guard body (shape_size c.args.shape.now) c.args.turns (traced_of c.args.from) (map traced_of c.new-ended.result.items) (map visit_of c.new-visits.result.items)
          (map visit_of c.push.new.self.items) (ap (map traced_of) c.new-ended.ensures.items) (ap (map visit_of) c.new-visits.ensures.items)
          (walking.mapped_joined visit_of c.push.new.self.items c.new-visits.result.items (code.Asks c.args.from c.args.turns ∷ []) c.in_ok-push.ensures.items) c.requires.fits;
      memo = c.requires.memo;
    }

pub walk_while-returns-clause-fits : goal.walk_while-returns-clause-fits
walk_while-returns-clause-fits t c = c.loop-visit.invariant.on.fits

pub walk_all-loop-statement-init : goal.walk_all-loop-statement-init
walk_all-loop-statement-init t c =
    walking.block_start c.args.shape.now c.args.turns (map st_tree c.args.statements.now) (traced_of c.args.from) (map traced_of c.in_ok-states.states.items) c.in_ok-states.ensures c.requires.sound c.requires.fits

pub walk_all-returns-clause-fits : goal.walk_all-returns-clause-fits
walk_all-returns-clause-fits t c = c.loop-statement.invariant.fits

pub walk_each-returns-in-Skip-clause-walked : goal.walk_each-returns-in-Skip-clause-walked
walk_each-returns-in-Skip-clause-walked t c = form.ends_skip (shape_types c.args.shape.now) c.args.turns c.args.statement.now (map traced_of c.args.states.items) c.in-Skip.is

pub walk_each-returns-in-Skip-clause-fits : goal.walk_each-returns-in-Skip-clause-fits
walk_each-returns-in-Skip-clause-fits t c = c.requires.fits

pub walk_each-returns-in-Assign-clause-walked : goal.walk_each-returns-in-Assign-clause-walked
walk_each-returns-in-Assign-clause-walked t c =
    let ts = shape_types c.args.shape.now in
    let ss = map traced_of c.args.states.items in
    subst (λ (xs : List Traced). IfOk c.assigned_all.result (λ us. map traced_of us.items ≡ xs))
    (ap (λ i. flat_map (assignment_traced c.in-Assign.shown ts i (dx_tree c.in-Assign.dist)) ss) c.from.ensures
    ∙ form.ends_assign ts c.args.turns c.args.statement.now ss c.in-Assign.slot c.in-Assign.dist c.in-Assign.shown c.in-Assign.is) c.assigned_all.ensures.walked

pub walk_each-returns-in-Assign-clause-fits : goal.walk_each-returns-in-Assign-clause-fits
walk_each-returns-in-Assign-clause-fits t c = c.assigned_all.ensures.fits

pub walk_each-returns-in-Observe-clause-walked : goal.walk_each-returns-in-Observe-clause-walked
walk_each-returns-in-Observe-clause-walked t c =
    subst (λ (xs : List Traced). IfOk c.leak_each.result (λ ss. map traced_of ss.items ≡ xs))
    (form.ends_observe (shape_types c.args.shape.now) c.args.turns c.args.statement.now (map traced_of c.args.states.items) c.in-Observe.dist c.in-Observe.is) c.leak_each.ensures.leaked

pub walk_each-returns-in-Observe-clause-fits : goal.walk_each-returns-in-Observe-clause-fits
walk_each-returns-in-Observe-clause-fits t c = c.leak_each.ensures.fits

pub walk_each-returns-in-While-clause-walked : goal.walk_each-returns-in-While-clause-walked
walk_each-returns-in-While-clause-walked t c =
    let ts = shape_types c.args.shape.now in
    let ss = map traced_of c.args.states.items in
    subst (λ (xs : List Traced). IfOk c.walk_loops.result (λ vs. map traced_of vs.items ≡ xs))
    (ap (λ us. flat_map (loop_traced c.args.turns (tried ts (dx_tree c.in-While.test)) (all_traced ts c.args.turns (sts (map st_tree us)))) ss) c.as_slice.ensures
    ∙ form.ends_while ts c.args.turns c.args.statement.now ss c.in-While.test c.in-While.body c.in-While.is) c.walk_loops.ensures.walked

pub walk_each-returns-in-While-clause-fits : goal.walk_each-returns-in-While-clause-fits
walk_each-returns-in-While-clause-fits t c = c.walk_loops.ensures.fits

pub ask_again-returns-clause-visits : goal.ask_again-returns-clause-visits
ask_again-returns-clause-visits t c =
    loops.asks_are (walking.ends_of c.args.shape.now c.args.turns (map st_tree c.args.body.now)) c.args.rest (traced_of c.args.state) (map traced_of c.in_ok-walked.walked.items)
    (map visit_of c.in_ok-asking.asking.items) (omega arith) c.in_ok-walked.ensures.walked c.in_ok-asking.ensures

pub ask_again-walk_all-requires : goal.ask_again-walk_all-requires
ask_again-walk_all-requires t c = (search (rules, the_lemmas), (c.requires.sound, c.requires.fits))

pub walk_while-turn-requires : goal.walk_while-turn-requires
walk_while-turn-requires t c = (search (rules, the_lemmas), (c.requires.sound, c.in_ok-states-in-Asks.ensures.fits))

pub walk_while-leak-requires-clause-memo : goal.walk_while-leak-requires-clause-memo
walk_while-leak-requires-clause-memo t c = c.loop-visit.invariant.memo

pub walk_while-returns-clause-memo : goal.walk_while-returns-clause-memo
walk_while-returns-clause-memo t c = c.loop-visit.invariant.memo

pub walk_loops-walk_while-requires : goal.walk_loops-walk_while-requires
walk_loops-walk_while-requires t c =
    let size = shape_size c.args.shape.now in
    let next = loop_traced c.args.turns (tried (shape_types c.args.shape.now) (dx_tree c.args.test.now)) (walking.ends_of c.args.shape.now c.args.turns (map st_tree c.args.body.now)) in (
      search (rules, the_lemmas),
      (
        c.requires.kinded,
        (
          c.requires.sound,
          (
            c.loop-state.invariant.memo,
            walking.goes_next next (walking.InSize size) (walking.InSize size) (flat_map next (map traced_of c.args.states.items)) (map traced_of c.loop-state.next.items) (map traced_of (into_iter_items c.loop-state.state-iterator)) (traced_of c.in-Some.state) (map traced_of (into_iter_items c.next.new.self))
                (ap (map traced_of) c.in-Some.ensures.steps.0) c.loop-state.invariant.on,
          ),
        ),
      ),
    )

pub walk_loops-loop-state-preserved : goal.walk_loops-loop-state-preserved
walk_loops-loop-state-preserved t c =
    let size = shape_size c.args.shape.now in
    let next = loop_traced c.args.turns (tried (shape_types c.args.shape.now) (dx_tree c.args.test.now)) (walking.ends_of c.args.shape.now c.args.turns (map st_tree c.args.body.now)) in
    record {
      on = walking.goes_step next (walking.InSize size) (walking.InSize size) (flat_map next (map traced_of c.args.states.items)) (map traced_of c.loop-state.next.items) (map traced_of (into_iter_items c.loop-state.state-iterator)) (traced_of c.in-Some.state) (map traced_of (into_iter_items c.next.new.self))
          (ap (map traced_of) c.in-Some.ensures.steps.0) c.loop-state.invariant.on
          (map traced_of c.in_ok-walked.walked.items) (map traced_of c.append.new.self.items) c.in_ok-walked.ensures.walked
          (walking.mapped_joined traced_of c.append.new.self.items c.loop-state.next.items c.in_ok-walked.walked.items c.in_ok-append.ensures.items) c.in_ok-walked.ensures.fits;
      memo = c.in_ok-walked.ensures.memo;
    }

pub walk_loops-loop-state-init : goal.walk_loops-loop-state-init
walk_loops-loop-state-init t c =
    let size = shape_size c.args.shape.now in
    let next = loop_traced c.args.turns (tried (shape_types c.args.shape.now) (dx_tree c.args.test.now)) (walking.ends_of c.args.shape.now c.args.turns (map st_tree c.args.body.now)) in
    record {
      on = walking.goes_start next (walking.InSize size) (walking.InSize size) (map traced_of c.new-next.result.items) (map traced_of c.args.states.items) (map traced_of (into_iter_items c.into_iter-state-iterator.result))
          (ap (map traced_of) c.new-next.ensures.items) (ap (map traced_of) c.into_iter-state-iterator.ensures.into_iter_gives.0) c.requires.fits;
      memo = c.in_ok-memo.ensures;
    }

pub walk_loops-returns-clause-walked : goal.walk_loops-returns-clause-walked
walk_loops-returns-clause-walked t c =
    let size = shape_size c.args.shape.now in
    let next = loop_traced c.args.turns (tried (shape_types c.args.shape.now) (dx_tree c.args.test.now)) (walking.ends_of c.args.shape.now c.args.turns (map st_tree c.args.body.now)) in
    let none : into_iter_items c.loop-state.state-iterator ≡ [] = walking.none_left _ (omega (arith, c.in-None.ensures.steps.0, c.loop-state.state-iterator.rest.ok)) in
    walking.goes_end next (walking.InSize size) (walking.InSize size) (flat_map next (map traced_of c.args.states.items)) (map traced_of c.loop-state.next.items) (map traced_of (into_iter_items c.loop-state.state-iterator))
    (ap (map traced_of) none) c.loop-state.invariant.on

pub walk_loops-returns-clause-fits : goal.walk_loops-returns-clause-fits
walk_loops-returns-clause-fits t c = c.loop-state.invariant.on.holds
