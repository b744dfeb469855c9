use Rattle.std.proofs.Common.{map, drop}
use Rattle.std.specs.Prelude.{flat_map}
use Rattle.std.specs.Vec.Iter.{into_iter_items}
use Rattle.kf_value.specs.Shapes.{shape_size, shape_types}
use Rattle.kf_core.specs.Views.{dx_tree, st_tree}
use Rattle.kf_core.specs.Runs.{tried}
use Rattle.kf_eval.specs.Memos.{IsMemoOf}
use Rattle.kf_traces.specs.Traced.{loop_traced}
use Rattle.kf_traces.specs.Views.{traced_of}
use Rattle.kf_traces.specs.Visits.{visit_of, visitor, visits_next}
use Rattle.kf_traces.proofs.Walking.{BlockOn, GoesOn, InSize, ends_of}
use Rattle.kf_traces.proofs.WalkingLoops.{StackOn, all_visits}
use Rattle.kf_traces.proofs.WalkingStatements.{branch_of}
use Rattle.kf_traces.proofs.walks.+walk.Given as goal

abbrev pub invariant-walk_each-loop-state : goal.invariant-walk_each-loop-state
invariant-walk_each-loop-state l =
    let size = shape_size l.shape in
    let next = branch_of (shape_types l.shape) l.turns l.yes l.no in
    GoesOn next (InSize size) (InSize size) (flat_map next (map traced_of (into_iter_items l.initial.state-iterator))) (map traced_of l.next.items) (map traced_of (into_iter_items l.state-iterator))

abbrev pub invariant-walk_loops-loop-state : goal.invariant-walk_loops-loop-state
invariant-walk_loops-loop-state l =
    let size = shape_size l.shape in
    let next = loop_traced l.turns (tried (shape_types l.shape) (dx_tree l.test)) (ends_of l.shape l.turns (map st_tree l.body)) in
    record {
      on : GoesOn next (InSize size) (InSize size) (flat_map next (map traced_of l.fn.states.items)) (map traced_of l.next.items) (map traced_of (into_iter_items l.state-iterator));
      memo : IsMemoOf l.shape (dx_tree l.test) l.memo;
    }

abbrev pub invariant-walk_all-loop-statement : goal.invariant-walk_all-loop-statement
invariant-walk_all-loop-statement l =
    BlockOn l.shape l.turns (ends_of l.shape l.turns (map st_tree l.statements) (traced_of l.fn.from)) (map st_tree (drop l.statement-index l.statements)) (map traced_of l.states.items)

abbrev pub invariant-turn-loop-state : goal.invariant-turn-loop-state
invariant-turn-loop-state l =
    let size = shape_size l.shape in
    let next = visits_next (ends_of l.shape l.turns (map st_tree l.body)) l.rest in
    GoesOn next (InSize size) (λ v. InSize size (visitor v)) (flat_map next (map traced_of l.fn.states.items)) (map visit_of l.visits.items) (map traced_of (into_iter_items l.state-iterator))

abbrev pub invariant-walk_while-loop-visit : goal.invariant-walk_while-loop-visit
invariant-walk_while-loop-visit l =
    let guard = tried (shape_types l.shape) (dx_tree l.test) in
    let body = ends_of l.shape l.turns (map st_tree l.body) in
    record {
      on : StackOn guard body (shape_size l.shape) (loop_traced l.turns guard body (traced_of l.fn.from)) (map traced_of l.ended.items) (map visit_of l.visits.items);
      memo : IsMemoOf l.shape (dx_tree l.test) l.memo;
    }

abbrev pub decreases-walk_while-loop-visit : goal.decreases-walk_while-loop-visit
decreases-walk_while-loop-visit l =
    all_visits (tried (shape_types l.shape) (dx_tree l.test)) (ends_of l.shape l.turns (map st_tree l.body)) (map visit_of l.visits.items)
