use Rattle.std.proofs.Common.{◌-◌, map, drop}
use Rattle.kf_value.specs.Shapes.{shape_size, shape_types}
use Rattle.kf_core.specs.Runs.{place, runs, tried}
use Rattle.kf_core.specs.Views.{dx_tree, st_tree}
use Rattle.kf_run.specs.Silence.{silent_at}
use Rattle.kf_run.proofs.Silencing.{Hushed, SilentOn, all}
use Rattle.kf_run.proofs.Turns.{Looping}
use Rattle.kf_run.proofs.pushes.+push.Given as goal

abbrev pub invariant-hush-loop-column : goal.invariant-hush-loop-column
invariant-hush-loop-column l = Hushed (runs (shape_types l.shape) l.turns (st_tree l.statement)) (shape_size l.shape) l.columns.columns l.column-index l.list.items

abbrev pub invariant-push_all-loop-at : goal.invariant-push_all-loop-at
invariant-push_all-loop-at l = SilentOn l.shape l.turns
    (all l.shape l.turns (silent_at l.silent) 0 (map st_tree l.statements)) (silent_at l.silent) l.fn.columns l.at (map st_tree (drop l.at l.statements)) l.now

abbrev pub invariant-push_loop-loop-turn : goal.invariant-push_loop-loop-turn
invariant-push_loop-loop-turn l = Looping (shape_size l.shape) (tried (shape_types l.shape) (dx_tree l.test)) (place (dx_tree l.test)) l.turns
    (all l.shape l.turns (silent_at l.silent) 0 (map st_tree l.body)) l.columns (l.turns - l._turn) l.now.taken l.now.left
