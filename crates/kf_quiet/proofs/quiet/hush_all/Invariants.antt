use Rattle.std.proofs.Common.{◌≡◌, All, take}
use Rattle.kf_column.specs.Joint.{mass}
use Rattle.kf_column.specs.Shapes.{IsBelow}
use Rattle.kf_core.specs.Pushing.{AreBehind}
use Rattle.kf_push.specs.Meanings.{runs_between, store_count}
use Rattle.kf_silent.specs.Quiet.{hushed}
use Rattle.kf_quiet.proofs.quiet.hush_all.Given as goal

abbrev pub invariant-loop-column : goal.invariant-loop-column
invariant-loop-column g l = record {
  behind : AreBehind (λ n. hushed (runs_between (g.P.Pusher.meaning l.p) l.from l.to n)) (take l.column-index l.columns.columns) l.list.items;
  below : All (IsBelow (store_count (g.P.Pusher.meaning l.p))) l.list.items;
  mass : mass l.list.items ≡ mass (take l.column-index l.columns.columns);
}
