use Rattle.std.proofs.Common.{◌≡◌, ◌+◌, ◌*◌, ◌≤◌, drop}
use Rattle.kf_value.specs.Numbers.{digits}
use Rattle.kf_value.specs.Shapes.{shape_sizes}
use Rattle.kf_eval.specs.Memos.{number_in}
use Rattle.kf_eval.specs.Reads.{number_behind, span}
use Rattle.kf_eval.proofs.memo.number_at.Given as goal

abbrev pub invariant-loop-slot : goal.invariant-loop-slot
invariant-loop-slot l = record {
  whole : number_behind (shape_sizes l.shape) (digits (shape_sizes l.shape) l.store) l.number (drop l.slot-index l.slots) ≡ number_in l.shape l.slots l.store;
  room : (l.number + 1) * span (shape_sizes l.shape) (drop l.slot-index l.slots) ≤ span (shape_sizes l.shape) l.slots;
}
