use Rattle.std.proofs.Common.{◌≡◌, ◌+◌, length, drop}
use Rattle.kf_value.specs.Shapes.{shape_sizes}
use Rattle.kf_value.specs.Types.{product}
use Rattle.kf_core.specs.Views.{program_tree, dx_items}
use Rattle.kf_support.proofs.Copying.{Copies}
use Rattle.kf_support.proofs.moves.copied_store.Given as goal

abbrev pub invariant-loop-slot : goal.invariant-loop-slot
invariant-loop-slot l = record {
  to : l.to ≡ length (dx_items l.program.decls) + l.slot-index;
  copies : Copies (program_tree l.program) (product (shape_sizes l.program.shape)) l.initial.after l.to (drop l.slot-index l.program.copies) l.after;
}
