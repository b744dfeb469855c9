use Rattle.std.proofs.Common.{map, drop}
use Rattle.kf_value.specs.Types.{values}
use Rattle.kf_value.specs.TypeViews.{type_tree}
use Rattle.kf_value.proofs.ReadingElements.{SetLeft}
use Rattle.kf_value.proofs.ReadingRows.{RowLeft}
use Rattle.kf_value.proofs.readings.+read_value.Given as goal

abbrev pub invariant-read_elements-loop-k : goal.invariant-read_elements-loop-k
invariant-read_elements-loop-k l = SetLeft (values (type_tree l.base)) l.bytes l.rest l.n l.k

abbrev pub invariant-read_parts-loop-ty : goal.invariant-read_parts-loop-ty
invariant-read_parts-loop-ty l = RowLeft (map type_tree l.types) (map type_tree (drop l.ty-index l.types)) l.bytes l.rest l.n
