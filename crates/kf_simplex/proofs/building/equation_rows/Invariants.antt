use Rattle.std.proofs.Common.{◌≡◌, ◌+◌, drop, length}
use Rattle.std.specs.Vec.Iter.{into_iter_items, into_iter_len}
use Rattle.kf_simplex.specs.Building.{Built}
use Rattle.kf_simplex.specs.Views.{sparse_number}
use Rattle.kf_simplex.proofs.building.equation_rows.Given as goal

-- the equations before those that are left are written and added
abbrev pub invariant-loop-equation : goal.invariant-loop-equation
invariant-loop-equation l = record {
  built : Built l.unknowns (length l.fn.list.items) (sparse_number l.unknowns l.fn.list.items) l.rows.items l.sums (length l.rows.items);
  rest : drop (length l.rows.items) l.fn.list.items ≡ into_iter_items l.equation-iterator;
  count : length l.rows.items + length (into_iter_items l.equation-iterator) ≡ length l.fn.list.items;
  long : into_iter_len l.equation-iterator ≡ length (into_iter_items l.equation-iterator);
}
