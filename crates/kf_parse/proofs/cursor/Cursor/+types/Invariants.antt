use Rattle.std.proofs.Common.{◌≡◌, ◌+◌, ◌*◌, length, map}
use Rattle.kf_ast.specs.Views.{type_form}
use Rattle.kf_parse.specs.Reading as r
use Rattle.kf_parse.proofs.cursor.Cursor.+types.Given as goal

abbrev pub decreases-type_tree : goal.decreases-type_tree
decreases-type_tree l = 0x2_0000_0010 * l.depth

abbrev pub decreases-other_types : goal.decreases-other_types
decreases-other_types l = 0x2_0000_0010 * l.depth + 1

abbrev pub decreases-tuple_type : goal.decreases-tuple_type
decreases-tuple_type l = 0x2_0000_0010 * l.depth + 3

abbrev pub decreases-tuple_of : goal.decreases-tuple_of
decreases-tuple_of l = 0x2_0000_0010 * l.depth + 2

abbrev pub decreases-base : goal.decreases-base
decreases-base l = 0x2_0000_0010 * l.depth + 4

abbrev pub decreases-set_of : goal.decreases-set_of
decreases-set_of l = 0x2_0000_0010 * l.depth + 2 * l.count + 6

abbrev pub decreases-sets : goal.decreases-sets
decreases-sets l = 0x2_0000_0010 * l.depth + 2 * l.count + 5

abbrev pub invariant-other_types-members : goal.invariant-other_types-members
invariant-other_types-members l = record {
  source : l.self.src.now ≡ l.fn.self.src.now;
  rest : r.other_types (r.type l.depth) (map type_form l.fn.members.items) l.fn.self.rest.now ≡ r.other_types (r.type l.depth) (map type_form l.members.items) l.self.rest.now;
}

abbrev pub decreases-other_types-members : goal.decreases-other_types-members
decreases-other_types-members l = length l.self.rest.now
