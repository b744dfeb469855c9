use Rattle.std.proofs.Common.{◌≡◌, length, map}
use Rattle.kf_ast.specs.Views.{item_tree}
use Rattle.kf_parse.specs.Reading as r
use Rattle.kf_parse.specs.Trimmed.{trimmed}
use Rattle.kf_parse.proofs.cursor.Cursor.other_items.Given as goal

abbrev pub invariant-items : goal.invariant-items
invariant-items l = record {
  source : l.self.src.now ≡ l.fn.self.src.now;
  rest : r.other_items trimmed l.fn.self.src.now (map item_tree l.fn.list.items) l.fn.self.rest.now ≡ r.other_items trimmed l.fn.self.src.now (map item_tree l.list.items) l.self.rest.now;
}

abbrev pub decreases-items : goal.decreases-items
decreases-items l = length l.self.rest.now
