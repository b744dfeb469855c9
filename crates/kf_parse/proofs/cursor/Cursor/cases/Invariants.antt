use Rattle.std.proofs.Common.{◌≡◌, length}
use Rattle.kf_ast.specs.Views.{case_tree}
use Rattle.kf_parse.specs.Views.{trimmed_of, all_of}
use Rattle.kf_parse.specs.Reading as r
use Rattle.kf_parse.specs.Trimmed.{trimmed}
use Rattle.kf_parse.proofs.cursor.Cursor.cases.Given as goal

abbrev pub invariant-cases : goal.invariant-cases
invariant-cases l = record {
  source : l.self.src.now ≡ l.fn.self.src.now;
  rest : r.cases trimmed l.fn.self.src.now (r.expr trimmed l.fn.self.src.now l.depth) (trimmed_of (all_of case_tree) l.fn.list) l.fn.self.rest.now
      ≡ r.cases trimmed l.fn.self.src.now (r.expr trimmed l.fn.self.src.now l.depth) (trimmed_of (all_of case_tree) l.list) l.self.rest.now;
}

abbrev pub decreases-cases : goal.decreases-cases
decreases-cases l = length l.self.rest.now
