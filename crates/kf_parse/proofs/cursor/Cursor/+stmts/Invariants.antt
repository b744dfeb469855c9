use Rattle.std.proofs.Common.{◌≡◌, ◌-◌, ◌+◌, ◌*◌, length}
use Rattle.kf_ast.specs.Views.{stmt_tree}
use Rattle.kf_parse.specs.Views.{trimmed_of, all_of}
use Rattle.kf_parse.specs.Outcomes.{repeat}
use Rattle.kf_parse.specs.Reading as r
use Rattle.kf_parse.specs.Trimmed.{trimmed}
use Rattle.kf_parse.proofs.cursor.Cursor.+stmts.Given as goal

abbrev pub decreases-block : goal.decreases-block
decreases-block l = 10 * l.depth + 1

abbrev pub decreases-if_else : goal.decreases-if_else
decreases-if_else l = 10 * l.depth + 3

abbrev pub decreases-while_loop : goal.decreases-while_loop
decreases-while_loop l = 10 * l.depth + 3

abbrev pub decreases-statement : goal.decreases-statement
decreases-statement l = 10 * l.depth + 4

abbrev pub decreases-all_statements : goal.decreases-all_statements
decreases-all_statements l = 10 * l.depth + 5

abbrev pub decreases-statements : goal.decreases-statements
decreases-statements l = 10 * l.depth + 6

abbrev pub invariant-all_statements-statements : goal.invariant-all_statements-statements
invariant-all_statements-statements l = record {
  source : l.self.src.now ≡ l.fn.self.src.now;
  rest : r.all_statements trimmed l.fn.self.src.now (r.statements trimmed l.fn.self.src.now (l.depth - 1)) l.depth l.fn.self.rest.now
      ≡ repeat (λ o xs. r.pushed trimmed l.fn.self.src.now (r.statements trimmed l.fn.self.src.now (l.depth - 1)) l.depth xs (r.statement_by trimmed l.fn.self.src.now (r.statements trimmed l.fn.self.src.now (l.depth - 1)) l.depth o o.kind))
      (trimmed_of (all_of stmt_tree) l.list) l.self.rest.now;
}

abbrev pub decreases-all_statements-statements : goal.decreases-all_statements-statements
decreases-all_statements-statements l = length l.self.rest.now
