use Rattle.std.proofs.Common.{◌≡◌, ◌-◌, ◌+◌, ◌*◌, length}
use Rattle.kf_parse.specs.Views.{cut_of, cuts_of}
use Rattle.kf_parse.specs.Reading as r
use Rattle.kf_parse.specs.Trimmed.{trimmed}
use Rattle.kf_parse.proofs.cursor.Cursor.+exprs.Given as goal

abbrev pub decreases-expr : goal.decreases-expr
decreases-expr l = 40 * l.depth

abbrev pub decreases-others : goal.decreases-others
decreases-others l = 40 * l.depth + 1

abbrev pub decreases-arguments : goal.decreases-arguments
decreases-arguments l = 40 * l.depth + 1

abbrev pub decreases-tuple : goal.decreases-tuple
decreases-tuple l = 40 * l.depth + 2

abbrev pub decreases-in_braces : goal.decreases-in_braces
decreases-in_braces l = 40 * l.depth + 2

abbrev pub decreases-call : goal.decreases-call
decreases-call l = 40 * l.depth + 2

abbrev pub decreases-in_parens : goal.decreases-in_parens
decreases-in_parens l = 40 * l.depth + 3

abbrev pub decreases-operand : goal.decreases-operand
decreases-operand l = 40 * l.depth + 4

abbrev pub decreases-postfix : goal.decreases-postfix
decreases-postfix l = 40 * l.depth + 5

abbrev pub decreases-level : goal.decreases-level
decreases-level l = 40 * l.depth + 4 * l.height + 6

abbrev pub decreases-prefixed : goal.decreases-prefixed
decreases-prefixed l = 40 * l.depth + 4 * l.height + 5

abbrev pub decreases-infixed : goal.decreases-infixed
decreases-infixed l = 40 * l.depth + 4 * l.height + 4

abbrev pub decreases-climb : goal.decreases-climb
decreases-climb l = 40 * l.depth + 4 * l.height + 3

abbrev pub decreases-compared : goal.decreases-compared
decreases-compared l = 40 * l.depth + 19

abbrev pub invariant-climb-operators : goal.invariant-climb-operators
invariant-climb-operators l = record {
  source : l.self.src.now ≡ l.fn.self.src.now;
  same : r.climb trimmed l.fn.self.src.now (r.level trimmed l.fn.self.src.now (r.expr trimmed l.fn.self.src.now l.depth) (l.height - 1)) (8 - l.height) (cut_of l.fn.left) l.fn.self.rest.now
      ≡ r.climb trimmed l.fn.self.src.now (r.level trimmed l.fn.self.src.now (r.expr trimmed l.fn.self.src.now l.depth) (l.height - 1)) (8 - l.height) (cut_of l.left) l.self.rest.now;
}

abbrev pub decreases-climb-operators : goal.decreases-climb-operators
decreases-climb-operators l = length l.self.rest.now

abbrev pub invariant-others-commas : goal.invariant-others-commas
invariant-others-commas l = record {
  source : l.self.src.now ≡ l.fn.self.src.now;
  same : r.others trimmed l.fn.self.src.now (r.expr trimmed l.fn.self.src.now l.depth) (cuts_of l.fn.list) l.fn.self.rest.now
      ≡ r.others trimmed l.fn.self.src.now (r.expr trimmed l.fn.self.src.now l.depth) (cuts_of l.list) l.self.rest.now;
}

abbrev pub decreases-others-commas : goal.decreases-others-commas
decreases-others-commas l = length l.self.rest.now

abbrev pub invariant-arguments-loop-argument : goal.invariant-arguments-loop-argument
invariant-arguments-loop-argument l = record {
  source : l.self.src.now ≡ l.fn.self.src.now;
  same : r.arguments trimmed l.fn.self.src.now (r.expr trimmed l.fn.self.src.now l.depth) l.fn.count (cuts_of l.fn.list) l.fn.self.rest.now
      ≡ r.arguments trimmed l.fn.self.src.now (r.expr trimmed l.fn.self.src.now l.depth) (l.count - l._argument) (cuts_of l.list) l.self.rest.now;
}
