use Rattle.std.proofs.Common.{take}
use Rattle.kf_check.specs.Views.{known_in}
use Rattle.kf_check.proofs.Each.{Each}
use Rattle.kf_check.proofs.ExprRules.{HasItsKind, Becomes}
use Rattle.kf_check.proofs.exprs.+expr.Given as goal

abbrev pub invariant-typed_exprs-loop-x : goal.invariant-typed_exprs-loop-x
invariant-typed_exprs-loop-x l = record {
  judged : Each (HasItsKind (known_in l.known)) (take l.x-index l.xs) l.kinds.items;
  translated : Each (Becomes (known_in l.known)) (take l.x-index l.xs) l.exs.items;
}
