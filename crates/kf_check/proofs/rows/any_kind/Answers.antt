use Rattle.std.proofs.Common.{arith}
use Rattle.kf_check.proofs.RowRules.{unsettled_plain, unsettled_no_set, told_by_set, told_by_kind, unsettled_end, where_ok}
use Rattle.kf_check.proofs.rows.any_kind.Goals as goal
use Rattle.kf_check.proofs.rows.any_kind.Goals.{in-Bool, in-SetOfAny+in_default-kinds}

pub returns-in-Set : goal.returns-in-Set
returns-in-Set c = where_ok c.copy.result c.copy.ensures (λ copied copies any.
    told_by_set c.args.patterns.now c.args.kinds.now c.loop-i.i _ (omega arith) (omega arith) c.index-kinds-i.result c.in-Set.element c.deref.result.now copied any c.in-SetOfAny.is c.index-kinds-i.is c.in-Set.is c.deref.ensures copies)

pub returns-in_default : goal.returns-in_default
returns-in_default c = where_ok c.copy-in_default.result c.copy-in_default.ensures (λ copied copies any.
    told_by_kind c.args.patterns.now c.args.kinds.now c.loop-i.i _ (omega arith) (omega arith) c.index-kinds-i-in_default.result copied any c.in_default.not-Bool c.in_default.not-Int c.in_default.not-SetOfAny c.index-kinds-i-in_default.is copies)

pub loop-i-preserved : goal.loop-i-preserved
loop-i-preserved c = elim c.match-patterns-i.branch [
  | in-Bool w ↦ unsettled_plain c.args.patterns.now c.args.kinds.now c.loop-i.i _ (omega arith) (omega arith) w.in-Bool.is c.loop-i.invariant
  | in-SetOfAny+in_default-kinds w ↦ unsettled_no_set c.args.patterns.now c.args.kinds.now c.loop-i.i _ (omega arith) (omega arith) w.index-kinds-i.result w.in-SetOfAny.is w.index-kinds-i.is w.in_default-kinds.not-Set
]

pub returns : goal.returns
returns c any = unsettled_end c.args.patterns.now c.args.kinds.now c.loop-i.i any _ (omega arith) c.loop-i.invariant
