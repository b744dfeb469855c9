use Rattle.std.proofs.Common.{refl, sym, ◌∙◌, arith, true≢false}
use Rattle.kf_check.proofs.PickRules.{common, common_turn, common_end, no_common}
use Rattle.kf_check.proofs.picks.common_kind.Goals as goal

pub returns-then-not-same_kind-clause-err : goal.returns-then-not-same_kind-clause-err
returns-then-not-same_kind-clause-err c =
    λ e. (
      refl,
      no_common c.args.kinds.now c.index-kinds-0.result c.loop-kind.kind-index c.kind-item.result c.index-kinds-0.is (omega arith) c.kind-item.is
          (λ same. true≢false (sym (c.same_kind.ensures.1 same) ∙ c.if-not-same_kind.true)),
    )

pub loop-kind-preserved : goal.loop-kind-preserved
loop-kind-preserved c =
    common_turn c.args.kinds.now c.index-kinds-0.result c.loop-kind.kind-index c.kind-item.result (omega arith) c.kind-item.is c.loop-kind.invariant (c.same_kind.ensures.0 c.if-not-same_kind.false)

pub returns-clause-ok : goal.returns-clause-ok
returns-clause-ok c =
    common c.args.kinds.now c.index-kinds-0.result c.in_ok-copy.field-0 c.requires c.index-kinds-0.is
    (common_end c.args.kinds.now c.index-kinds-0.result c.loop-kind.kind-index (omega arith) c.loop-kind.invariant) c.in_ok-copy.ensures
