use Rattle.std.proofs.Common.{sym, true≢false, refl}
use Rattle.kf_check.proofs.typed.TypedEx.asked.Goals as goal

pub returns-else-same_kind-clause-err : goal.returns-else-same_kind-clause-err
returns-else-same_kind-clause-err c = (refl, λ same. true≢false (sym (c.if-same_kind.ensures.1 same)))
