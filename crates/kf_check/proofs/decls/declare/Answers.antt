use Rattle.std.proofs.Common.{ap, refl}
use Rattle.kf_check.proofs.Left.{passed}
use Rattle.kf_check.proofs.decls.declare.Goals as goal

pub push-named-requires : goal.push-named-requires
push-named-requires c = record { room = c.requires.room; fresh = rw (ap (λ h. h.0) c.in_ok-variable.ensures.ok.1) c.requires.fresh }

pub returns-in_err-variable : goal.returns-in_err-variable
returns-in_err-variable c = rw (passed c.from_residual.result _ c.from_residual.ensures.1) (record { known = tt; flags = tt; variables = tt; dists = tt; stores = tt; memory = refl })

pub returns-in_err-variable-2 : goal.returns-in_err-variable-2
returns-in_err-variable-2 c =
    let short = rw c.in_err-variable-2.ensures.err at c.push-named.ensures.memory in
    rw (passed c.from_residual-in_err-variable-2.result _ c.from_residual-in_err-variable-2.ensures.1) (record { known = tt; flags = tt; variables = tt; dists = tt; stores = tt; memory = (cc) })

pub returns-in_err-push : goal.returns-in_err-push
returns-in_err-push c = rw (passed c.from_residual-in_err-push.result _ c.from_residual-in_err-push.ensures.1) (record { known = tt; flags = tt; variables = tt; dists = tt; stores = tt; memory = refl })

pub returns : goal.returns
returns c =
    let variable = ap (λ h. h.0) c.in_ok-variable.ensures.ok.1 in
    let kind = ap (λ h. h.1) c.in_ok-variable.ensures.ok.1 in
    record {
      known = rw (c.in_ok-variable-2.ensures.ok.0, variable, kind) at c.push-named.ensures.added;
      flags = rw c.in_ok-variable-2.ensures.ok.0 at c.push-named.ensures.flagged;
      variables = rw (c.in_ok-variable-2.ensures.ok.1, variable) at c.in_ok-push.ensures.items;
      dists = rw c.in_ok-variable.ensures.ok.0 at c.push.ensures.items;
      stores = refl;
      memory = tt;
    }
