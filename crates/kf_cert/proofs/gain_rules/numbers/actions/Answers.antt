use Rattle.std.proofs.Common.{true, refl, sym, subst}
use Rattle.kf_value.specs.Views.{items_of}
use Rattle.kf_cert.specs.Naming.{IsMade, NamesOnce}
use Rattle.kf_cert.proofs.Members.{made_more, made_all}
use Rattle.kf_cert.proofs.gain_rules.numbers.actions.Goals as goal

pub returns-clause-some : goal.returns-clause-some
returns-clause-some c =
    (made_all (IsMade (items_of c.args.target.now)) (λ named. true) c.args.named.now c.loop-one.one-index c.loop-one.actions.items c.loop-one.invariant c.loop-one-test.false).0

pub loop-one-preserved : goal.loop-one-preserved
loop-one-preserved c =
    let target = items_of c.args.target.now in
    made_more (IsMade target) (λ named. true) c.args.named.now c.loop-one.one-index c.loop-one.actions.items c.loop-one.invariant c.one-item.result c.loop-one-test.true c.one-item.is
    _ _ (rw c.in-Some.is at c.in_ok-made.ensures.some) refl c.in_ok-push.ensures.items

pub returns-in_default-clause-none : goal.returns-in_default-clause-none
returns-in_default-clause-none c = λ none all.
    c.in_ok-made.ensures.none c.in_default.is
    (subst (NamesOnce (items_of c.args.target.now)) (sym c.one-item.is) (all c.loop-one.one-index c.one-item.result c.loop-one-test.true))
