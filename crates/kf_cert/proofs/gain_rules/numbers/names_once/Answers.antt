use Rattle.std.proofs.Common.{◌≡◌, true, refl, subst}
use Rattle.std.specs.Prelude.{IfOk}
use Rattle.kf_json.specs.Rules.{are_distinct}
use Rattle.kf_json.proofs.Carrying.{zip_map}
use Rattle.kf_cert.proofs.Members.{made_more, made_all}
use Rattle.kf_cert.proofs.gain_rules.numbers.names_once.Goals as goal

pub returns : goal.returns
returns c =
    let shown = (made_all (λ g t. t.now ≡ g.value) (λ g. true) c.args.gains.now c.loop-gain.gain-index c.loop-gain.texts.items c.loop-gain.invariant c.loop-gain-test.false).0 in
    subst (λ ts. IfOk c.are_distinct.result (λ b. b ≡ are_distinct ts)) (zip_map (λ g. g.value) (λ t. t.now) _ _ shown) c.are_distinct.ensures

pub loop-gain-preserved : goal.loop-gain-preserved
loop-gain-preserved c =
    made_more (λ g t. t.now ≡ g.value) (λ g. true) c.args.gains.now c.loop-gain.gain-index c.loop-gain.texts.items c.loop-gain.invariant c.gain-item.result c.loop-gain-test.true c.gain-item.is
    _ _ c.as_str.ensures refl c.in_ok-push.ensures.items
