use Rattle.std.proofs.Common.{rules, Some, ◌∙◌, sym, ap, subst}
use Rattle.std.proofs.lemmas.Int.{to_z-of_z}
use Rattle.std.proofs.lemmas.List.Folds.{list_all-map}
use mir.Syntax.{w128}
use Rattle.kf_gain.specs.Tables.{is_value_text}
use Rattle.kf_gain.proofs.TargetTexts.{text_known, text_unknown}
use Rattle.kf_value.specs.Numbers.{IsNumberOf}
use Rattle.kf_value.specs.Views.{items_of}
use Rattle.kf_cert.specs.Naming.{IsEntryOf}
use Rattle.kf_cert.proofs.Members.{made_more, made_bad, made_all}
use Rattle.kf_cert.proofs.gain_rules.numbers.entries.Goals as goal

pub returns-in_default-clause-none : goal.returns-in_default-clause-none
returns-in_default-clause-none c = λ none.
    let target = items_of c.args.target.now in
    let number = subst (IsNumberOf target c.as_str.result.now) c.in_default.is c.in_ok-value.ensures in
    let unknown = ap (is_value_text target) (sym c.as_str.ensures) ∙ text_unknown target c.as_str.result.now number in
    list_all-map (is_value_text target) (λ g. g.value) c.args.gains.now
    ∙ made_bad (IsEntryOf target) (λ g. is_value_text target g.value) c.args.gains.now c.loop-gain.gain-index c.loop-gain.entries.items c.loop-gain.invariant c.gain-item.result c.loop-gain-test.true c.gain-item.is unknown

pub loop-gain-preserved : goal.loop-gain-preserved
loop-gain-preserved c =
    let target = items_of c.args.target.now in
    let number = subst (IsNumberOf target c.as_str.result.now) c.in-Some.is c.in_ok-value.ensures in
    let known = ap (is_value_text target) (sym c.as_str.ensures) ∙ text_known target c.as_str.result.now c.in-Some.value number in
    made_more (IsEntryOf target) (λ g. is_value_text target g.value) c.args.gains.now c.loop-gain.gain-index c.loop-gain.entries.items c.loop-gain.invariant c.gain-item.result c.loop-gain-test.true c.gain-item.is
    _ _ (record { value = subst (λ t. IsNumberOf target t (Some c.in-Some.value)) c.as_str.ensures number; gain = to_z-of_z w128 c.gain-item.result.gain (search rules) }) known c.in_ok-push.ensures.items

pub returns-clause-some : goal.returns-clause-some
returns-clause-some c =
    let target = items_of c.args.target.now in
    (made_all (IsEntryOf target) (λ g. is_value_text target g.value) c.args.gains.now c.loop-gain.gain-index c.loop-gain.entries.items c.loop-gain.invariant c.loop-gain-test.false).0

pub returns-clause-known : goal.returns-clause-known
returns-clause-known c =
    let target = items_of c.args.target.now in
    list_all-map (is_value_text target) (λ g. g.value) c.args.gains.now
    ∙ (made_all (IsEntryOf target) (λ g. is_value_text target g.value) c.args.gains.now c.loop-gain.gain-index c.loop-gain.entries.items c.loop-gain.invariant c.loop-gain-test.false).1
