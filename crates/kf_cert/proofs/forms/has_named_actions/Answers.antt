use Rattle.std.proofs.Common.{rules, ◌∙◌, sym, ap, codes, ◌||◌}
use Rattle.std.specs.List.{list_all}
use borrow.Author.Tests.{tests}
use Rattle.std.proofs.lemmas.Iterator.{YieldsList-from_slice}
use Rattle.serde_json.specs.View.{view}
use Rattle.kf_json.specs.Json.{members}
use Rattle.kf_cert.specs.Certificates as rule
use Rattle.kf_gain.specs.Tables as gain_rule
use Rattle.kf_json.proofs.Viewing.{all_seen, seen_at}
use Rattle.kf_cert.proofs.forms.has_named_actions.Goals as goal

pub returns-else-says_yes : goal.returns-else-says_yes
returns-else-says_yes c =
    all_seen view rule.is_named_action _ _ _ _ _ c.all.ensures.ran (YieldsList-from_slice _ c.iter.ensures.rest)
    (c.members.ensures ∙ ap members (seen_at (codes "actions") (view c.args.value.now) _ c.get.ensures)) (λ x b q k. search (rules, tests))
    ∙ ap (λ b. b || list_all rule.is_named_action (members (gain_rule.actions_at (view c.args.value.now)))) (sym (sym c.says_yes.ensures ∙ c.if-says_yes.false))
