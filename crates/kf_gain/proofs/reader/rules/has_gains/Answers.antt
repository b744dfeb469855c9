use Rattle.std.proofs.Common.{rules, ◌∙◌, ap, codes}
use borrow.Author.Tests.{tests}
use Rattle.std.proofs.lemmas.Iterator.{YieldsList-from_slice}
use Rattle.serde_json.specs.View.{view}
use Rattle.kf_json.specs.Json.{members}
use Rattle.kf_gain.specs.Tables as rule
use Rattle.kf_gain.specs.Forms as single
use Rattle.kf_json.proofs.Viewing.{all_seen, seen_at}
use Rattle.kf_gain.proofs.reader.rules.has_gains.Goals as goal

pub returns : goal.returns
returns c = all_seen view (λ a. single.are_gains (rule.gains_at a)) _ _ _ _ _ c.all.ensures.ran (YieldsList-from_slice _ c.iter.ensures.rest) (c.members.ensures ∙ ap members (seen_at (codes "actions") (view c.args.value.now) _ c.get.ensures)) (λ x b q k. search (rules, tests))
