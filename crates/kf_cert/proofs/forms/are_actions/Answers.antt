use Rattle.std.proofs.Common.{rules, refl}
use Rattle.std.proofs.lemmas.Bool.{le-leb}
use borrow.Author.Tests.{tests}
use Rattle.std.proofs.lemmas.Iterator.{YieldsList-from_slice}
use Rattle.serde_json.specs.View.{view}
use Rattle.kf_gain.specs.Tables as gain_rule
use Rattle.kf_json.proofs.Viewing.{all_seen, both}
use Rattle.kf_cert.proofs.forms.are_actions.Goals as goal

pub returns-then-values-ge1 : goal.returns-then-values-ge1
returns-then-values-ge1 c =
    both _ _ _ (le-leb 1 _ c.if-values-ge1.true)
    (all_seen view gain_rule.is_action _ _ _ _ _ c.all.ensures.ran (YieldsList-from_slice _ c.iter.ensures.rest) refl (λ x b q k. search (rules, tests)))
