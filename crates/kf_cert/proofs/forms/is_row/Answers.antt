use Rattle.std.proofs.Common.{rules, ◌∙◌, sym}
use borrow.Author.Tests.{tests}
use Rattle.std.proofs.lemmas.Iterator.{YieldsList-from_slice}
use Rattle.serde_json.specs.View.{view}
use Rattle.kf_cert.specs.Certificates as rule
use Rattle.kf_json.proofs.Viewing.{all_seen, both}
use Rattle.kf_cert.proofs.forms.is_row.Goals as goal

pub returns-then-is_list : goal.returns-then-is_list
returns-then-is_list c =
    both _ _ _ (sym c.is_list.ensures ∙ c.if-is_list.true)
    (all_seen view rule.is_fraction _ _ _ _ _ c.all.ensures.ran (YieldsList-from_slice _ c.iter.ensures.rest) c.members.ensures (λ x b q k. search (rules, tests)))
