use Rattle.std.proofs.Common.{rules, ◌∙◌, sym, ap, codes}
use borrow.Author.Tests.{tests}
use Rattle.std.proofs.lemmas.Iterator.{YieldsList-from_slice}
use Rattle.serde_json.specs.View.{view}
use Rattle.kf_json.specs.Json.{is_list, members}
use Rattle.kf_cert.specs.Forms.{is_row}
use Rattle.kf_json.proofs.Viewing.{all_seen, both, seen_at}
use Rattle.kf_cert.proofs.forms.has_rows.Goals as goal

pub returns-then-is_list : goal.returns-then-is_list
returns-then-is_list c =
    both _ _ _ (sym (ap is_list (seen_at (codes "matrix") (view c.args.value.now) _ c.get-found.ensures)) ∙ sym c.is_list.ensures ∙ c.if-is_list.true)
    (all_seen view is_row _ _ _ _ _ c.all.ensures.ran (YieldsList-from_slice _ c.iter.ensures.rest)
    (c.members.ensures ∙ ap members (seen_at (codes "matrix") (view c.args.value.now) _ c.get-found.ensures)) (λ x b q k. search (rules, tests)))
