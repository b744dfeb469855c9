use Rattle.std.proofs.Common.{codes, ap, ◌∙◌}
use Rattle.serde_json.specs.Data.{member, no_members, put}
use Rattle.serde_json.specs.View.{members_view, view}
use Rattle.serde_json.specs.declared.value.Value.TheVariants.{Array}
use Rattle.serde_json.proofs.Views.{view-Array}
use Rattle.kf_cert.proofs.Putting.{text_put}
use Rattle.kf_cert.proofs.writer.verdict_members.Goals as goal

pub returns : goal.returns
returns c =
    text_put _ _ c.from_str-2.ensures.ok (codes "verdict") _ _ _ c.in_ok-put_text-2.ensures
    (text_put _ _ c.from_str.ensures.ok (codes "format") _ _ _ c.in_ok-put_text.ensures
    (c.in_ok-put.ensures.ok ∙ ap (λ ms. put c.args.key.now (view (Array c.args.list)) (members_view ms)) c.new-members.ensures.empty
    ∙ (λ i. member c.args.key.now (view-Array c.args.list i) no_members)))
