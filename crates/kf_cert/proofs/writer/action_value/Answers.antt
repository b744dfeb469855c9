use Rattle.std.proofs.Common.{codes, map, ap, ◌∙◌}
use Rattle.serde_json.specs.Data.{member, no_members, object, put, string}
use Rattle.serde_json.specs.View.{members_view, view}
use Rattle.serde_json.specs.declared.value.Value.TheVariants.{Array}
use Rattle.serde_json.proofs.Views.{view-Array, view-Object}
use Rattle.kf_value.specs.Views.{items_of}
use Rattle.kf_cert.specs.Parts.{gain_data}
use Rattle.kf_cert.proofs.Putting.{listed, text_put}
use Rattle.kf_cert.proofs.writer.action_value.Goals as goal

pub returns : goal.returns
returns c =
    let gains = view-Array c.in_ok-gains.gains ∙ listed _ _ (c.in_ok-gains.ensures ∙ ap (map (gain_data (items_of c.args.target.now))) c.as_slice.ensures) in
    view-Object _
    ∙ ap object
    (text_put _ _ c.from_str-name.ensures.ok (codes "name") _ _ _ c.in_ok-put_text.ensures
    (c.in_ok-put.ensures.ok ∙ ap (λ ms. put (codes "gains") (view (Array c.in_ok-gains.gains)) (members_view ms)) c.new-members.ensures.empty))
    ∙ (λ i. object (member (codes "gains") (gains i) (member (codes "name") (string (c.as_str.ensures i)) no_members)))
