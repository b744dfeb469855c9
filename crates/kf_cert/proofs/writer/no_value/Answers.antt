use Rattle.std.proofs.Common.{codes, map, ap, ◌∙◌}
use Rattle.kf_gain.specs.Views.{table_tree}
use Rattle.kf_value.specs.Views.{items_of}
use Rattle.kf_cert.specs.CertTexts.{action_data}
use Rattle.serde_json.proofs.Views.{view-Object}
use Rattle.kf_cert.proofs.Putting.{listed, no_made, text_put}
use Rattle.kf_cert.proofs.writer.no_value.Goals as goal

pub returns : goal.returns
returns c =
    let target = items_of c.args.target.now in
    let t = table_tree c.args.table.now in
    view-Object _
    ∙ no_made target t _ _
    (text_put _ _ c.to_string-2.ensures.ok (codes "rest") _ _ _ c.in_ok-put_text-2.ensures
    (text_put _ _ c.to_string.ensures.ok (codes "over") _ _ _ c.in_ok-put_text.ensures
    c.in_ok-members.ensures))
    (listed _ _ (c.in_ok-actions.ensures ∙ ap (map (action_data target)) c.as_slice.ensures))
