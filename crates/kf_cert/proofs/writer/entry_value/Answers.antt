use Rattle.std.proofs.Common.{List, ap, map, ◌∙◌}
use Rattle.serde_json.specs.Data.{Data, array}
use Rattle.serde_json.specs.View.{items_of, view}
use Rattle.serde_json.proofs.Views.{view-Array}
use Rattle.kf_cert.proofs.Putting.{text_added}
use Rattle.kf_cert.proofs.writer.entry_value.Goals as goal

pub returns : goal.returns
returns c =
    view-Array _
    ∙ ap (λ (ds : List Data). array (items_of ds))
    (text_added _ _ c.to_string-3.ensures.ok _ _ _ c.in_ok-add_text-3.ensures
    (text_added _ _ c.to_string-2.ensures.ok _ _ _ c.in_ok-add_text-2.ensures
    (text_added _ _ c.to_string.ensures.ok _ _ _ c.in_ok-add_text.ensures (ap (map view) c.new-texts.ensures.items))))
