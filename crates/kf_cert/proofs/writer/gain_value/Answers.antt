use Rattle.std.proofs.Common.{List, ◌∷◌, ◌++◌, [], ap, map, ◌∙◌}
use Rattle.std.specs.Fmt.{signed_decimal}
use Rattle.serde_json.specs.Data.{Data, array, item, no_items, string}
use Rattle.serde_json.specs.View.{items_of, view}
use Rattle.serde_json.specs.declared.value.Value.TheVariants.{String}
use Rattle.serde_json.proofs.Views.{view-Array}
use Rattle.kf_cert.proofs.Putting.{text_added, text_view}
use Rattle.kf_cert.proofs.writer.gain_value.Goals as goal

pub returns : goal.returns
returns c =
    view-Array _
    ∙ ap (λ (ds : List Data). array (items_of ds))
    (text_added _ _ c.to_string.ensures.ok _ _ _ c.in_ok-add_text.ensures (ap (map view) (c.in_ok-push.ensures.items ∙ ap (λ vs. vs ++ String c.in_ok-text.text ∷ []) c.new-texts.ensures.items)))
    ∙ (λ i. array (item ((text_view c.in_ok-text.text ∙ ap string c.in_ok-text.ensures) i) (item (string (signed_decimal c.args.entry.now.gain)) no_items)))
