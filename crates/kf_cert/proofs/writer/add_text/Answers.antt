use Rattle.std.proofs.Common.{◌∷◌, ◌++◌, [], ap, map, ◌∙◌}
use Rattle.std.specs.Result.{result_from_control_flow}
use Rattle.std.proofs.lemmas.List.{map-append}
use Rattle.serde_json.specs.View.{view}
use Rattle.kf_cert.proofs.Putting.{text_told}
use Rattle.kf_cert.proofs.writer.add_text.Goals as goal

pub returns : goal.returns
returns c = λ bytes told.
    ap (map view) c.in_ok-push.ensures.items ∙ map-append view c.args.texts.now.items _
    ∙ ap (λ d. map view c.args.texts.now.items ++ d ∷ []) (text_told _ _ bytes (c.branch-text.ensures ∙ ap result_from_control_flow c.in_ok-text.is) told)
