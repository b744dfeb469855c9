use Rattle.std.proofs.Common.{◌∷◌, ◌++◌, [], ◌∙◌, ap, map, refl}
use Rattle.std.proofs.lemmas.List.{map-append}
use Rattle.serde_json.specs.View.{view}
use Rattle.kf_value.specs.Views.{items_of}
use Rattle.kf_cert.specs.CertTexts.{action_data}
use Rattle.kf_cert.proofs.Pieces.{piece_added}
use Rattle.kf_cert.proofs.writer.action_values.Goals as goal

pub loop-action-preserved : goal.loop-action-preserved
loop-action-preserved c =
    let target = items_of c.args.target.now in
    let made = c.loop-action.values.items in
    piece_added (λ i es. map (action_data target) es) (λ i e. action_data target e ∷ []) (λ i e es. refl)
    c.args.actions.now c.loop-action.action-index c.action-item.result (map view made) (map view c.push.new.self.items) _ c.loop-action-test.true c.action-item.is
    (ap (map view) c.in_ok-push.ensures.items ∙ map-append view made (_ ∷ []) ∙ ap (λ d. map view made ++ d ∷ []) c.in_ok-action_value.ensures) c.loop-action.invariant
