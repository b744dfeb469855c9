use Rattle.std.proofs.Common.{◌∷◌, ◌++◌, [], ◌∙◌, ap, map, refl, get_or, pos}
use Rattle.std.proofs.lemmas.List.{get_or_default, map-append}
use Rattle.serde_json.specs.View.{view}
use Rattle.kf_value.specs.Views.{items_of}
use Rattle.kf_gain.specs.declared.table.GainEntry.{GainEntry}
use Rattle.kf_cert.specs.Parts.{gain_data}
use Rattle.kf_cert.proofs.Pieces.{piece_added}
use Rattle.kf_cert.proofs.writer.gain_values.Goals as goal

abbrev none : GainEntry
none = record { value = 0; gain = pos 0 }

pub loop-entry-preserved : goal.loop-entry-preserved
loop-entry-preserved c =
    let target = items_of c.args.target.now in
    let gains = c.args.gains.now in
    let i = c.loop-entry.entry-index in
    let entry : GainEntry = get_or gains i none in
    let made = c.loop-entry.values.items in
    piece_added (λ i es. map (gain_data target) es) (λ i e. gain_data target e ∷ []) (λ i e es. refl)
    gains i entry (map view made) (map view c.push.new.self.items) _ c.loop-entry-test.true (get_or_default gains i none entry c.loop-entry-test.true)
    (ap (map view) c.in_ok-push.ensures.items ∙ map-append view made (_ ∷ []) ∙ ap (λ d. map view made ++ d ∷ []) c.in_ok-gain_value.ensures) c.loop-entry.invariant
