use Rattle.std.proofs.Common.{◌≡◌, ◌++◌, map, drop}
use Rattle.serde_json.specs.View.{view}
use Rattle.kf_value.specs.Views.{items_of}
use Rattle.kf_cert.specs.Parts.{gain_data}
use Rattle.kf_cert.proofs.writer.gain_values.Given as goal

abbrev pub invariant-loop-entry : goal.invariant-loop-entry
invariant-loop-entry l =
    map view l.values.items ++ map (gain_data (items_of l.target)) (drop l.entry-index l.gains) ≡ map (gain_data (items_of l.target)) l.gains
