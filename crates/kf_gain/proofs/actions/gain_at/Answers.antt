use Rattle.std.proofs.Common.{◌∙◌, pos, rules, slice_index_or}
use Rattle.std.specs.Int.{w128}
use Rattle.std.specs.Prelude.{FitsSigned}
use Rattle.std.proofs.lemmas.Int.{to_z-of_z}
use Rattle.std.proofs.lemmas.List.Sorted.{answers_always}
use Rattle.kf_column.proofs.Gathering.{nat_equal}
use Rattle.kf_hyper.proofs.Rising.{searchable_by}
use Rattle.kf_gain.specs.declared.table.GainEntry.{GainEntry}
use Rattle.kf_gain.proofs.Finding.{gain_found, missed}
use Rattle.kf_gain.proofs.actions.gain_at.Goals as goal

pub returns-in-Ok : goal.returns-in-Ok
returns-in-Ok c =
    let none : GainEntry = record { value = 0; gain = pos 0 } in
    let same = c.in-Ok.ensures.position (λ e. e.value) (answers_always _ _ _ (λ f a r g called. search rules)) in
    let fits : FitsSigned w128 (slice_index_or c.args.gains.now c.in-Ok.place none).gain = search rules in
    to_z-of_z w128 (slice_index_or c.args.gains.now c.in-Ok.place none).gain fits
    ∙ gain_found c.args.rest c.args.gains.now c.args.value c.in-Ok.place none c.requires c.in-Ok.ensures.bound (nat_equal _ c.args.value (same none))

pub returns-in-Err : goal.returns-in-Err
returns-in-Err c =
    let apart = c.in-Err.ensures.position (λ e. e.value) (answers_always _ _ _ (λ f a r g called. search rules)) (searchable_by (λ e. e.value) c.args.gains.now c.args.value c.requires) in
    to_z-of_z w128 c.args.rest c.ranges.rest ∙ missed c.args.rest c.args.gains.now c.args.value c.in-Err.field-0 apart.0 apart.1
