use Rattle.std.proofs.Common.{◌∙◌, arith}
use Rattle.kf_column.specs.declared.entry.Entry.{Entry}
use Rattle.kf_capacity.proofs.Walking.{met, missed}
use Rattle.kf_capacity.proofs.weights.weight_from.Goals as goal

pub returns-then-entry-value-clause-weight : goal.returns-then-entry-value-clause-weight
returns-then-entry-value-clause-weight c =
    let d : Entry = record { value = 0; weight = 0 } in
    met c.args.entries.now c.loop-place.place d (omega (arith, c.loop-place-test.true)) c.args.value c.requires c.if-entry-value.true
    ∙ c.loop-place.invariant c.args.value (omega arith)

pub returns-then-entry-value-2-clause-weight : goal.returns-then-entry-value-2-clause-weight
returns-then-entry-value-2-clause-weight c =
    let d : Entry = record { value = 0; weight = 0 } in
    missed c.args.entries.now c.loop-place.place d (omega (arith, c.loop-place-test.true)) c.args.value c.requires (omega (arith, c.if-entry-value-2.true))
    ∙ c.loop-place.invariant c.args.value (omega arith)
