use Rattle.std.proofs.Common.{ℕ, ◌==◌, List, ◌∙◌, ap, subst, sym, arith}
use Rattle.kf_value.specs.Shapes.{shape_sizes}
use Rattle.kf_column.specs.declared.entry.Entry.{Entry}
use Rattle.kf_column.specs.Columns.{IsColumn, total, weight_at}
use Rattle.kf_column.specs.Projection.{projected}
use Rattle.kf_hyper.specs.Sums.{ArePositive}
use Rattle.kf_hyper.proofs.Moving.{all_moved, moved_total, moved_positive, moved_weights}
use Rattle.kf_column.proofs.Scaling.{total_positive}
use Rattle.kf_hyper.proofs.projection.projected_column.Goals as goal

pub gathered-requires-clause-some : goal.gathered-requires-clause-some
gathered-requires-clause-some c =
    let become : ℕ → ℕ = projected (shape_sizes c.args.shape.now) c.args.slots.now in
    let all = all_moved become c.args.column.now c.as_slice-whole.result.now c.loop-entry.entries.items c.loop-entry.entry-index (c.as_slice-whole.ensures ∙ c.entries.ensures.kept) c.loop-entry-test.false c.loop-entry.invariant.moved in
    omega (arith, ap total all, moved_total become c.args.column.now, total_positive c.entries.result.now c.entries.ensures.column, ap total c.entries.ensures.kept)

pub gathered-requires-clause-positive : goal.gathered-requires-clause-positive
gathered-requires-clause-positive c =
    let become : ℕ → ℕ = projected (shape_sizes c.args.shape.now) c.args.slots.now in
    let all = all_moved become c.args.column.now c.as_slice-whole.result.now c.loop-entry.entries.items c.loop-entry.entry-index (c.as_slice-whole.ensures ∙ c.entries.ensures.kept) c.loop-entry-test.false c.loop-entry.invariant.moved in
    subst ArePositive (sym all) (moved_positive become c.args.column.now (subst IsColumn c.entries.ensures.kept c.entries.ensures.column).positive)

pub returns-clause-weights : goal.returns-clause-weights
returns-clause-weights c =
    let become : ℕ → ℕ = projected (shape_sizes c.args.shape.now) c.args.slots.now in
    let all = all_moved become c.args.column.now c.as_slice-whole.result.now c.loop-entry.entries.items c.loop-entry.entry-index (c.as_slice-whole.ensures ∙ c.entries.ensures.kept) c.loop-entry-test.false c.loop-entry.invariant.moved in
    λ i x. (c.gathered.ensures.weights (λ v. v == x) ∙ ap (λ (es : List Entry). weight_at es x) all ∙ moved_weights become c.args.column.now x) i
