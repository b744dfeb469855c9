use Rattle.std.proofs.Common.{◌∙◌, sym, subst}
use Rattle.kf_column.specs.Columns.{IsColumn}
use Rattle.kf_column.specs.Classes.{IsReduced}
use Rattle.std.specs.Map.{keys_of}
use Rattle.kf_refine.proofs.Members.{sorted_rises}
use Rattle.kf_refine.proofs.Walking.{walk_start, walk_end, walk_keeps, walk_drops, row_here, row_found}
use Rattle.kf_refine.proofs.kept.smallest.Goals as goal

pub loop-value-init : goal.loop-value-init
loop-value-init c =
    rw (c.new-seen.ensures.empty, c.into_iter-value-iterator.ensures.into_iter_gives.0, c.new-values.ensures.items)
    (walk_start c.args.rows.now.entries c.into_iter-value-iterator.ensures.into_iter_gives.6)

pub reduced-requires : goal.reduced-requires
reduced-requires c =
    let rises = sorted_rises (keys_of c.args.rows.now.entries) c.into_iter-value-iterator.ensures.into_iter_gives.5 in
    let is = c.in-Some.ensures.steps in
    let here = row_here c.args.rows.now.entries rises c.loop-value.seen.keys c.in-Some.value.now c.in-Some.row.now c.loop-value.value-iterator c.next.new.self c.loop-value.values.items
    c.loop-value.invariant is in
    let found = row_found c.args.rows.now.entries rises c.loop-value.seen.keys c.in-Some.value.now c.in-Some.row.now c.loop-value.value-iterator c.next.new.self c.loop-value.values.items
    c.loop-value.invariant is in
    subst IsColumn (here ∙ sym c.as_slice.ensures.value) (c.requires c.in-Some.value.now found)

pub loop-value-preserved-in_ok-push : goal.loop-value-preserved-in_ok-push
loop-value-preserved-in_ok-push c =
    rw c.in_ok-push.ensures.items
    (walk_keeps c.args.rows.now.entries (sorted_rises (keys_of c.args.rows.now.entries) c.into_iter-value-iterator.ensures.into_iter_gives.5) c.loop-value.seen.keys
    c.in-Some.value.now c.in-Some.row.now c.loop-value.value-iterator c.next.new.self c.loop-value.values.items c.loop-value.invariant c.in-Some.ensures.steps c.in_ok-reduced.field-0
    c.insert.new.self.keys (subst (λ l. IsReduced l c.in_ok-reduced.field-0.items) c.as_slice.ensures.value c.in_ok-reduced.ensures) c.in_ok-insert.ensures.updates.1 c.in_ok-insert.ensures.updates.0
    (sym c.in_ok-insert.ensures.added ∙ c.if-branch.true))

pub loop-value-preserved : goal.loop-value-preserved
loop-value-preserved c =
    walk_drops c.args.rows.now.entries (sorted_rises (keys_of c.args.rows.now.entries) c.into_iter-value-iterator.ensures.into_iter_gives.5) c.loop-value.seen.keys
    c.in-Some.value.now c.in-Some.row.now c.loop-value.value-iterator c.next.new.self c.loop-value.values.items c.loop-value.invariant c.in-Some.ensures.steps c.in_ok-reduced.field-0
    c.insert.new.self.keys (subst (λ l. IsReduced l c.in_ok-reduced.field-0.items) c.as_slice.ensures.value c.in_ok-reduced.ensures) c.in_ok-insert.ensures.updates.1 c.in_ok-insert.ensures.updates.0
    (sym c.in_ok-insert.ensures.added ∙ c.if-branch.false)

pub returns : goal.returns
returns c = walk_end c.args.rows.now.entries c.loop-value.seen.keys c.loop-value.value-iterator c.loop-value.values.items c.in-None.ensures.steps.0 c.loop-value.invariant
