use Rattle.std.proofs.lemmas.List.{drop_all, drop_more}
use Rattle.std.proofs.Common.{subst, drop, get_or, refl, ◌+◌, ℕ, [], ap, sym, ◌∙◌, arith}
use Rattle.kf_value.specs.Shapes.{shape_size}
use Rattle.kf_core.specs.Views.{program_tree}
use Rattle.kf_traces.specs.Traced.{copy_all}
use Rattle.kf_traces.specs.Views.{Fits}
use Rattle.kf_traces.proofs.Assigning.{goes_start, goes_here, goes_room, copy_more}
use Rattle.kf_traces.proofs.assigns.copy.Goals as goal

pub loop-entry-init : goal.loop-entry-init
loop-entry-init c =
    goes_start (copy_all (program_tree c.args.program.now)) (shape_size c.args.program.now.shape) c.args.stores.now c.args.stores.now c.new-copied.result
    c.new-copied.ensures refl c.requires.fits.below c.requires.fits.narrow

pub copied_store-after-requires-clause-store : goal.copied_store-after-requires-clause-store
copied_store-after-requires-clause-store c =
    goes_here (copy_all (program_tree c.args.program.now)) (shape_size c.args.program.now.shape) (drop c.loop-entry.entry-index c.args.stores.now) (drop (c.loop-entry.entry-index + 1) c.args.stores.now) (get_or c.args.stores.now c.loop-entry.entry-index (0, 0)) _ c.loop-entry.copied
    (drop_more c.args.stores.now c.loop-entry.entry-index (0, 0) c.loop-entry-test.true) c.loop-entry.invariant

pub add_weight-requires : goal.add_weight-requires
add_weight-requires c = record {
  within = goes_room (copy_all (program_tree c.args.program.now)) (shape_size c.args.program.now.shape) (drop c.loop-entry.entry-index c.args.stores.now) (drop (c.loop-entry.entry-index + 1) c.args.stores.now) (get_or c.args.stores.now c.loop-entry.entry-index (0, 0)) _
      c.loop-entry.copied (drop_more c.args.stores.now c.loop-entry.entry-index (0, 0) c.loop-entry-test.true) c.loop-entry.invariant;
}

pub loop-entry-preserved : goal.loop-entry-preserved
loop-entry-preserved c =
    let p = program_tree c.args.program.now in
    let e : ℕ × ℕ = (get_or c.args.stores.now c.loop-entry.entry-index (0, 0)) in
    copy_more p (shape_size c.args.program.now.shape) (drop c.loop-entry.entry-index c.args.stores.now) (drop (c.loop-entry.entry-index + 1) c.args.stores.now) e (copy_all p [] c.args.stores.now) c.loop-entry.copied
    (drop_more c.args.stores.now c.loop-entry.entry-index (0, 0) c.loop-entry-test.true) c.loop-entry.invariant c.copied_store-after.result c.add_weight.new.self c.copied_store-after.ensures.copied c.copied_store-after.ensures.below c.in_ok-add_weight.ensures

pub returns-clause-copied : goal.returns-clause-copied
returns-clause-copied c =
    c.settled.ensures
    ∙ ap (copy_all (program_tree c.args.program.now) c.loop-entry.copied) (sym (drop_all c.loop-entry.entry-index c.args.stores.now (omega (arith, c.loop-entry-test.false))))
    ∙ c.loop-entry.invariant.same

pub returns-clause-fits : goal.returns-clause-fits
returns-clause-fits c =
    subst (Fits (shape_size c.args.program.now.shape)) (sym c.settled.ensures) (record { below = c.loop-entry.invariant.held; narrow = omega (arith, c.loop-entry.invariant.within) })
