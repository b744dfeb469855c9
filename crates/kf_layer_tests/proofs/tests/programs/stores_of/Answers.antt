use Rattle.std.proofs.Common.{◌∙◌, sym, ◌*◌, ◌+◌, ap, subst, ◌<◌, drop}
use Rattle.kf_value.specs.Shapes.{shape_sizes}
use Rattle.kf_value.specs.Types.{product}
use Rattle.kf_layer_tests.proofs.Ways.{product_step}
use Rattle.kf_layer_tests.proofs.tests.programs.stores_of.Goals as goal

pub loop-i-preserved : goal.loop-i-preserved
loop-i-preserved c =
    let within = subst (λ n. c.loop-i.i < n) c.variables_of-i-end.ensures c.loop-i-test.true in
    let step = product_step c.args.shape.now c.loop-i.i c.loop-i.stores c.size.result within c.size.ensures in
    let grown = c.in_ok-stores.ensures.1 ∙ ap (λ n. c.loop-i.stores * n) c.from.ensures in
    ap (λ n. n * product (drop (c.loop-i.i + 1) (shape_sizes c.args.shape.now))) grown ∙ (sym step ∙ c.loop-i.invariant)
