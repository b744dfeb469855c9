use Rattle.std.proofs.Common.{length, sym, ap, arith}
use Rattle.std.proofs.lemmas.List.{length-map}
use Rattle.kf_core.specs.Views.{dx_items, dx_tree}
use Rattle.kf_prior.proofs.Turns.{stores_here, stores_fit}
use Rattle.kf_prior.proofs.full.initial_stores.Goals as goal

pub overflow_mul-stores : goal.overflow_mul-stores
overflow_mul-stores c =
    let decls = ap length c.as_slice-i-end.ensures in
    let long = length-map (dx_items c.args.program.now.decls) dx_tree in
    let counted = c.requires.counted in
    let next = stores_here c.args.program.now.shape c.loop-i.i (omega arith) in
    let fits = stores_fit c.args.program.now.shape c.loop-i.i (omega arith) in
    rw (c.from-stores.ensures, c.size.ensures, c.loop-i.invariant, ← next) (omega arith)

pub loop-i-preserved : goal.loop-i-preserved
loop-i-preserved c =
    let decls = ap length c.as_slice-i-end.ensures in
    let long = length-map (dx_items c.args.program.now.decls) dx_tree in
    let counted = c.requires.counted in
    rw (c.from-stores.ensures, c.size.ensures, c.loop-i.invariant) (sym (stores_here c.args.program.now.shape c.loop-i.i (omega arith)))
