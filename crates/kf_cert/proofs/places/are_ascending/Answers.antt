use Rattle.std.proofs.Common.{sym, ◌∙◌}
use Rattle.kf_cert.specs.Views.{entry_tree}
use Rattle.kf_cert.proofs.PlaceOrder.{ascends_more, ascends_all}
use Rattle.kf_cert.proofs.places.are_ascending.Goals as goal

pub loop-k-preserved : goal.loop-k-preserved
loop-k-preserved c =
    ascends_more entry_tree c.args.entries.now c.loop-k.k c.index-entries-k-in-loop-k.result c.index-entries-k.result c.loop-k.auto.k c.loop-k-test.true c.index-entries-k-in-loop-k.is c.index-entries-k.is
    (sym c.comes_before.ensures ∙ c.if-not-comes_before.false) c.loop-k.invariant

pub returns : goal.returns
returns c = sym (ascends_all entry_tree c.args.entries.now c.loop-k.k c.loop-k-test.false c.loop-k.invariant)
