use Rattle.std.proofs.Common.{◌≡◌, arith, [], length, ap, ◌∙◌, ◌<◌}
use Rattle.kf_column.specs.Columns.{total}
use Rattle.kf_column.specs.Hypers.{Inner}
use Rattle.kf_hyper.specs.Views.{inner_at}
use Rattle.kf_hyper.proofs.Reading.{whole_some, whole_narrow, shown_here, entry_within}
use Rattle.kf_hyper.proofs.hyper.Hyper.chance.Goals as goal

pub share-requires-clause-narrow : goal.share-requires-clause-narrow
share-requires-clause-narrow c =
    whole_narrow c.args.self.now.classes.items c.args.i c.index-class.result.now _ _ c.args.self.now.shape
    c.requires.inner c.index-class.ensures c.index-class.result.now.summed

pub share-requires-clause-within : goal.share-requires-clause-within
share-requires-clause-within c =
    let same : c.as_slice.result.now ≡ c.index-class.result.now.inner = c.as_slice.ensures ∙ c.entries.ensures.kept in
    let shown : (inner_at c.args.self.now c.args.i).entries ≡ c.index-class.result.now.inner =
    ap (λ (j : Inner). j.entries) (shown_here c.args.self.now.classes.items c.args.i c.index-class.result.now _ _ c.args.self.now.shape c.requires.inner c.index-class.ensures (record { entries = []; total = 0 })) in
    let inside : c.args.k < length c.as_slice.result.now = rw (same, ← shown) c.requires.entry in
    omega (arith, entry_within c.as_slice.result.now c.args.k (record { value = 0; weight = 0 }) inside, ap total same, c.index-class.result.now.summed)

pub share-requires-clause-some : goal.share-requires-clause-some
share-requires-clause-some c =
    whole_some c.args.self.now.classes.items c.args.i c.index-class.result.now _ _ c.args.self.now.shape
    c.requires.inner c.index-class.ensures c.index-class.result.now.summed
