use Rattle.kf_hyper.proofs.Reading.{total_within}
use Rattle.kf_hyper.proofs.hyper.Hyper.outer.Goals as goal

pub share-requires-clause-within : goal.share-requires-clause-within
share-requires-clause-within c =
    total_within c.args.self.now.classes.items c.args.i c.index.result.now _ _ c.args.self.now.shape
    c.requires c.index.ensures
