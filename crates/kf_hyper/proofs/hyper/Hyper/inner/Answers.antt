use Rattle.kf_hyper.proofs.Reading.{values_within}
use Rattle.kf_hyper.proofs.hyper.Hyper.inner.Goals as goal

pub returns-clause-within : goal.returns-clause-within
returns-clause-within c =
    values_within c.args.self.now.classes.items c.args.i c.index.result.now _ _ c.args.self.now.shape
    c.requires c.index.ensures
