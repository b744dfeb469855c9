use Rattle.std.proofs.Common.{◌≢◌, rules}
use Rattle.kf_refine.specs.declared.verdict.RefineError.TheVariants as error
use Rattle.kf_refine.specs.Views.{hyper_tree}
use Rattle.kf_refine.proofs.decision.refine.Goals as goal

pub returns-clause-enough : goal.returns-clause-enough
returns-clause-enough c = λ kept are few same.
    let other : error.Budget ≢ error.Mem = search rules in
    c.one_verdict.ensures.enough (hyper_tree c.args.a.now) (hyper_tree c.args.b.now) c.args.pivots kept
    c.args.a.now.shape c.args.b.now.shape are few ((rw same at c.decide.ensures.err) other)
