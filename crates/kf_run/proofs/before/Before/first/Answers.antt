use Rattle.kf_run.specs.Before.{meaning_of}
use Rattle.kf_run.proofs.Outermost as outermost
use Rattle.kf_run.proofs.before.Before.first.Goals as goal

pub returns-clause-before : goal.returns-clause-before
returns-clause-before c =
    let made = c.in_ok-columns.ensures.start in
    record {
      column = made.0;
      behind =
          outermost.behind_none (meaning_of c.args.cleared.now) made.0 c.in_ok-columns.columns made.1 made.2 c.in_ok-columns.ensures.scale
          c.in_ok-columns.ensures.below c.in_ok-columns.ensures.mass c.in_ok-columns.ensures.ready;
    }
