use Rattle.std.proofs.Common.{rules}
use Rattle.kf_parse.specs.Reading as r
use Rattle.kf_parse.specs.Trimmed.{trimmed}
use Rattle.kf_parse.proofs.Depths.{dist_step}
use Rattle.kf_parse.proofs.cursor.Cursor.dist.Goals as goal

pub returns-then-depth-eq0-clause-reads : goal.returns-then-depth-eq0-clause-reads
unfolding r.dist
returns-then-depth-eq0-clause-reads c = search rules

pub returns-clause-reads : goal.returns-clause-reads
returns-clause-reads c = rw (dist_step trimmed c.args.self.now.src.now c.args.depth c.args.self.now.rest.now c.if-depth-eq0.false) c.some_dist.ensures.reads
