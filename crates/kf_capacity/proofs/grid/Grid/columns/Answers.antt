use Rattle.std.proofs.Common.{sym}
use Rattle.kf_capacity.proofs.Paired.{paired_long}
use Rattle.kf_capacity.proofs.grid.Grid.columns.Goals as goal

pub returns-in-Some : goal.returns-in-Some
returns-in-Some c = rw (c.as_slice.ensures, c.as_slice-in-Some.ensures, c.in-Some.is) (sym (paired_long c.in-Some.others c.args.self.now.columns))
