use Rattle.std.proofs.Common.{sym}
use Rattle.kf_check.proofs.Naming.{flag_here, no_flag}
use Rattle.kf_check.proofs.names.Names.is_visible.Goals as goal

pub returns-in-Some : goal.returns-in-Some
returns-in-Some c = flag_here (λ e. e.1.visible) c.args.self.now.variables.entries c.args.slot _ (sym (rw c.from.ensures at c.in-Some.ensures.entry))

pub returns-in-None : goal.returns-in-None
returns-in-None c = no_flag (λ e. e.1.visible) c.args.self.now.variables.entries c.args.slot (sym (rw c.from.ensures at c.in-None.ensures.entry))
