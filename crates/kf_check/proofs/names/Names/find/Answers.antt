use Rattle.std.proofs.Common.{sym}
use Rattle.kf_check.proofs.Naming.{unknown_from_lookup, found_from_entry}
use Rattle.kf_check.proofs.names.Names.find.Goals as goal

pub returns-in_err-place : goal.returns-in_err-place
returns-in_err-place c = rw c.from_residual.ensures (unknown_from_lookup c.args.name.now c.args.self.now.variables.entries (sym c.in_err-place.ensures.value))

pub returns : goal.returns
returns c = found_from_entry c.args.name.now c.args.self.now.variables.entries c.in_ok-place.place _ c.in_ok-place.named.now c.in_ok-place.ensures.entry c.in_ok-place.ensures.index
