use Rattle.kf_parse.proofs.Spelled.{behind_first}
use Rattle.kf_parse.proofs.cursor.Cursor.skip.Goals as goal

pub invariant_of-self : goal.invariant_of-self
invariant_of-self c = record { names = behind_first c.args.self.now.src.now c.args.self.now.rest.now c.args.self.now.names }
