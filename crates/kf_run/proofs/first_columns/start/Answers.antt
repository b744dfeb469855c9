use Rattle.std.proofs.Common.{sym, subst}
use Rattle.kf_core.specs.Checked.{IsChecked}
use Rattle.kf_core.specs.Views.{program_tree}
use Rattle.kf_core.proofs.Unsquashed.{checked_again}
use Rattle.kf_support.specs.Cleared.{program_of}
use Rattle.kf_run.proofs.first_columns.start.Goals as goal

pub begin-requires-clause-checked : goal.begin-requires-clause-checked
begin-requires-clause-checked c =
    subst (λ p. IsChecked (program_tree p)) (sym c.program.ensures) (checked_again (program_tree (program_of c.args.c.now)) c.args.c.now.checked)
