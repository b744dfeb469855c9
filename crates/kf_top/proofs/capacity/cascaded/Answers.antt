use Rattle.std.proofs.Common.{Ok, refl}
use Rattle.kf_capacity.specs.Compositions.{IsCascade}
use Rattle.kf_capacity.specs.Views.{channel_tree, grid_tree}
use Rattle.kf_capacity.specs.declared.error.CascadeFault.TheVariants as fault
use Rattle.kf_capacity.specs.Composing.{cascade_fault}
use Rattle.kf_top.proofs.Capacities.{given_fault}
use Rattle.kf_top.proofs.capacity.cascaded.Goals as goal

pub returns-in-Ok-clause-answer : goal.returns-in-Ok-clause-answer
returns-in-Ok-clause-answer c = (Ok (grid_tree c.in-Ok.grid), c.in-Ok.ensures.is, refl)

pub returns-in-Err-Fit-clause-answer : goal.returns-in-Err-Fit-clause-answer
returns-in-Err-Fit-clause-answer c =
    given_fault cascade_fault (IsCascade (channel_tree c.args.c.now) (channel_tree c.args.d.now)) fault.Mem c.in-Err-Fit.field-0 fault.Fit c.in-Err-Fit.field-0-is
    (λ e. absurd (cc)) c.in-Err-Fit.ensures.err

pub returns-in-Err-Wide-clause-answer : goal.returns-in-Err-Wide-clause-answer
returns-in-Err-Wide-clause-answer c =
    given_fault cascade_fault (IsCascade (channel_tree c.args.c.now) (channel_tree c.args.d.now)) fault.Mem c.in-Err-Wide.field-0 fault.Wide c.in-Err-Wide.field-0-is
    (λ e. absurd (cc)) c.in-Err-Wide.ensures.err
