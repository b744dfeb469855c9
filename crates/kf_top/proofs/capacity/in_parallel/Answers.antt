use Rattle.std.proofs.Common.{Ok, refl}
use Rattle.kf_capacity.specs.Compositions.{IsParallel}
use Rattle.kf_capacity.specs.Views.{channel_tree, grid_tree}
use Rattle.kf_capacity.specs.declared.error.ParallelFault.TheVariants as fault
use Rattle.kf_capacity.specs.Composing.{parallel_fault}
use Rattle.kf_top.proofs.Capacities.{given_fault}
use Rattle.kf_top.proofs.capacity.in_parallel.Goals as goal

pub returns-in-Ok-clause-answer : goal.returns-in-Ok-clause-answer
returns-in-Ok-clause-answer c = (Ok (grid_tree c.in-Ok.grid), c.in-Ok.ensures.is, refl)

pub returns-in-Err-Targets-clause-answer : goal.returns-in-Err-Targets-clause-answer
returns-in-Err-Targets-clause-answer c =
    given_fault parallel_fault (IsParallel (channel_tree c.args.c.now) (channel_tree c.args.d.now)) fault.Mem c.in-Err-Targets.field-0 fault.Targets c.in-Err-Targets.field-0-is
    (λ e. absurd (cc)) c.in-Err-Targets.ensures.err

pub returns-in-Err-Rows-clause-answer : goal.returns-in-Err-Rows-clause-answer
returns-in-Err-Rows-clause-answer c =
    given_fault parallel_fault (IsParallel (channel_tree c.args.c.now) (channel_tree c.args.d.now)) fault.Mem c.in-Err-Rows.field-0 fault.Rows c.in-Err-Rows.field-0-is
    (λ e. absurd (cc)) c.in-Err-Rows.ensures.err

pub returns-in-Err-Cells-clause-answer : goal.returns-in-Err-Cells-clause-answer
returns-in-Err-Cells-clause-answer c =
    given_fault parallel_fault (IsParallel (channel_tree c.args.c.now) (channel_tree c.args.d.now)) fault.Mem c.in-Err-Cells.field-0 (fault.Cells c.in-Err-Cells.count) c.in-Err-Cells.field-0-is
    (λ e. absurd (cc)) c.in-Err-Cells.ensures.err

pub returns-in-Err-Wide-clause-answer : goal.returns-in-Err-Wide-clause-answer
returns-in-Err-Wide-clause-answer c =
    given_fault parallel_fault (IsParallel (channel_tree c.args.c.now) (channel_tree c.args.d.now)) fault.Mem c.in-Err-Wide.field-0 fault.Wide c.in-Err-Wide.field-0-is
    (λ e. absurd (cc)) c.in-Err-Wide.ensures.err
