use Rattle.kf_refine.specs.declared.verdict.RefineError.TheVariants as error
use Rattle.kf_top.proofs.Verdicts.{no_verdict}
use Rattle.kf_top.proofs.verdict.verdict_stop.Goals as goal

pub returns-in-Targets-clause-answer : goal.returns-in-Targets-clause-answer
returns-in-Targets-clause-answer c json a b is = no_verdict json a b c.args.error error.Targets c.in-Targets.is (λ mem. absurd (cc)) is

pub returns-in-Cells-clause-answer : goal.returns-in-Cells-clause-answer
returns-in-Cells-clause-answer c json a b is = no_verdict json a b c.args.error (error.Cells c.in-Cells.count) c.in-Cells.is (λ mem. absurd (cc)) is

pub returns-in-Wide-clause-answer : goal.returns-in-Wide-clause-answer
returns-in-Wide-clause-answer c json a b is = no_verdict json a b c.args.error (error.Wide c.in-Wide.pivots) c.in-Wide.is (λ mem. absurd (cc)) is

pub returns-in-Budget-clause-answer : goal.returns-in-Budget-clause-answer
returns-in-Budget-clause-answer c json a b is = no_verdict json a b c.args.error error.Budget c.in-Budget.is (λ mem. absurd (cc)) is
