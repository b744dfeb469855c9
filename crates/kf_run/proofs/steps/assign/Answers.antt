use Rattle.std.proofs.Common.{◌≡◌, false, sym}
use Rattle.std.proofs.lemmas.Result.{IfOk-weaker}
use Rattle.kf_hyper.specs.declared.columns.Columns.{Columns}
use Rattle.kf_value.specs.Shapes.{shape_types}
use Rattle.kf_core.specs.Ready.{IsPushed}
use Rattle.kf_core.specs.Runs.{assigned}
use Rattle.kf_core.specs.Views.{dx_tree}
use Rattle.kf_core.specs.Leaks.{silent}
use Rattle.kf_eval.specs.Reads.{placed_reads}
use Rattle.kf_run.proofs.Forgetting.{forgotten_goes, forgotten_pushed}
use Rattle.kf_run.proofs.steps.assign.Goals as goal

pub spread-requires-2-clause-goes : goal.spread-requires-2-clause-goes
spread-requires-2-clause-goes c =
    let ts = shape_types c.args.shape.now in
    let d = dx_tree c.args.dist.now in
    let unread : placed_reads c.args.slot d ≡ false = sym c.if-dist_reads.ensures in
    let pushed = c.in_ok-forgotten.ensures.pushed in
    forgotten_goes ts c.args.slot pushed.0 d unread c.args.columns.now.columns c.in_ok-forgotten.forgotten.columns c.are_columns.ensures.are c.requires.goes pushed.1

pub returns-clause-pushed : goal.returns-clause-pushed
returns-clause-pushed c =
    let ts = shape_types c.args.shape.now in
    let d = dx_tree c.args.dist.now in
    let runs = assigned silent ts c.args.slot d in
    let unread : placed_reads c.args.slot d ≡ false = sym c.if-dist_reads.ensures in
    let pushed = c.in_ok-forgotten.ensures.pushed in
    let before = c.args.columns.now.columns in
    let between = c.in_ok-forgotten.forgotten.columns in
    IfOk-weaker c.spread-2.result (λ (after : Columns). IsPushed runs between after.columns) (λ (after : Columns). IsPushed runs before after.columns)
    (λ after. forgotten_pushed ts c.args.slot pushed.0 d unread before between c.are_columns.ensures.are c.requires.goes pushed.1 after.columns) c.spread-2.ensures.pushed
