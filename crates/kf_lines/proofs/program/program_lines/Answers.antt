use Rattle.std.proofs.Common.{◌≡◌, ℕ, ◌*◌, List, Err, ap, length, map, refl, subst, ◌∙◌}
use Rattle.kf_ast.specs.declared.stmt.Stmt.{Stmt}
use Rattle.kf_ast.specs.Stmts.{stmts}
use Rattle.kf_ast.specs.Views.{source_tree, stmt_tree}
use Rattle.kf_core.specs.Sts.{sts}
use Rattle.kf_frac.specs.Parts.{IsFraction}
use Rattle.kf_gain.specs.Gains.{over_of}
use Rattle.kf_gain.specs.Views.{gain_tree}
use Rattle.kf_gain.specs.declared.gain.GainFault.TheVariants as fault
use Rattle.kf_hyper.specs.Views.{inners_of, scale_of}
use Rattle.kf_lines.specs.LineTexts.{lines_text}
use Rattle.kf_lines.specs.Sites.{block_sites, program_sites}
use Rattle.kf_lines.specs.Summaries.{LinesTree}
use Rattle.kf_lines.specs.Views.{AreLinesIn}
use Rattle.kf_load.specs.Views.{program_in}
use Rattle.kf_support.specs.Cleared.{whole_scale}
use Rattle.kf_lines.proofs.EachLine.{narrow_in, trees_of, wide_in}
use Rattle.kf_lines.proofs.program.program_lines.Goals as goal

pub lines_of-requires : goal.lines_of-requires
lines_of-requires c =
    let hyper = c.in_ok-hyper.hyper in
    let is = c.in_ok-hyper.ensures in
    record { narrow = narrow_in c.args.cleared.now (gain_tree c.args.gain.now) (inners_of hyper) is.hyper (scale_of hyper) is.scale c.in-Ok.ensures.narrow }

pub returns-clause-narrow : goal.returns-clause-narrow
returns-clause-narrow c =
    let hyper = c.in_ok-hyper.hyper in
    let is = c.in_ok-hyper.ensures in
    narrow_in c.args.cleared.now (gain_tree c.args.gain.now) (inners_of hyper) is.hyper (scale_of hyper) is.scale c.in-Ok.ensures.narrow

pub returns-in-Err-clause-wide : goal.returns-in-Err-clause-wide
returns-in-Err-clause-wide c wide =
    let hyper = c.in_ok-hyper.hyper in
    let is = c.in_ok-hyper.ensures in
    let same : c.in-Err.fault ≡ fault.Wide = cc in
    wide_in c.args.cleared.now (gain_tree c.args.gain.now) (inners_of hyper) is.hyper (scale_of hyper) is.scale (c.in-Err.ensures.wide (ap Err same))

pub returns-clause-text : goal.returns-clause-text
returns-clause-text c =
    let cleared = c.args.cleared.now in
    let p = program_in cleared in
    let g = gain_tree c.args.gain.now in
    let hyper = c.in_ok-hyper.hyper in
    let is = c.in_ok-hyper.ensures in
    let z = c.in-Ok.ensures.posterior in
    let trees = trees_of cleared g (program_sites (source_tree c.args.source.now) p) c.in_ok-lines.lines
    (subst (λ (ss : List Stmt). AreLinesIn cleared g (block_sites 0 (stmts (map stmt_tree ss)) (sts p.body)) c.in_ok-lines.lines) c.as_slice.ensures c.in_ok-lines.ensures) in
    let tree : LinesTree = record { all = record { inners = length (inners_of hyper); posterior = z.0 }; lines = trees.0 } in (
      tree,
      record { whole = record { inners = inners_of hyper; is_hyper = is.hyper; counted = refl; posterior = z.1 }; each = trees.1 },
      c.in_ok-text.ensures (whole_scale cleared * over_of g) tree
          (record { inners = c.in-Ok.ensures.inners; posterior = subst (λ (n : ℕ). IsFraction c.in-Ok.all.posterior z.0 (n * over_of g)) is.scale z.2 }) trees.2
          ∙ ap (λ (n : ℕ). lines_text c.args.bytes.now (n * over_of g) tree) cleared.scale_is,
    )
