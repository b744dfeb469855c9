use Rattle.std.proofs.Common.{List, arith, map, ap, ◌∙◌, subst, sym}
use Rattle.kf_core.specs.Views.{st_items}
use Rattle.kf_core.specs.declared.program.Program.{Program}
use Rattle.kf_gain.specs.Views.{gain_tree}
use Rattle.kf_lines.specs.Views.{AreLinesIn, site_of}
use Rattle.kf_lines.specs.declared.summary.Line.{Line}
use Rattle.kf_lines.proofs.EachLine.{body_long, has_all, has_first, has_more, narrow_before, of_body, within_before}
use Rattle.kf_lines.proofs.Walking.{left_sites}
use Rattle.kf_lines.proofs.summaries.lines_of.Goals as goal

pub loop-i-init : goal.loop-i-init
loop-i-init c =
    has_first c.args.cleared.now (gain_tree c.args.g.now) c.args.stmts.now c.as_slice-sts.result.now c.in_ok-before.before c.new-lines.result.items c.new-lines.ensures.items
    c.in_ok-before.ensures.before c.in_ok-before.ensures.cleared c.in_ok-before.ensures.place

pub add_lines-requires : goal.add_lines-requires
add_lines-requires c =
    let had = c.loop-i.invariant in
    let same = c.as_slice-sts.ensures ∙ ap (λ (p : Program). st_items p.body) c.program.ensures in
    let long = body_long c.args.cleared.now c.as_slice-sts.result.now same c.loop-i.i (omega (arith, c.loop-i-test.true, c.min-i-end.ensures)) in
    record {
      before = had.is_before;
      within = within_before c.args.cleared.now c.loop-i.before c.loop-i.i had.same had.place long;
      narrow = narrow_before c.args.cleared.now (gain_tree c.args.g.now) c.loop-i.before had.same c.requires.narrow;
    }

pub next-requires : goal.next-requires
next-requires c =
    let had = c.loop-i.invariant in
    let same = c.as_slice-sts.ensures ∙ ap (λ (p : Program). st_items p.body) c.program.ensures in
    let long = body_long c.args.cleared.now c.as_slice-sts.result.now same c.loop-i.i (omega (arith, c.loop-i-test.true, c.min-i-end.ensures)) in
    record { before = had.is_before; within = within_before c.args.cleared.now c.loop-i.before c.loop-i.i had.same had.place long }

pub loop-i-preserved : goal.loop-i-preserved
loop-i-preserved c =
    has_more c.args.cleared.now (gain_tree c.args.g.now) c.args.stmts.now c.as_slice-sts.result.now c.loop-i.i c.index-stmts-i.result c.index-sts-i.result c.loop-i.before
    c.next.new.self c.loop-i.lines.items c.add_lines.new.out.items c.as_slice.result.now
    (omega (arith, c.loop-i-test.true, c.min-i-end.ensures)) (omega (arith, c.loop-i-test.true, c.min-i-end.ensures)) c.index-stmts-i.is c.index-sts-i.is
    (ap (map site_of) c.as_slice.ensures ∙ c.in_ok-sites.ensures) c.loop-i.invariant c.in_ok-add_lines.ensures c.in_ok-next.ensures.before c.next.ensures.cleared c.in_ok-next.ensures.place

pub returns : goal.returns
returns c =
    let same = c.as_slice-sts.ensures ∙ ap (λ (p : Program). st_items p.body) c.program.ensures in
    of_body c.args.cleared.now (gain_tree c.args.g.now) c.args.stmts.now c.as_slice-sts.result.now same c.new.result
    (subst (λ (ls : List Line). AreLinesIn c.args.cleared.now (gain_tree c.args.g.now) (left_sites 0 c.args.stmts.now c.as_slice-sts.result.now) ls) (sym c.new.ensures)
    (has_all c.args.cleared.now (gain_tree c.args.g.now) c.args.stmts.now c.as_slice-sts.result.now c.loop-i.i c.loop-i.before c.loop-i.lines.items
    (omega (arith, c.loop-i-test.false, c.min-i-end.ensures)) c.loop-i.invariant))
