use Rattle.std.proofs.Common.{arith}
use Rattle.kf_gain.specs.Views.{gain_tree}
use Rattle.kf_run.specs.Before.{cleared_before, place_before}
use Rattle.kf_lines.proofs.EachLine.{adds_first, adds_last, adds_more}
use Rattle.kf_lines.proofs.summaries.add_lines.Goals as goal

pub loop-site-init : goal.loop-site-init
loop-site-init c done h =
    adds_first (cleared_before c.args.before.now) (gain_tree c.args.g.now) (place_before c.args.before.now) done c.args.sites.now c.args.out.now.items h

pub loop-site-preserved : goal.loop-site-preserved
loop-site-preserved c done h =
    rw c.in_ok-push.ensures.items
    (adds_more (cleared_before c.args.before.now) (gain_tree c.args.g.now) (place_before c.args.before.now) done c.args.sites.now c.loop-site.site-index c.site-item.result
    c.loop-site.out.items c.in_ok-line_of.field-0 (omega arith) c.site-item.is (c.loop-site.invariant done h) c.in_ok-line_of.ensures)

pub returns : goal.returns
returns c done h =
    adds_last (cleared_before c.args.before.now) (gain_tree c.args.g.now) (place_before c.args.before.now) done c.args.sites.now c.loop-site.site-index
    c.loop-site.out.items c.loop-site-test.false (c.loop-site.invariant done h)
