use Rattle.std.proofs.Common.{Err, ap, ◌∷◌, refl}
use Rattle.kf_gain.specs.Views.{gain_tree}
use Rattle.kf_hyper.specs.Views.{inners_of, scale_of}
use Rattle.kf_lines.specs.Sites.{under}
use Rattle.kf_lines.specs.Views.{site_of}
use Rattle.kf_run.specs.Before.{cleared_before, place_before}
use Rattle.kf_lines.proofs.EachLine.{line_is, never_wide}
use Rattle.kf_lines.proofs.summaries.line_of.Goals as goal

pub returns-in-Ok : goal.returns-in-Ok
returns-in-Ok c =
    let before = c.args.before.now in
    let hyper = c.in_ok-hyper.hyper in
    let z = c.in-Ok.ensures.posterior in
    line_is (cleared_before before) (gain_tree c.args.g.now) (under (place_before before) (site_of c.args.site.now)) (place_before before ∷ c.as_slice.result.now)
    (ap (λ path. place_before before ∷ path) c.as_slice.ensures) (record { at = c.args.site.now.at; left = c.in-Ok.left }) refl (inners_of hyper) c.in_ok-hyper.ensures.hyper
    c.in-Ok.ensures.inners (scale_of hyper) c.in_ok-hyper.ensures.scale z.0 z.1 z.2

pub unreachable-requires : goal.unreachable-requires
unreachable-requires c =
    let before = c.args.before.now in
    let hyper = c.in_ok-hyper.hyper in
    never_wide (cleared_before before) (gain_tree c.args.g.now) c.silent_gain_laws.ensures.width c.requires.narrow (place_before before ∷ c.as_slice.result.now) (inners_of hyper)
    c.in_ok-hyper.ensures.hyper (scale_of hyper) c.in_ok-hyper.ensures.scale (c.in-Err-Wide.ensures.wide (ap Err c.in-Err-Wide.field-0-is))
