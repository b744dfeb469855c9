use Rattle.std.proofs.Common.{◌∙◌, codes, ◌++◌}
use Rattle.std.specs.List.{flat_map}
use Rattle.kf_lines.specs.Views.{own_line, own_text_of}
use Rattle.kf_lines.proofs.Texts.{same_lines}
use Rattle.kf_lines.proofs.text.lines_text.Goals as goal

pub returns : goal.returns
returns c whole tree all show =
    c.in_ok-print_lines.ensures ∙ (λ i. c.in_ok-print_summary.ensures i ++ flat_map (own_text_of c.args.bytes.now) (c.as_slice.ensures i))
    ∙ (λ i. (c.new-out.ensures.items i ++ own_line (codes "all") c.args.all.now) ++ flat_map (own_text_of c.args.bytes.now) c.args.lines.now)
    ∙ same_lines c.args.bytes.now whole tree c.args.all.now c.args.lines.now all show
