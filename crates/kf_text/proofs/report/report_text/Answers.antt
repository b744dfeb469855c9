use Rattle.std.proofs.Common.{◌≡◌, ◌∙◌, rules, append_assoc}
use Rattle.kf_gain.specs.Views.{gain_tree}
use Rattle.kf_text.specs.Views.{own_lines}
use Rattle.kf_text.proofs.Reporting.{same_report}
use Rattle.kf_text.proofs.report.report_text.Goals as goal

pub returns-clause-numbers : goal.returns-clause-numbers
returns-clause-numbers c l is =
    let own : c.print_fraction-3.new.out.items ≡ own_lines (gain_tree c.args.g.now) c.args.r.now = search (rules, append_assoc) in
    own ∙ same_report (gain_tree c.args.g.now) c.args.r.now l is
