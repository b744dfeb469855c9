use Rattle.std.proofs.Common.{All, ap, sym, subst, ◌∙◌}
use Rattle.kf_value.specs.Numbers.{target_size}
use Rattle.kf_core.specs.Views.{program_tree}
use Rattle.kf_column.specs.Shapes.{IsBelow}
use Rattle.kf_hyper.specs.Views.{inners_of}
use Rattle.kf_push.proofs.AboutTarget.{is_finished}
use Rattle.kf_core.proofs.Numbering.{slots_within, slots_distinct, target_size_is}
use Rattle.kf_push.proofs.end.about_target.Goals as goal

pub project-requires-clause-places : goal.project-requires-clause-places
project-requires-clause-places c = slots_within (program_tree c.args.program.now) c.requires.checked

pub project-requires-clause-apart : goal.project-requires-clause-apart
project-requires-clause-apart c = slots_distinct (program_tree c.args.program.now) c.requires.checked

pub abstract_columns-requires-clause-within : goal.abstract_columns-requires-clause-within
abstract_columns-requires-clause-within c =
    subst (λ n. All (IsBelow n) c.in_ok-about.about.columns)
    (sym (ap target_size c.in_ok-target.ensures ∙ target_size_is (program_tree c.args.program.now) c.requires.checked)) c.in_ok-about.ensures.below

pub returns-clause-hyper : goal.returns-clause-hyper
returns-clause-hyper c =
    is_finished (program_tree c.args.program.now) c.requires.checked c.projection_laws.ensures c.args.columns.now.columns c.in_ok-about.about.columns
    (inners_of c.in_ok-hyper.hyper) c.are_columns.ensures.are c.are_columns-2.ensures.are
    c.requires.below c.in_ok-about.ensures.weights c.in_ok-hyper.ensures.hyper
