use Rattle.std.proofs.Common.{sym, ◌∙◌}
use Rattle.kf_value.specs.TypeViews.{type_tree}
use Rattle.kf_answer_tests.proofs.Sizes.{sized}
use Rattle.kf_answer_tests.proofs.tests.types_and_values.known_size.Goals as goal

pub returns : goal.returns
returns c = sized (type_tree c.args.ty.now) c.in-Ok.size (sym c.in-Ok.is ∙ c.size.ensures)
