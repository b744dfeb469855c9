use Rattle.kf_value.specs.TypeViews.{type_tree}
use Rattle.kf_value.specs.Views.{value_tree}
use Rattle.kf_prior.proofs.Literal.{value_literal}
use Rattle.kf_prior.proofs.declarations.nth_literal.Goals as goal

pub literal-requires : goal.literal-requires
literal-requires c = value_literal (type_tree c.args.ty.now) (value_tree c.in_ok-value.value) c.args.n c.requires.sized c.requires.formed c.in_ok-value.ensures.place
