use Rattle.std.proofs.Common.{sym, ◌∙◌}
use Rattle.kf_value.specs.TypeViews.{type_tree}
use Rattle.kf_value.proofs.Sizing.{known_fits}
use Rattle.kf_value.proofs.sizes.known_size.Goals as goal

pub returns : goal.returns
returns c =
    let known = known_fits (type_tree c.args.ty.now) c.in-Ok.size c.requires (sym c.in-Ok.is ∙ c.size.ensures) in
    record { exact = known.0; some = known.1; few = known.2 }
