use Rattle.std.proofs.Common.{map, sym, ◌∙◌}
use Rattle.kf_value.specs.TypeViews.{type_tree}
use Rattle.kf_value.proofs.Sizing.{known_product_fits}
use Rattle.kf_value.proofs.sizes.known_product.Goals as goal

pub returns : goal.returns
returns c = known_product_fits (map type_tree c.args.types.now) c.in-Ok.product c.requires (sym c.in-Ok.is ∙ c.product_of_sizes.ensures)
