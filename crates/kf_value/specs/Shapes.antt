-- For bodies: what a shape shows of itself.
use Rattle.std.specs.Prelude.{ℕ, List, map}
use Rattle.kf_value.specs.declared.shape.Shape.{Shape}
use Rattle.kf_value.specs.Types.{TypeTree, count, product}
use Rattle.kf_value.specs.Views.{type_trees}

-- the types of the variables
abbrev pub shape_types : Shape → List TypeTree
shape_types s = type_trees s.types

-- how many values each variable's type has
abbrev pub shape_sizes : Shape → List ℕ
shape_sizes s = map count (shape_types s)

-- how many stores there are
abbrev pub shape_size : Shape → ℕ
shape_size s = product (shape_sizes s)
