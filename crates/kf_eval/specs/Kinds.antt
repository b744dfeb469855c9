-- For bodies: the kinds of a shape's variables, and expressions that have some kind where variables have these.
use Rattle.std.specs.Prelude.{◌≡◌, ℕ, List, map, slice_get, Some}
use Rattle.std.specs.List.{AllByRecursion as Each}
use Rattle.kf_value.specs.Values.{ValueTree}
use Rattle.kf_value.specs.Kinds.{KindTree, TupleKind, kind_parts, kind_of}
use Rattle.kf_value.specs.Forms.{HasKind}
use Rattle.kf_value.specs.Shapes.{shape_types}
use Rattle.kf_value.specs.declared.shape.Shape.{Shape}
use Rattle.kf_core.specs.Exs.{ExTree}
use Rattle.kf_core.specs.Checked.{Kinded}

-- the kinds of the variables
abbrev pub shape_kinds : Shape → List KindTree
shape_kinds shape = map kind_of (shape_types shape)

-- the expression is checked where variables have these kinds
abbrev pub IsKinded : List KindTree → ExTree → Type 0
IsKinded ks x = (k : KindTree) × Kinded ks x k

abbrev pub AreKinded : List KindTree → List ExTree → Type 0
AreKinded ks xs = Each (IsKinded ks) xs

-- the value is a tuple that has this part
abbrev pub HasPart : ValueTree → ℕ → Type 0
HasPart v n = (js : List KindTree) × (k : KindTree) × HasKind v (TupleKind (kind_parts js)) × (slice_get js n ≡ Some k)
