-- For bodies: putting a value at a place of a list.
use Rattle.std.specs.Prelude.{ℕ, List, ◌∷◌, ◌++◌, take, drop, Option, None, Some}
use Rattle.kf_value.specs.Values.{ValueTree}

-- the list with the value at the place, or without it where there is no place
abbrev pub with_value_at : Option ℕ → ValueTree → List ValueTree → List ValueTree
with_value_at None v vs = vs
with_value_at (Some place) v vs = take place vs ++ v ∷ drop place vs
