-- For bodies: what is leaked, in one group for each value.
use Rattle.std.specs.Prelude.{◌≡◌, ℕ, List, [], ◌∷◌, map, sum_by, flat_map}
use Rattle.std.specs.List.{AllByRecursion as Each}
use Rattle.std.specs.declared.cmp.Ordering.TheVariants.{Less}
use Rattle.kf_value.specs.Values.{ValueTree, order}
use Rattle.kf_value.specs.Views.{value_tree}
use Rattle.kf_run.specs.Ways.{Way, along}
use Rattle.kf_run.specs.declared.leak_groups.Group.{Group}

-- the value of a group, and the ways of its leaks
abbrev pub value_in : Group → ValueTree
value_in g = value_tree g.value.now

abbrev pub ways_in : Group → List Way
ways_in g = map (along (value_in g ∷ [])) g.entries.items

-- each value comes before those of the later groups
abbrev pub Ascend : List Group → Type 0
Ascend [] = Unit {0}
Ascend (g ∷ gs) = Each (λ h. order (value_in g) (value_in h) ≡ Less) gs × Ascend gs

-- the same ways in some order: whatever is added up over them comes to the same
abbrev pub AreSame : List Way → List Way → Type 0
AreSame us vs = (f : Way → ℕ) → sum_by f vs ≡ sum_by f us

pub record AreGroupsOf (ways : List Way) (groups : List Group) : Type 0 where
  pub ascend : Ascend groups
  pub full : Each (λ g. g.entries.items ≡ [] → ⊥) groups
  pub same : AreSame ways (flat_map ways_in groups)
