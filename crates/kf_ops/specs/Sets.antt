-- For bodies: the sets that operators give, by names of their own.
use Rattle.std.specs.Prelude.{Bool, List, not}
use Rattle.std.specs.List.{list_all, filter}
use Rattle.kf_value.specs.Values.{ValueTree}
use Rattle.kf_ops.specs.Values.{inserted, is_in}
use mathlib.Core.List.{foldr}

-- each value is one of the list
abbrev pub are_in : List ValueTree → List ValueTree → Bool
are_in vs ws = list_all (λ v. is_in v ws) vs

-- the elements of the first set that aren't in the second
abbrev pub without : List ValueTree → List ValueTree → List ValueTree
without vs ws = filter (λ v. not (is_in v ws)) vs

-- the elements of either set
abbrev pub either : List ValueTree → List ValueTree → List ValueTree
either vs ws = foldr inserted ws vs

-- the elements of both sets
abbrev pub both : List ValueTree → List ValueTree → List ValueTree
both vs ws = filter (λ v. is_in v ws) vs
