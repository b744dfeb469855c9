-- Believed: stores, one value for each variable, in their order.
use Rattle.std.specs.Prelude.{List, map}
use Rattle.kf_value.specs.Values.{ValueTree}
use Rattle.kf_value.specs.Types.{TypeTree, values, combinations}

-- all stores of variables of these types in their order; the number of a store is its place in this list
unfoldable pub stores : List TypeTree → List (List ValueTree)
stores ts = combinations (map values ts)
