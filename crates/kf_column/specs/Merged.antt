-- For bodies: columns of one posterior added up, and lists of columns that come to the same beliefs.
use Rattle.std.specs.Prelude.{◌≡◌, ◌↔◌, List, map}
use Rattle.kf_column.specs.declared.entry.Entry.{Entry}
use Rattle.kf_column.specs.Hypers.{Inner, IsHyper}
use Rattle.kf_column.specs.Averages.{joint_column}

-- two lists have the same classes of proportional columns, each with the same total
abbrev pub SameBeliefs : List (List Entry) → List (List Entry) → Type 0
SameBeliefs columns others = (inners : List Inner) → IsHyper columns inners ↔ IsHyper others inners

-- one column for each class, the sum of the class, ascending by the lists without common factor
pub record AreMerged (columns merged : List (List Entry)) : Type 0 where
  pub inners : List Inner
  pub is_hyper : IsHyper columns inners
  pub sums : merged ≡ map joint_column inners
