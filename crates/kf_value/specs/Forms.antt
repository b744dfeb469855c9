-- For bodies: which values are well formed, and of which kind.
use Rattle.std.specs.Prelude.{◌≤◌, length}
use Rattle.std.specs.List.Sorted.{IsStrictlySortedBy}
use Rattle.kf_value.specs.Values.{ValueTree, ValueTrees, Truth, Whole, Tuple, Set, no_value, more_values, parts_list, order}
use Rattle.kf_value.specs.Kinds.{KindTree, KindTrees, TruthKind, WholeKind, TupleKind, SetKind, no_kind, more_kinds}

-- at each nesting, a tuple has at least two parts and a set's elements ascend
abbrev mutual
  pub IsWellFormed : ValueTree → Type 0
  IsWellFormed (Truth b) = Unit {0}
  IsWellFormed (Whole i) = Unit {0}
  IsWellFormed (Tuple vs) = (2 ≤ length (parts_list vs)) × EachWellFormed vs
  IsWellFormed (Set vs) = IsStrictlySortedBy order (parts_list vs) × EachWellFormed vs

  pub EachWellFormed : ValueTrees → Type 0
  EachWellFormed no_value = Unit {0}
  EachWellFormed (more_values v vs) = IsWellFormed v × EachWellFormed vs

-- the value is of this kind: a tuple part by part, a set with each element, so that the empty set has the kind of every set
abbrev mutual
  pub HasKind : ValueTree → KindTree → Type 0
  HasKind (Truth b) TruthKind = Unit {0}
  HasKind (Whole i) WholeKind = Unit {0}
  HasKind (Tuple vs) (TupleKind ks) = HaveKinds vs ks
  HasKind (Set vs) (SetKind k) = AllHaveKind vs k
  HasKind _ _ = ⊥

  pub HaveKinds : ValueTrees → KindTrees → Type 0
  HaveKinds no_value no_kind = Unit {0}
  HaveKinds (more_values v vs) (more_kinds k ks) = HasKind v k × HaveKinds vs ks
  HaveKinds _ _ = ⊥

  pub AllHaveKind : ValueTrees → KindTree → Type 0
  AllHaveKind no_value k = Unit {0}
  AllHaveKind (more_values v vs) k = HasKind v k × AllHaveKind vs k
