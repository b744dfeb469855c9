-- Believed: kinds as plain trees, and the kinds of types.
use Rattle.std.specs.Prelude.{List}
use Rattle.kf_value.specs.Types.{TypeTree, TypeTrees, Boolean, Range, TupleOf, SetOf, no_type, more_types}
use mathlib.Core.List.{foldr}

mutual
  pub data KindTree : Type 0 where
    TruthKind : KindTree
    WholeKind : KindTree
    TupleKind : KindTrees → KindTree
    SetKind : KindTree → KindTree

  pub data KindTrees : Type 0 where
    no_kind : KindTrees
    more_kinds : KindTree → KindTrees → KindTrees

-- a list of kinds as the parts of a tree
abbrev pub kind_parts : List KindTree → KindTrees
kind_parts ks = foldr more_kinds no_kind ks

-- the kind of a type's values
abbrev mutual
  pub kind_of : TypeTree → KindTree
  kind_of Boolean = TruthKind
  kind_of (Range lo hi) = WholeKind
  kind_of (TupleOf ts) = TupleKind (kinds_of ts)
  kind_of (SetOf t) = SetKind (kind_of t)

  pub kinds_of : TypeTrees → KindTrees
  kinds_of no_type = no_kind
  kinds_of (more_types t ts) = more_kinds (kind_of t) (kinds_of ts)
