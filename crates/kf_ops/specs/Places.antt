-- Believed: where each operator stands in the table, and which kinds its patterns stand for.
use denote.Enum.Declared.{tag_of}
use Rattle.std.specs.Prelude.{◌≡◌, ℕ, Some, slice_get}
use Rattle.kf_value.specs.Kinds.{KindTree, TruthKind, WholeKind, SetKind}
use Rattle.kf_ops.specs.Rows.{Row, operators}
use Rattle.kf_ops.specs.contracts.row.Op.{the_type}
use Rattle.kf_ops.specs.declared.row.Op.{Op}
use Rattle.kf_ops.specs.declared.row.Pat.{Pat}
use Rattle.kf_ops.specs.declared.row.Pat.TheVariants as pat

-- the row stands at this place of the table
abbrev pub IsRow : ℕ → Row → Type 0
IsRow place row = slice_get operators place ≡ Some row

-- the number of an operator: how many of them are listed before it
abbrev pub number_of : Op → ℕ
number_of code = tag_of the_type code

-- what a pattern stands for, where `Any` stands for the kind
abbrev pub pattern_kind : KindTree → Pat → KindTree
pattern_kind k pat.Bool = TruthKind
pattern_kind k pat.Int = WholeKind
pattern_kind k pat.SetOfAny = SetKind k
pattern_kind k _ = k
