-- For bodies: columns before one of a program's outermost statements.
use Rattle.std.specs.Prelude.{ℕ, List}
use Rattle.kf_column.specs.declared.entry.Entry.{Entry}
use Rattle.kf_column.specs.Joint.{Joint}
use Rattle.kf_core.specs.declared.program.Program.{Program}
use Rattle.kf_core.specs.Views.{program_tree}
use Rattle.kf_support.specs.declared.cleared.Cleared.{Cleared}
use Rattle.kf_support.specs.Cleared.{program_of, turns_of, whole_scale}
use Rattle.kf_push.specs.Meanings.{Meaning}
use Rattle.kf_run.specs.Behind.{Behind}
use Rattle.kf_run.specs.declared.before.Before.{Before}

-- what a cleared program means
abbrev pub meaning_of : Cleared → Meaning
meaning_of c = record { program = program_tree (program_of c); turns = turns_of c; scale = whole_scale c }

-- what a program means over the scale of its columns
abbrev pub meant : Program → ℕ → Joint → Meaning
meant program turns columns = record { program = program_tree program; turns = turns; scale = columns.scale }

-- the cleared program
abbrev pub cleared_before : Before → Cleared
cleared_before b = b.cleared.now

-- how many of its outermost statements the columns have gone through
abbrev pub place_before : Before → ℕ
place_before b = b.at

-- the columns are what the start becomes in so many statements
pub record IsBefore (b : Before) : Type 0 where
  pub column : List Entry
  pub behind : Behind (meaning_of (cleared_before b)) (place_before b) column b.columns
