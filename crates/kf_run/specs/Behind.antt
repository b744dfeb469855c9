-- For bodies: columns behind so many of a program's outermost statements.
use Rattle.std.specs.Prelude.{◌≡◌, ℕ, List, [], ◌∷◌, All, take, drop}
use Rattle.kf_column.specs.declared.entry.Entry.{Entry}
use Rattle.kf_column.specs.Joint.{Joint, mass}
use Rattle.kf_column.specs.Shapes.{IsBelow}
use Rattle.kf_core.specs.Ready.{IsPushed, IsReady, IsStart}
use Rattle.kf_core.specs.Runs.{Run, all_runs}
use Rattle.kf_core.specs.Sts.{sts}
use Rattle.kf_push.specs.Meanings.{Meaning, store_count}

-- a meaning's runs of the first statements, so many
abbrev pub front : Meaning → ℕ → ℕ → List Run
front m at = all_runs m.program.types m.turns (sts (take at m.program.body))

-- columns behind so many statements
pub record Behind (m : Meaning) (at : ℕ) (column : List Entry) (now : Joint) : Type 0 where
  pub start : IsStart m.turns m.program column
  pub pushed : IsPushed (front m at) (column ∷ []) now.columns
  pub scale : now.scale ≡ m.scale
  pub below : All (IsBelow (store_count m)) now.columns
  pub whole : mass now.columns ≡ m.scale
  pub ready : IsReady m.program.types m.turns (drop at m.program.body) now.columns
