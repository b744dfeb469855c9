-- For bodies: columns before one of a program's outermost statements.
use Rattle.std.specs.Prelude.{◌≡◌, ℕ, List, [], ◌∷◌, All, drop}
use Rattle.kf_column.specs.declared.entry.Entry.{Entry}
use Rattle.kf_column.specs.Joint.{Joint, mass}
use Rattle.kf_column.specs.Shapes.{IsBelow}
use Rattle.kf_core.specs.Ready.{IsPushed, IsReady, IsStart}
use Rattle.kf_push.specs.Meanings.{Meaning, runs_between, store_count}

-- they are what the start becomes in the statements before it
pub record StandsBefore (m : Meaning) (at : ℕ) (now : Joint) : Type 0 where
  pub column : List Entry
  pub start : IsStart m.turns m.program column
  pub pushed : IsPushed (runs_between m 0 at) (column ∷ []) now.columns
  pub scale : now.scale ≡ m.scale
  pub below : All (IsBelow (store_count m)) now.columns
  pub whole : mass now.columns ≡ m.scale
  pub ready : IsReady m.program.types m.turns (drop at m.program.body) now.columns
