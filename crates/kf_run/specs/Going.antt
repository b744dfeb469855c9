-- For bodies: columns that can be pushed along runs, and what they come to.
use Rattle.std.specs.Prelude.{◌≡◌, ◌≤◌, ◌+◌, ℕ, true, false, List, All}
use Rattle.kf_column.specs.Columns.{IsColumn}
use Rattle.kf_column.specs.Joint.{Joint, mass}
use Rattle.kf_column.specs.Shapes.{IsBelow}
use Rattle.kf_core.specs.Ready.{IsPushed}
use Rattle.kf_core.specs.Runs.{Run, Tried}
use Rattle.kf_push.specs.Following.{Goes, side}

-- columns of so many stores, whose weights go whole along the runs
pub record CanGo (from : ℕ → List Run) (size : ℕ) (now : Joint) : Type 0 where
  pub are : All IsColumn now.columns
  pub below : All (IsBelow size) now.columns
  pub fits : mass now.columns ≤ now.scale
  pub goes : Goes from now.columns

-- columns pushed along the runs, over the same scale
pub record HasGone (from : ℕ → List Run) (size : ℕ) (now after : Joint) : Type 0 where
  pub pushed : IsPushed from now.columns after.columns
  pub scale : after.scale ≡ now.scale
  pub below : All (IsBelow size) after.columns

-- columns on each side of a guard
pub record AreSides (size : ℕ) (guard : ℕ → Tried) (now taken left : Joint) : Type 0 where
  pub to_taken : IsPushed (side true guard) now.columns taken.columns
  pub to_left : IsPushed (side false guard) now.columns left.columns
  pub scale_taken : taken.scale ≡ now.scale
  pub scale_left : left.scale ≡ now.scale
  pub below_taken : All (IsBelow size) taken.columns
  pub below_left : All (IsBelow size) left.columns
  pub whole : mass taken.columns + mass left.columns ≡ mass now.columns
