-- For bodies: joint matrices: columns of whole weights over one scale.
use Rattle.std.specs.Prelude.{ℕ, ◌≤◌, ◌<◌, List, sum_by}
use Rattle.kf_frac.specs.Fractions.{limit}
use Rattle.kf_column.specs.declared.entry.Entry.{Entry}
use Rattle.kf_column.specs.Columns.{total}

-- the scale by which every weight is divided, and the columns
pub record Joint : Type 0 where
  pub scale : ℕ
  pub columns : List (List Entry)

-- the sum of all weights of all columns
abbrev pub mass : List (List Entry) → ℕ
mass columns = sum_by total columns

-- the scale is a number of 127 bits, and the probabilities sum to at most 1
pub record IsJoint (joint : Joint) : Type 0 where
  pub some : 0 < joint.scale
  pub narrow : joint.scale ≤ limit
  pub fits : mass joint.columns ≤ joint.scale
