-- For bodies: what can be written of a verdict.
use Rattle.std.specs.Prelude.{◌≡◌, ◌<◌, All, List, true}
use Rattle.serde_json.specs.Data.{string}
use Rattle.kf_value.specs.Numbers.{target_size}
use Rattle.kf_value.specs.Targets.{Item}
use Rattle.kf_gain.specs.declared.table.Action.{Action}
use Rattle.kf_json.specs.Rules.{is_name}
use Rattle.kf_refine.specs.Verdicts.{VerdictTree, Yes, No}

-- its name is one, and the values that it names are the target's
pub record IsWritableAction (target : List Item) (a : Action) : Type 0 where
  pub name : is_name (string a.name) ≡ true
  pub values : All (λ e. e.value < target_size target) a.gains

-- what a table of a target needs for its text
abbrev pub IsWritable : List Item → VerdictTree → Type 0
IsWritable target (Yes rows) = Unit {0}
IsWritable target (No t) = All (IsWritableAction target) t.actions
