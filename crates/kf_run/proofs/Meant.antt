-- What a cleared program says of its meaning, and that no weight is lost on the way of its columns.
use Rattle.std.proofs.Common.{◌≡◌, ℕ, ◌-◌, List, [], ◌∷◌, All, drop, take, sym, ◌∙◌}
use Rattle.kf_column.specs.declared.entry.Entry.{Entry}
use Rattle.kf_column.specs.Columns.{IsColumn}
use Rattle.kf_column.specs.Joint.{mass}
use Rattle.kf_core.specs.Checked.{IsChecked}
use Rattle.kf_core.specs.ChoiceLaws.{ChoicesAreShares}
use Rattle.kf_core.specs.Programs.{ProgramTree}
use Rattle.kf_core.specs.Ready.{IsPushed, IsReady, IsStart}
use Rattle.kf_core.specs.Runs.{all_runs}
use Rattle.kf_core.specs.Sts.{sts}
use Rattle.kf_core.specs.SupportLaws.{BlockAgrees, CommonScaleIsLeast, ProgramAgrees, RunsChain, ScalesArePositive}
use Rattle.kf_core.specs.Views.{program_tree}
use Rattle.kf_core.proofs.Solid.{all_solid}
use Rattle.kf_core.proofs.Unsquashed.{checked_again}
use Rattle.kf_support.specs.declared.cleared.Cleared.{Cleared}
use Rattle.kf_support.specs.Cleared.{program_of, turns_of, whole_scale}
use Rattle.kf_push.specs.Meanings.{IsMeaning}
use Rattle.kf_push.proofs.Carrying.{Matrix}
use Rattle.kf_push.proofs.Programs.{start_mass}
use Rattle.kf_push.proofs.Weighing.{later_solid, part_mass}

module _ (c : Cleared) where
  abbrev p : ProgramTree
  p = program_tree (program_of c)

  checked : IsChecked p
  checked = checked_again p c.checked

  pub is_meaning : IsMeaning (record { program = program_tree (program_of c); turns = turns_of c; scale = whole_scale c })
  is_meaning = record { checked = checked; clear = c.clear; scale_is = c.scale_is; narrow = c.fits }

  pub start_weighs : ChoicesAreShares → ProgramAgrees → RunsChain → ScalesArePositive → CommonScaleIsLeast → (column : List Entry)
      → IsStart (turns_of c) (program_tree (program_of c)) column → mass (column ∷ []) ≡ whole_scale c
  start_weighs shares agrees chains scales least column start =
      start_mass (turns_of c) p checked c.clear shares agrees chains scales least column start ∙ sym c.scale_is

  pub push_keeps : BlockAgrees → RunsChain → (from to : ℕ) (columns after : Matrix) → All IsColumn columns
      → IsReady (program_tree (program_of c)).types (turns_of c) (drop from (program_tree (program_of c)).body) columns
      → IsPushed (all_runs (program_tree (program_of c)).types (turns_of c) (sts (take (to - from) (drop from (program_tree (program_of c)).body)))) columns after
      → mass after ≡ mass columns
  push_keeps block chains from to columns after are ready pushed =
      part_mass p.types block chains (turns_of c) (to - from) (drop from p.body)
      (later_solid p.types from p.body (all_solid p.types _ checked.sound)) columns after are ready pushed
