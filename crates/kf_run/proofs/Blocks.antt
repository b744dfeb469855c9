-- Columns pushed through statements, one after the other.
use Rattle.std.proofs.Common.{ℕ, List, [], ◌∷◌}
use Rattle.kf_value.specs.Shapes.{shape_size, shape_types}
use Rattle.kf_value.specs.declared.shape.Shape.{Shape}
use Rattle.kf_column.specs.Joint.{Joint}
use Rattle.kf_core.specs.Checked.{AreSound, IsSound, none}
use Rattle.kf_core.specs.Runs.{all_runs, runs}
use Rattle.kf_core.specs.Sts.{StTree, sts}
use Rattle.kf_core.proofs.Filled.{all_full, runs_full}
use Rattle.kf_core.proofs.Measures.{Full}
use Rattle.kf_core.proofs.Solid.{all_solid, solid}
use Rattle.kf_core.proofs.SoundParts.{sound_first}
use Rattle.kf_core.proofs.WeightKept.{all_keep, keeps}
use Rattle.kf_eval.specs.Kinds.{shape_kinds}
use Rattle.kf_run.specs.Going.{CanGo, HasGone}
use Rattle.kf_push.proofs.Carrying.{Runner, pushed_again}
use Rattle.kf_push.proofs.Statements.{blocks_split, runs_split}
use Rattle.kf_run.proofs.Onward.{Carries, RunsOn, on_can, on_end, on_start, on_step}

module _ (shape : Shape) (turns : ℕ) where
  abbrev size : ℕ
  size = shape_size shape

  -- the runs of statements, one after the other
  abbrev pub block : List StTree → Runner
  block xs = all_runs (shape_types shape) turns (sts xs)

  abbrev one : StTree → Runner
  one x = runs (shape_types shape) turns x

  pub statement_carries : (x : StTree) → IsSound (shape_kinds shape) x → Carries (runs (shape_types shape) turns x)
  statement_carries x sound =
      let is_solid = solid (shape_types shape) (shape_kinds shape) sound in
      record {
        full = runs_full (shape_types shape) turns x is_solid;
        keeps = keeps (shape_types shape) turns x is_solid;
        splits = runs_split (shape_types shape) turns x;
      }

  pub block_carries : (xs : List StTree) → AreSound (shape_kinds shape) xs → Carries (block xs)
  block_carries xs sound =
      let are_solid = all_solid (shape_types shape) (shape_kinds shape) sound in
      record {
        full = all_full (shape_types shape) turns (sts xs) are_solid;
        keeps = all_keep (shape_types shape) turns (sts xs) are_solid;
        splits = blocks_split (shape_types shape) turns (sts xs);
      }

  -- there are runs from each store
  pub block_full : (xs : List StTree) → AreSound (shape_kinds shape) xs → (n : ℕ) → Full (block xs n)
  block_full xs sound = (block_carries xs sound).full

  -- a block of one statement makes of columns what the statement makes of them
  module _ (x : StTree) (now : Joint) (sound : AreSound (shape_kinds shape) (x ∷ [])) (can : CanGo (block (x ∷ [])) (shape_size shape) now) where
    begun : RunsOn size (block (x ∷ [])) now (block (x ∷ [])) now
    begun = on_start size (block (x ∷ [])) now can

    pub single_can : CanGo (runs (shape_types shape) turns x) (shape_size shape) now
    single_can = on_can size (block (x ∷ [])) now (one x) (block []) now (block_full [] none) begun

    pub single_gone : (after : Joint) → HasGone (runs (shape_types shape) turns x) (shape_size shape) now after
        → HasGone (block (x ∷ [])) (shape_size shape) now after
    single_gone after gone =
        on_end size (block (x ∷ [])) now after
        (on_step size (block (x ∷ [])) now (one x) (block []) now (block_full [] none) begun
        (statement_carries x (sound_first (shape_kinds shape) sound).0) after gone)
        (pushed_again (one x) now.columns after.columns gone.pushed)
