-- Columns pushed through runs, one after the other, and through the two branches of a guard.
use Rattle.std.proofs.Common.{◌≡◌, ℕ, ◌+◌, ◌≤◌, true, false, ◌++◌, All, refl, ◌∙◌, arith}
use Rattle.std.proofs.lemmas.List.Elements.{All-append}
use Rattle.std.proofs.lemmas.List.Sums.{sum_by-append}
use Rattle.kf_column.specs.Columns.{IsColumn, total}
use Rattle.kf_column.specs.Joint.{Joint, mass}
use Rattle.kf_column.specs.Merged.{AreMerged}
use Rattle.kf_column.specs.Shapes.{IsBelow}
use Rattle.kf_core.specs.Ready.{IsPushed}
use Rattle.kf_core.specs.Runs.{Tried, chain, guarded, stay}
use Rattle.kf_core.proofs.Filled.{Filled}
use Rattle.kf_core.proofs.Measures.{Full}
use Rattle.kf_core.proofs.WeightKept.{Keeps}
use Rattle.kf_push.specs.Following.{Goes, observed, side}
use Rattle.kf_push.specs.Merging.{SplitsOnce}
use Rattle.kf_run.specs.Going.{AreSides, CanGo, HasGone}
use Rattle.kf_column.proofs.Beliefs.{merged_below}
use Rattle.kf_push.proofs.Carrying.{Runner, Matrix, goes_behind, pushed_chain, pushed_columns, pushed_stay}
use Rattle.kf_push.proofs.Readying.{mass_kept}
use Rattle.kf_push.proofs.Statements.{goes_first, goes_guard, goes_left, goes_taken, pushed_guarded}

-- the weight of two lists of columns
pub mass_both : (xs ys : Matrix) → mass (xs ++ ys) ≡ mass xs + mass ys
mass_both xs ys = sum_by-append total xs ys

-- runs that carry all weight on: there are some from each store, and no trace of them goes on in another
pub record Carries (from : Runner) : Type 0 where
  pub full : (n : ℕ) → Full (from n)
  pub keeps : Keeps from
  pub splits : SplitsOnce from

-- no weight is lost
pub carried_mass : (from : Runner) (columns after : Matrix) → Carries from → Goes from columns → IsPushed from columns after → mass after ≡ mass columns
carried_mass from columns after carries goes pushed = mass_kept from carries.keeps columns after goes pushed

module _ (size : ℕ) where
  -- behind some runs: what the others come to from here, all come to from the start
  pub record RunsOn (whole : Runner) (before : Joint) (left : Runner) (now : Joint) : Type 0 where
    pub can : CanGo left size now
    pub scale : now.scale ≡ before.scale
    pub leads : (after : Matrix) → IsPushed left now.columns after → IsPushed whole before.columns after

  pub on_start : (whole : Runner) (before : Joint) → CanGo whole size before → RunsOn whole before whole before
  on_start whole before can = record { can = can; scale = refl; leads = λ after pushed. pushed }

  module _ (whole : Runner) (before : Joint) (first left : Runner) (now : Joint) (full : (n : ℕ) → Full (left n))
      (on : RunsOn whole before (λ n. chain (first n) left) now) where
    next_goes : Goes first now.columns
    next_goes = goes_first first left now.columns full on.can.goes

    -- columns can be pushed through the runs that come first
    pub on_can : CanGo first size now
    on_can = record { are = on.can.are; below = on.can.below; fits = on.can.fits; goes = next_goes }

    pub on_step : Carries first → (next : Joint) → HasGone first size now next → RunsOn whole before left next
    on_step carries next gone =
        let kept = carried_mass first now.columns next.columns carries next_goes gone.pushed in
        record {
          can = record {
            are = pushed_columns first now.columns next.columns gone.pushed;
            below = gone.below;
            fits = omega (arith, kept, gone.scale, on.can.fits);
            goes = goes_behind first left now.columns next.columns on.can.are next_goes on.can.goes gone.pushed;
          };
          scale = gone.scale ∙ on.scale;
          leads = λ after pushed.
              on.leads after (pushed_chain first left now.columns next.columns after carries.splits on.can.are next_goes on.can.goes gone.pushed pushed);
        }

  -- where nothing is left to do
  pub on_end : (whole : Runner) (before now : Joint) → RunsOn whole before stay now → AreMerged now.columns now.columns → HasGone whole size before now
  on_end whole before now on merged = record {
    pushed = on.leads now.columns (pushed_stay now.columns now.columns on.can.are merged);
    scale = on.scale;
    below = on.can.below;
  }

  -- ---- branches

  module _ (guard : ℕ → Tried) (filled : (n : ℕ) → Filled (guard n)) (yes no : Runner) (carries_yes : Carries yes) (carries_no : Carries no)
      (now : Joint) (can : CanGo (guarded guard yes no) size now) where
    -- the guard can be asked
    pub can_guard : Goes (observed guard) now.columns
    can_guard = goes_guard guard filled yes no carries_yes.full carries_no.full now.columns can.goes

    module _ (taken left : Joint) (sides : AreSides size guard now taken left) where
      pub can_take : CanGo yes size taken
      can_take = record {
        are = pushed_columns (side true guard) now.columns taken.columns sides.to_taken;
        below = sides.below_taken;
        fits = omega (arith, sides.whole, sides.scale_taken, can.fits);
        goes = goes_taken guard filled yes no carries_yes.full carries_no.full now.columns taken.columns can.are can.goes sides.to_taken;
      }

      pub can_leave : CanGo no size left
      can_leave = record {
        are = pushed_columns (side false guard) now.columns left.columns sides.to_left;
        below = sides.below_left;
        fits = omega (arith, sides.whole, sides.scale_left, can.fits);
        goes = goes_left guard filled yes no carries_yes.full carries_no.full now.columns left.columns can.are can.goes sides.to_left;
      }

      module _ (one other : Joint) (gone_one : HasGone yes size taken one) (gone_other : HasGone no size left other) where
        pub joined_fit : mass one.columns + mass other.columns ≤ one.scale
        joined_fit =
            let kept_one = carried_mass yes taken.columns one.columns carries_yes can_take.goes gone_one.pushed in
            let kept_other = carried_mass no left.columns other.columns carries_no can_leave.goes gone_other.pushed in
            omega (arith, kept_one, kept_other, sides.whole, can.fits, gone_one.scale, sides.scale_taken)

        pub branches_joined : (after : Joint) → AreMerged (one.columns ++ other.columns) after.columns → after.scale ≡ one.scale
            → HasGone (guarded guard yes no) size now after
        branches_joined after merged scale = record {
          pushed =
              pushed_guarded guard filled yes no carries_yes.full carries_no.full now.columns taken.columns left.columns one.columns other.columns after.columns
              can.are can.goes sides.to_taken sides.to_left gone_one.pushed gone_other.pushed merged;
          scale = scale ∙ (gone_one.scale ∙ sides.scale_taken);
          below =
              merged_below size (one.columns ++ other.columns) after.columns
              (All-append IsColumn one.columns other.columns (pushed_columns yes taken.columns one.columns gone_one.pushed)
              (pushed_columns no left.columns other.columns gone_other.pushed)) merged
              (All-append (IsBelow size) one.columns other.columns gone_one.below gone_other.below);
        }
