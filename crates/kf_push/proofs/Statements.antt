-- What holds of columns pushed through statements: guards and their sides, loops turn by turn, whole blocks.
use Rattle.std.proofs.Common.{◌≡◌, ℕ, suc, zero, true, false, List, [], ◌++◌, All, subst, append-nil}
use Rattle.kf_value.specs.Types.{TypeTree}
use Rattle.kf_column.specs.Columns.{IsColumn}
use Rattle.kf_column.specs.Joint.{mass}
use Rattle.kf_column.specs.Merged.{AreMerged}
use Rattle.kf_core.specs.Ready.{IsPushed, IsReady}
use Rattle.kf_core.specs.Sts.{StTree, StTrees, sts}
use Rattle.kf_core.specs.Runs.{Tried, chain, stay, guarded, looped, runs, all_runs}
use Rattle.kf_core.specs.SupportLaws.{BlockAgrees}
use Rattle.kf_core.proofs.Measures.{Full}
use Rattle.kf_core.proofs.Filled.{Filled, Solid, AllSolid, chain_full, looped_full}
use Rattle.kf_core.proofs.WeightKept.{keeps, all_keep}
use Rattle.kf_push.specs.Following.{Goes, observed, side}
use Rattle.kf_push.specs.Merging.{SplitsOnce}
use Rattle.kf_column.proofs.Beliefs.{some_merged, one_merged, merged_none}
use Rattle.kf_push.proofs.Joining.{both_columns, merged_across, merged_turned}
use Rattle.kf_push.proofs.Carrying.{Runner, Matrix, goes_behind, pushed_chain, pushed_alike, pushed_again, pushed_columns, pushed_stay, none_behind}
use Rattle.kf_push.proofs.Going.{first_goes, guard_goes, behind_goes, branch_pushed}
use Rattle.kf_push.proofs.Readying.{ready_takes, takes_ready, mass_kept}
use Rattle.kf_push.proofs.Sides.{sides_joined, last_alike}
use Rattle.kf_push.proofs.Splitting.{splits_once, statement_splits, block_splits}

-- ---- traces

pub runs_split : (ts : List TypeTree) (turns : ℕ) (x : StTree) → SplitsOnce (runs ts turns x)
runs_split ts turns x = splits_once (runs ts turns x) (statement_splits ts turns x)

pub blocks_split : (ts : List TypeTree) (turns : ℕ) (xs : StTrees) → SplitsOnce (all_runs ts turns xs)
blocks_split ts turns xs = splits_once (all_runs ts turns xs) (block_splits ts turns xs)

-- ---- what can go through both can go through the first

pub goes_first : (from next : Runner) (columns : Matrix) → ((n : ℕ) → Full (next n)) → Goes (λ n. chain (from n) next) columns → Goes from columns
goes_first from next columns full goes = first_goes from next columns full goes

-- ---- guards

module _ (guard : ℕ → Tried) (filled : (n : ℕ) → Filled (guard n)) (taken left : Runner)
    (full_taken : (n : ℕ) → Full (taken n)) (full_left : (n : ℕ) → Full (left n)) where
  pub goes_guard : (columns : Matrix) → Goes (guarded guard taken left) columns → Goes (observed guard) columns
  goes_guard columns goes = guard_goes guard taken left columns filled full_taken full_left goes

  pub goes_taken : (columns after : Matrix) → All IsColumn columns → Goes (guarded guard taken left) columns
      → IsPushed (side true guard) columns after → Goes taken after
  goes_taken columns after are goes p = behind_goes guard taken left columns filled full_taken full_left goes are true after p

  pub goes_left : (columns after : Matrix) → All IsColumn columns → Goes (guarded guard taken left) columns
      → IsPushed (side false guard) columns after → Goes left after
  goes_left columns after are goes p = behind_goes guard taken left columns filled full_taken full_left goes are false after p

  -- each side is pushed through its branch, and both are joined again
  pub pushed_guarded : (columns taking leaving one other after : Matrix) → All IsColumn columns → Goes (guarded guard taken left) columns
      → IsPushed (side true guard) columns taking → IsPushed (side false guard) columns leaving → IsPushed taken taking one → IsPushed left leaving other
      → AreMerged (one ++ other) after → IsPushed (guarded guard taken left) columns after
  pushed_guarded columns taking leaving one other after are goes s t p q m =
      sides_joined guard taken left columns one other after are
      (branch_pushed guard taken left columns filled full_taken full_left goes are true taking s one p)
      (branch_pushed guard taken left columns filled full_taken full_left goes are false leaving t other q) m

-- ---- loops

module _ (guard : ℕ → Tried) (filled : (n : ℕ) → Filled (guard n)) (at : ℕ) (body : Runner) (full : (n : ℕ) → Full (body n)) (splits : SplitsOnce body) where
  -- the body, and the loop anew
  abbrev again : ℕ → Runner
  again turns n = chain (body n) (looped turns guard at body)

  again_full : (turns n : ℕ) → Full (again turns n)
  again_full turns n = chain_full (looped turns guard at body) (looped_full guard filled turns at body full) (body n) (full n)

  again_goes : (turns : ℕ) (asking taken : Matrix) → All IsColumn asking → Goes (looped (suc turns) guard at body) asking
      → IsPushed (side true guard) asking taken → Goes (again turns) taken
  again_goes turns asking taken are goes s = goes_taken guard filled (again turns) stay (again_full turns) (λ n. tt) asking taken are goes s

  -- columns that ask the guard, with so many turns to come, and columns that have left: what all come to is this
  pub record ComesTo (turns : ℕ) (asking left after : Matrix) : Type 0 where
    pub ended : Matrix
    pub is_pushed : IsPushed (looped turns guard at body) asking ended
    pub are_merged : AreMerged (ended ++ left) after

  -- a turn: some leave, the others go through the body and ask again
  pub turned : (turns : ℕ) (asking left taken gone next more after : Matrix) → All IsColumn asking → All IsColumn left
      → Goes (looped (suc turns) guard at body) asking → IsPushed (side true guard) asking taken → IsPushed (side false guard) asking gone
      → IsPushed body taken next → AreMerged (left ++ gone) more
      → ComesTo turns next more after → ComesTo (suc turns) asking left after
  turned turns asking left taken gone next more after are were goes s t p m c =
      let both = again_goes turns asking taken are goes s in
      let of_gone = pushed_columns (side false guard) asking gone t in
      let of_taken = pushed_columns (side true guard) asking taken s in
      let of_ended = pushed_columns (looped turns guard at body) next c.ended c.is_pushed in
      let onward : IsPushed (again turns) taken c.ended =
      pushed_chain body (looped turns guard at body) taken next c.ended splits of_taken
      (first_goes body (looped turns guard at body) taken (looped_full guard filled turns at body full) both) both p c.is_pushed in
      let ended = some_merged (c.ended ++ gone) (both_columns c.ended gone of_ended of_gone) in
      record {
        ended = ended.0;
        is_pushed = pushed_guarded guard filled (again turns) stay (again_full turns) (λ n. tt) asking taken gone c.ended gone ended.0 are goes s t onward
            (pushed_stay gone gone of_gone (pushed_again (side false guard) asking gone t)) ended.1;
        are_merged = merged_across c.ended left gone ended.0 more after of_ended were of_gone ended.1 m c.are_merged;
      }

  -- behind the last turn the guard is false
  pub turned_last : (asking left gone after : Matrix) → All IsColumn asking → All IsColumn left → Goes (looped zero guard at body) asking
      → IsPushed (side false guard) asking gone → AreMerged (left ++ gone) after → ComesTo zero asking left after
  turned_last asking left gone after are were goes t m =
      let of_gone = pushed_columns (side false guard) asking gone t in
      record {
        ended = gone;
        is_pushed = pushed_alike (side false guard) (looped zero guard at body) asking gone (last_alike guard at) t;
        are_merged = merged_turned left gone after were of_gone m;
      }

  -- where no column asks, all have left
  pub turned_none : (turns : ℕ) (left after : Matrix) → All IsColumn left → AreMerged left after → ComesTo turns [] left after
  turned_none turns left after were m = record {
    ended = [];
    is_pushed = record { behind = []; are_behind = none_behind (looped turns guard at body); are_merged = merged_none };
    are_merged = m;
  }

  -- where none has left before, this is the whole loop
  pub all_turned : (turns : ℕ) (asking after : Matrix) → ComesTo turns asking [] after → IsPushed (looped turns guard at body) asking after
  all_turned turns asking after c =
      let from = looped turns guard at body in
      let whole : AreMerged c.ended after = subst (λ (cs : Matrix). AreMerged cs after) (append-nil c.ended) c.are_merged in
      subst (λ (cs : Matrix). IsPushed from asking cs) (one_merged c.ended c.ended after (pushed_again from asking c.ended c.is_pushed) whole) c.is_pushed

  pub goes_next : (turns : ℕ) (asking taken next : Matrix) → All IsColumn asking → Goes (looped (suc turns) guard at body) asking
      → IsPushed (side true guard) asking taken → IsPushed body taken next → Goes (looped turns guard at body) next
  goes_next turns asking taken next are goes s p =
      let both = again_goes turns asking taken are goes s in
      goes_behind body (looped turns guard at body) taken next (pushed_columns (side true guard) asking taken s)
      (first_goes body (looped turns guard at body) taken (looped_full guard filled turns at body full) both) both p

  pub goes_body : (turns : ℕ) (asking taken : Matrix) → All IsColumn asking → Goes (looped (suc turns) guard at body) asking
      → IsPushed (side true guard) asking taken → Goes body taken
  goes_body turns asking taken are goes s =
      first_goes body (looped turns guard at body) taken (looped_full guard filled turns at body full) (again_goes turns asking taken are goes s)

-- ---- whole blocks

pub ready_goes : BlockAgrees → (ts : List TypeTree) (turns : ℕ) (xs : List StTree) (columns : Matrix) → All IsColumn columns
    → IsReady ts turns xs columns → Goes (all_runs ts turns (sts xs)) columns
ready_goes agrees ts turns xs columns are ready = ready_takes agrees ts turns xs columns are ready

pub goes_ready : BlockAgrees → (ts : List TypeTree) (turns : ℕ) (xs : List StTree) (columns : Matrix)
    → Goes (all_runs ts turns (sts xs)) columns → IsReady ts turns xs columns
goes_ready agrees ts turns xs columns goes = takes_ready agrees ts turns xs columns goes

-- no weight is lost in a statement, nor in a block
pub statement_mass : (ts : List TypeTree) (turns : ℕ) (x : StTree) (columns after : Matrix) → Solid ts x → All IsColumn columns
    → Goes (runs ts turns x) columns → IsPushed (runs ts turns x) columns after → mass after ≡ mass columns
statement_mass ts turns x columns after solid are goes p = mass_kept (runs ts turns x) (keeps ts turns x solid) columns after goes p

pub block_mass : (ts : List TypeTree) (turns : ℕ) (xs : StTrees) (columns after : Matrix) → AllSolid ts xs → All IsColumn columns
    → Goes (all_runs ts turns xs) columns → IsPushed (all_runs ts turns xs) columns after → mass after ≡ mass columns
block_mass ts turns xs columns after solid are goes p = mass_kept (all_runs ts turns xs) (all_keep ts turns xs solid) columns after goes p
