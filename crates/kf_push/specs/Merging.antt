-- For bodies: merging commutes with running, and what it rests on.
use Rattle.std.specs.Prelude.{◌≡◌, ℕ, List, [], ◌++◌, All, Contains, IsOk}
use Rattle.kf_value.specs.Values.{ValueTree}
use Rattle.kf_value.specs.Types.{TypeTree}
use Rattle.kf_column.specs.declared.entry.Entry.{Entry}
use Rattle.kf_column.specs.Columns.{IsColumn}
use Rattle.kf_column.specs.Merged.{SameBeliefs, AreMerged}
use Rattle.kf_core.specs.Sts.{StTree, sts}
use Rattle.kf_core.specs.Runs.{Run, all_runs}
use Rattle.kf_core.specs.Pushing.{AreBehind}
use Rattle.kf_core.specs.Ready.{IsReady}

-- no trace from one store is a proper front of a trace from another
abbrev pub SplitsOnce : (ℕ → List Run) → Type 0
SplitsOnce from = (n m : ℕ) (r q : Run) (u : List ValueTree) → Contains (from n) r → Contains (from m) q
    → IsOk r.end → IsOk q.end → q.trace ≡ r.trace ++ u → u ≡ []

-- so it is with the traces of a block, since each guard's value stands in them
abbrev pub NoTraceGoesOn : Type 0
NoTraceGoesOn = (ts : List TypeTree) (turns : ℕ) (xs : List StTree) → SplitsOnce (all_runs ts turns (sts xs))

-- there are columns behind every list of columns
abbrev pub SomeAreBehind : Type 0
SomeAreBehind = (from : ℕ → List Run) (columns : List (List Entry)) → (behind : List (List Entry)) × AreBehind from columns behind

-- and no others
abbrev pub OnlyOneBehind : Type 0
OnlyOneBehind = (from : ℕ → List Run) (columns behind others : List (List Entry))
    → AreBehind from columns behind → AreBehind from columns others → behind ≡ others

-- to push through one block and then another is to push through both as one
abbrev pub BlocksChain : Type 0
BlocksChain = (ts : List TypeTree) (turns : ℕ) (xs ys : List StTree) (columns between behind : List (List Entry))
    → All IsColumn columns → IsReady ts turns (xs ++ ys) columns
    → AreBehind (all_runs ts turns (sts xs)) columns between → AreBehind (all_runs ts turns (sts ys)) between behind
    → AreBehind (all_runs ts turns (sts (xs ++ ys))) columns behind

-- columns that are merged before a block come to the same beliefs behind it, whatever branches and loops it has
abbrev pub MergingCommutes : Type 0
MergingCommutes = (ts : List TypeTree) (turns : ℕ) (xs : List StTree) (columns merged behind others : List (List Entry))
    → All IsColumn columns → IsReady ts turns xs columns → AreMerged columns merged
    → AreBehind (all_runs ts turns (sts xs)) columns behind → AreBehind (all_runs ts turns (sts xs)) merged others
    → SameBeliefs behind others
