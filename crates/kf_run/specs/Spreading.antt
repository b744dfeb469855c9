-- For bodies: what stands behind columns, before those of one posterior are added up.
use Rattle.std.specs.Prelude.{◌≡◌, ◌≤◌, ℕ, false, List, [], ◌∷◌, take, drop}
use Rattle.std.specs.List.{AllByRecursion as Each}
use Rattle.kf_value.specs.Values.{ValueTree, order}
use Rattle.kf_value.specs.Views.{value_tree}
use Rattle.std.specs.declared.cmp.Ordering.{Ordering}
use Rattle.std.specs.Ordering.{is_lt}
use Rattle.std.specs.declared.cmp.Ordering.TheVariants.{Less}
use Rattle.kf_column.specs.declared.entry.Entry.{Entry}
use Rattle.kf_column.specs.Joint.{mass}
use Rattle.kf_column.specs.Shapes.{IsBelow}
use Rattle.kf_core.specs.Pushing.{AreBehind}
use Rattle.kf_core.specs.Runs.{Run}
use Rattle.kf_run.specs.declared.ways.Leak.{Leak}

-- the columns behind these columns
pub record AreSpread (from : ℕ → List Run) (size : ℕ) (columns done : List (List Entry)) : Type 0 where
  pub behind : AreBehind from columns done
  pub fits : mass done ≤ mass columns
  pub below : Each (IsBelow size) done

-- by what is leaked
abbrev pub leak_order : Leak → Leak → Ordering
leak_order a b = order (value_tree a.value) (value_tree b.value)

-- no leak is of an earlier value than one before it
abbrev pub Rise : List Leak → Type 0
Rise [] = Unit {0}
Rise (l ∷ ls) = Each (λ m. is_lt (leak_order m l) ≡ false) ls × Rise ls

-- the first so many leak one value, and the others later ones
pub record IsFront (leaks : List Leak) (count : ℕ) : Type 0 where
  pub value : ValueTree
  pub same : Each (λ l. value_tree l.value ≡ value) (take count leaks)
  pub later : Each (λ l. order value (value_tree l.value) ≡ Less) (drop count leaks)
