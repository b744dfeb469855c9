-- For bodies: which variables expressions and distributions read, and the number of a store's values at some variables.
use Rattle.std.specs.Prelude.{ℕ, ◌+◌, ◌*◌, ◌==◌, ◌||◌, Bool, false, List, [], ◌∷◌, slice_index}
use Rattle.std.specs.List.{list_any}
use Rattle.kf_core.specs.Exs.{ExTree, ExTrees, Const, Slot, Apply, Tuple, SetOf, Part, no_exs, more_exs}
use Rattle.kf_core.specs.Dxs.{DxCaseTree, case_of, DxShape, Sure, UniformSet, UniformRange, Choose, Flip, DxTree, dx_at}

-- the expression names the variable
abbrev mutual
  pub reads : ℕ → ExTree → Bool
  reads i (Const v) = false
  reads i (Slot j) = j == i
  reads i (Apply row xs) = some_reads i xs
  reads i (Tuple xs) = some_reads i xs
  reads i (SetOf xs) = some_reads i xs
  reads i (Part x k) = reads i x

  pub some_reads : ℕ → ExTrees → Bool
  some_reads i no_exs = false
  some_reads i (more_exs x xs) = reads i x || some_reads i xs

abbrev pub case_reads : ℕ → DxCaseTree → Bool
case_reads i (case_of x y) = reads i x || reads i y

-- one of the distribution's expressions names the variable
abbrev pub dist_reads : ℕ → DxShape → Bool
dist_reads i (Sure x) = reads i x
dist_reads i (UniformSet x) = reads i x
dist_reads i (UniformRange x y) = reads i x || reads i y
dist_reads i (Choose cs) = list_any (case_reads i) cs
dist_reads i (Flip num den) = false

abbrev pub placed_reads : ℕ → DxTree → Bool
placed_reads i (dx_at at d) = dist_reads i d

-- how many values the variables at the slots have together
abbrev pub span : List ℕ → List ℕ → ℕ
span sizes [] = 1
span sizes (i ∷ slots) = slice_index sizes i * span sizes slots

-- a number, and behind it the digits at the slots
abbrev pub number_behind : List ℕ → List ℕ → ℕ → List ℕ → ℕ
number_behind sizes ds n [] = n
number_behind sizes ds n (i ∷ slots) = number_behind sizes ds (n * slice_index sizes i + slice_index ds i) slots
