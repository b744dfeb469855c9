-- For bodies: what a distribution chose, kept for all stores that agree in the variables that it reads.
use Rattle.std.specs.Prelude.{◌≡◌, ℕ, suc, ◌<◌, ◌≤◌, true, List, All, Contains, length, slice_get, Some, Ok}
use Rattle.kf_value.specs.Kinds.{KindTree}
use Rattle.kf_value.specs.Forms.{HasKind, IsWellFormed}
use Rattle.kf_value.specs.declared.shape.Shape.{Shape}
use Rattle.kf_value.specs.Numbers.{digits}
use Rattle.kf_value.specs.Shapes.{shape_size, shape_sizes, shape_types}
use Rattle.kf_core.specs.Checked.{DistKinded}
use Rattle.kf_core.specs.Choices.{total}
use Rattle.kf_core.specs.Dxs.{DxTree}
use Rattle.kf_core.specs.Runs.{tried}
use Rattle.kf_eval.specs.Choices.{weighted_trees}
use Rattle.kf_eval.specs.Kinds.{shape_kinds}
use Rattle.kf_eval.specs.Reads.{number_behind, placed_reads, span}
use Rattle.kf_eval.specs.declared.choice.Choice.{Choice}
use Rattle.kf_eval.specs.declared.memo.Memo.{Memo}

-- a store of the shape, and what the distribution chooses in it
pub record IsChosen (shape : Shape) (d : DxTree) (e : ℕ × Choice) : Type 0 where
  pub below : e.0 < shape_size shape
  pub chosen : tried (shape_types shape) d e.0 ≡ Ok (weighted_trees e.1)
  pub total_is : e.1.total ≡ total (weighted_trees e.1)
  pub some : 1 ≤ e.1.total
  pub weigh : All (λ w. 0 < w.weight) (weighted_trees e.1)
  pub formed : All (λ w. IsWellFormed w.value) (weighted_trees e.1)
  pub kinded : (k : KindTree) → DistKinded (shape_kinds shape) d k → All (λ w. HasKind w.value k) (weighted_trees e.1)

-- the choices that are kept
abbrev pub kept : Memo → List Choice
kept m = m.choices.items

-- at this place stands what the distribution chooses in the store
pub record IsKeptAt (shape : Shape) (d : DxTree) (store : ℕ) (m : Memo) (place : ℕ) : Type 0 where
  pub choice : Choice
  pub there : slice_get (kept m) place ≡ Some choice
  pub chosen : IsChosen shape d (store, choice)

-- the number of a store's values at the slots
abbrev pub number_in : Shape → List ℕ → ℕ → ℕ
number_in shape slots n = number_behind (shape_sizes shape) (digits (shape_sizes shape) n) 0 slots

-- what is kept is what this distribution chooses
pub record IsMemoOf (shape : Shape) (d : DxTree) (m : Memo) : Type 0 where
  -- the variables that it reads stand among the slots
  pub within : All (λ i. i < length (shape_types shape)) m.slots.items
  pub reads : (i : ℕ) → i < length (shape_types shape) → placed_reads i d ≡ true → Contains m.slots.items i
  -- there is a place for each number of their values, or none at all
  pub room : 0 < length m.places.items → length m.places.items ≡ span (shape_sizes shape) m.slots.items
  -- a place that is known holds what is chosen in each store with this number
  pub known : (n k : ℕ) → n < shape_size shape → slice_get m.places.items (number_in shape m.slots.items n) ≡ Some (suc k)
      → (c : Choice) × (slice_get (kept m) k ≡ Some c) × IsChosen shape d (n, c)
