-- Columns of stores as columns of target values: each store gives all its weight to one value, and nothing is leaked.
use Rattle.std.proofs.Common.{◌≡◌, ℕ, ◌+◌, ◌*◌, ◌/◌, ◌<◌, ◌==◌, List, [], ◌∷◌, map, cond, All, refl, sym, ap, ◌∙◌}
use Rattle.std.specs.Prelude.{if◌then◌else◌}
use Rattle.std.specs.List.{AllZip}
use Rattle.std.proofs.Math.Nat.{div-one, one-mul}
use Rattle.std.proofs.lemmas.List.Elements.{All-head, All-tail}
use Rattle.kf_value.specs.Types.{count, product}
use Rattle.kf_column.specs.declared.entry.Entry.{Entry}
use Rattle.kf_column.specs.Columns.{IsColumn, weight_at}
use Rattle.kf_column.specs.Hypers.{Inner, IsHyper}
use Rattle.kf_column.specs.Laws.{ProjectedNumbers}
use Rattle.kf_column.specs.Projection.{projected, weight_through}
use Rattle.kf_column.specs.Shapes.{IsBelow}
use Rattle.kf_core.specs.Checked.{IsChecked}
use Rattle.kf_core.specs.Joint.{Cell, target_number, weight_of}
use Rattle.kf_core.specs.Programs.{ProgramTree}
use Rattle.kf_core.specs.Pushing.{AreBehind}
use Rattle.kf_core.specs.Ready.{carried_cells}
use Rattle.kf_core.specs.Rows.{AreRowsOf}
use Rattle.kf_core.specs.Runs.{stay}
use Rattle.kf_core.proofs.Sums.{adds, sum_filtered, sum_is}
use Rattle.kf_push.specs.Meanings.{IsFinished}
use Rattle.kf_push.proofs.Beginning.{SilentCells}
use Rattle.kf_push.proofs.Carrying.{Matrix}
use Rattle.kf_push.proofs.SilentRows.{columns_of, one_row, one_row_each, silent_row}
use Rattle.kf_core.proofs.Numbering.{target_number_is}
use Rattle.kf_core.specs.Each.{is_cell_at}

whole_weight : (w : ℕ) → 1 * w / 1 ≡ w
whole_weight w = ap (λ n. n / 1) (one-mul w) ∙ div-one w

module _ (f : ℕ → ℕ) where
  -- the cells of a column where each store is numbered anew
  abbrev moved_cells : List Entry → List Cell
  moved_cells column = carried_cells (λ n. stay (f n)) column

  moved_silent : (column : List Entry) → SilentCells (moved_cells column)
  moved_silent [] = tt
  moved_silent (e ∷ es) = (refl, moved_silent es)

  moved_adds : (column : List Entry) (x : ℕ)
      → adds (λ c. cond (is_cell_at [] x c) c.weight 0) (moved_cells column) ≡ adds (λ e. if f e.value == x then e.weight else 0) column
  moved_adds [] x = refl
  moved_adds (e ∷ es) x =
      let rest = moved_adds es x in
      let head : (if f e.value == x then 1 * e.weight / 1 else 0) ≡ (if f e.value == x then e.weight else 0) =
      ap (λ w. if f e.value == x then w else 0) (whole_weight e.weight) in
      λ i. head i + rest i

  -- they give each value what its stores weigh together
  moved_weight : (column : List Entry) (x : ℕ) → weight_of (moved_cells column) [] x ≡ weight_through f column x
  moved_weight column x =
      sum_filtered (λ (c : Cell). c.weight) (is_cell_at [] x) (moved_cells column)
      ∙ (moved_adds column x ∙ sym (sum_is (λ (e : Entry). if f e.value == x then e.weight else 0) column))

  -- so there is one row, the column of these weights
  moved_row : (column other : List Entry) → IsColumn other → ((x : ℕ) → weight_at other x ≡ weight_through f column x)
      → AreRowsOf (moved_cells column) (silent_row other ∷ [])
  moved_row column other there weights =
      one_row (moved_cells column) (moved_silent column) other there (λ x. weights x ∙ sym (moved_weight column x))

  -- numbers that agree below the size weigh alike
  module _ (g : ℕ → ℕ) (size : ℕ) (same : (n : ℕ) → n < size → g n ≡ f n) where
    through_adds : (column : List Entry) (x : ℕ) → IsBelow size column
        → adds (λ e. if g e.value == x then e.weight else 0) column ≡ adds (λ e. if f e.value == x then e.weight else 0) column
    through_adds [] x below = refl
    through_adds (e ∷ es) x below =
        let n = same e.value (All-head (λ (e : Entry). e.value < size) e es below) in
        let rest = through_adds es x (All-tail (λ (e : Entry). e.value < size) e es below) in
        λ i. (if n i == x then e.weight else 0) + rest i

    through_same : (column : List Entry) (x : ℕ) → IsBelow size column → weight_through g column x ≡ weight_through f column x
    through_same column x below =
        sum_is (λ (e : Entry). if g e.value == x then e.weight else 0) column
        ∙ (through_adds column x below ∙ sym (sum_is (λ (e : Entry). if f e.value == x then e.weight else 0) column))

    each_row : (columns targets : Matrix) → All IsColumn columns → All IsColumn targets → All (IsBelow size) columns
        → map weight_at targets ≡ map (weight_through g) columns
        → AllZip (λ column there. AreRowsOf (moved_cells column) there) columns (one_row_each targets)
    each_row [] [] are were below weights = tt
    each_row [] (t ∷ ts) are were below weights = absurd (cc)
    each_row (c ∷ cs) [] are were below weights = absurd (cc)
    each_row (c ∷ cs) (t ∷ ts) are were below weights =
        let head : weight_at t ≡ weight_through g c = cc in
        let rest : map weight_at ts ≡ map (weight_through g) cs = cc in (
          moved_row c t (All-head IsColumn t ts were)
              (λ x. ap (λ (h : ℕ → ℕ). h x) head ∙ through_same c x (All-head (IsBelow size) c cs below)),
          each_row cs ts (All-tail IsColumn c cs are) (All-tail IsColumn t ts were) (All-tail (IsBelow size) c cs below) rest,
        )

    targets_behind : (columns targets : Matrix) → All IsColumn columns → All IsColumn targets → All (IsBelow size) columns
        → map weight_at targets ≡ map (weight_through g) columns
        → AreBehind (λ n. stay (f n)) columns targets
    targets_behind columns targets are were below weights =
        record { rows = one_row_each targets; each = each_row columns targets are were below weights; is = columns_of targets }

-- the projected columns are those of the target's values
pub is_finished : (p : ProgramTree) → IsChecked p → ProjectedNumbers → (columns targets : Matrix) (inners : List Inner) → All IsColumn columns
    → All IsColumn targets
    → All (IsBelow (product (map count p.types))) columns → map weight_at targets ≡ map (weight_through (projected (map count p.types) p.target_slots)) columns
    → IsHyper targets inners → IsFinished p columns inners
is_finished p checked numbers columns targets inners are were below weights hyper = record {
  targets = targets;
  are_targets =
      targets_behind (target_number p) (projected (map count p.types) p.target_slots) (product (map count p.types))
      (target_number_is p checked numbers) columns targets are were below weights;
  is_hyper = hyper;
}
