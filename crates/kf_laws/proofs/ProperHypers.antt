-- The hyper of a checked program that meets no fault, and whose scale isn't too wide, is proper.
use Rattle.std.proofs.Common.{◌≡◌, ℕ, ◌*◌, ◌<◌, ◌≤◌, List, [], ◌∷◌, map, All, IsOk, Option, None, Some, Result, Ok, Err, refl, sym, ap, subst, ◌∙◌}
use Rattle.std.specs.Cmp.Lexicographic.{pointwise}
use Rattle.std.specs.Option.{unwrap_or}
use Rattle.std.specs.List.{AllByRecursion as Every}
use Rattle.std.proofs.lemmas.List.Elements.{All-map, All-from_recursion}
use Rattle.std.proofs.lemmas.List.Quantifiers.{position-Some}
use Rattle.kf_frac.specs.Fractions.{limit}
use Rattle.kf_value.specs.Numbers.{target_size}
use Rattle.kf_value.specs.Stores.{stores}
use Rattle.kf_value.specs.Targets.{Item}
use Rattle.kf_value.specs.Types.{count, product}
use Rattle.kf_value.specs.Values.{is_equal}
use Rattle.kf_value.proofs.ListLemmas.{each_any, each_flat_map, each_weaker}
use Rattle.kf_column.specs.declared.entry.Entry.{Entry}
use Rattle.kf_column.specs.Columns.{IsColumn, total}
use Rattle.kf_column.specs.Hypers.{Inner, IsHyper}
use Rattle.kf_column.specs.Joint.{mass}
use Rattle.kf_column.specs.Shapes.{IsBelow, IsShape, as_inner}
use Rattle.kf_column.specs.Traces.{Row}
use Rattle.kf_column.proofs.Abstraction.{is_hyper, is_shape}
use Rattle.kf_column.proofs.AtMostOne.{at_most_one}
use Rattle.kf_column.proofs.SomeHyper.{Classed, classed}
use Rattle.kf_column.proofs.Weights.{above_column}
use Rattle.kf_core.specs.Checked.{IsChecked}
use Rattle.kf_core.specs.Joint.{Cell, cell_of, joint_of, target_number, target_values_at}
use Rattle.kf_core.specs.JointLaws.{JointIsWhole}
use Rattle.kf_core.specs.Programs.{ProgramTree}
use Rattle.kf_core.specs.Rows.{AreRowsOf, IsHyperOf}
use Rattle.kf_core.specs.Runs.{Run, Halted, program_runs, store_number}
use Rattle.kf_core.specs.Scale.{scale_of as run_scale}
use Rattle.kf_core.specs.Support.{program_pass}
use Rattle.kf_core.specs.SupportLaws.{CommonScaleIsLeast, ScalesArePositive}
use Rattle.kf_core.proofs.Measures.{Measure}
use Rattle.kf_core.proofs.Stores.{length-stores}
use Rattle.kf_core.proofs.Sums.{adds, adds_mapped, sum_is}
use Rattle.kf_push.proofs.CellsFrom.{IsRowOf, rows_told}
use Rattle.kf_push.proofs.Gathers.{trace_hold}
use Rattle.kf_push.proofs.RowMass.{rows_mass}
use Rattle.kf_refine.specs.Refinements.{HyperTree}
use Rattle.kf_refine.specs.Views.{IsProper}
use Rattle.kf_top.specs.Answer.{IsHyperTree}
use Rattle.kf_laws.proofs.SizedTargets.{IsSized, some_target}

-- ---- values of cells

abbrev number_or : Option ℕ → ℕ
number_or found = unwrap_or found 0

below_or : (size : ℕ) → 0 < size → (o : Option ℕ) → ((m : ℕ) → o ≡ Some m → m < size) → number_or o < size
below_or size some (Some m) h = h m refl
below_or size some None h = some

-- a target has as many values as its types together
size_is : (items : List Item) → target_size items ≡ product (map count (map (λ i. i.ty) items))
size_is [] = refl
size_is (x ∷ items) = ap (λ n. count x.ty * n) (size_is items)

module _ (p : ProgramTree) (some : 0 < target_size p.target) where
  number_below : (n : ℕ) → target_number p n < target_size p.target
  number_below n =
      let types = map (λ (i : Item). i.ty) p.target in
      let size : product (map count types) ≡ target_size p.target = sym (size_is p.target) in
      below_or (target_size p.target) some (store_number types (target_values_at p n))
      (λ m is. subst (λ (k : ℕ). m < k) (length-stores types ∙ size) (position-Some (pointwise is_equal (target_values_at p n)) (stores types) m [] is).0)

  abbrev IsWithin : Cell → Type 0
  IsWithin d = d.value < target_size p.target

  cell_within : (scale : ℕ) (r : Run) (x : Result ℕ Halted) → r.end ≡ x → Every IsWithin (cell_of (target_number p) scale r)
  cell_within scale r (Ok n) is = rw is (number_below n, tt)
  cell_within scale r (Err f) is = rw is tt

  joint_within : (turns : ℕ) → Every IsWithin (joint_of turns p)
  joint_within turns =
      each_flat_map IsWithin (cell_of (target_number p) (run_scale turns p)) (program_runs turns p)
      (each_any (λ r. Every IsWithin (cell_of (target_number p) (run_scale turns p) r)) (λ r. cell_within (run_scale turns p) r r.end refl) (program_runs turns p))

-- ---- columns of rows

abbrev columns_of : List Row → List (List Entry)
columns_of rows = map (λ r. r.column) rows

-- a value below the size
abbrev below : ℕ → Measure
below size = record { holds = λ n w. n < size; value = λ n w. 0; closed = λ n a b h k. h; linear = λ n a b h k. refl }

module _ (cs : List Cell) (rows : List Row) (are : AreRowsOf cs rows) where
  all_columns : All IsColumn (columns_of rows)
  all_columns = All-map IsColumn (λ (r : Row). r.column) rows are.columns

  columns_mass : mass (columns_of rows) ≡ adds (λ d. d.weight) cs
  columns_mass = sum_is total (columns_of rows) ∙ adds_mapped total (λ (r : Row). r.column) rows ∙ rows_mass cs rows are

  columns_within : (size : ℕ) → Every (λ d. d.value < size) cs → All (IsBelow size) (columns_of rows)
  columns_within size h =
      All-map (IsBelow size) (λ (r : Row). r.column) rows
      (All-from_recursion (λ (r : Row). IsBelow size r.column) rows
      (each_weaker (IsRowOf cs) (λ (r : Row). IsBelow size r.column)
      (λ r told. All-from_recursion (λ (e : Entry). e.value < size) r.column (trace_hold (below size) cs h r.trace r.column (above_column r.column told.1) told.2)) rows
      (rows_told cs rows are)))

-- ---- columns have one shape

shape_of : (columns : List (List Entry)) (inners : List Inner) → IsHyper columns inners → All IsColumn columns → (size scale : ℕ) → 0 < scale → scale ≤ limit
    → mass columns ≡ scale → All (IsBelow size) columns → IsShape size scale inners
shape_of columns inners is all size scale some narrow whole within =
    let c : Classed columns = classed columns all in
    let same : map as_inner c.classes ≡ inners = at_most_one columns (map as_inner c.classes) inners (is_hyper columns c.classes c.are_classes c.sorted) is in
    subst (IsShape size scale) same (is_shape columns c.classes c.are_classes c.sorted size scale some narrow whole within)

-- ---- programs

-- a program that the type rules give
pub record IsTypedProgram (p : ProgramTree) : Type 0 where
  pub checked : IsChecked p
  pub sized : Every IsSized p.target

-- it meets no fault, and its scale isn't too wide
pub record IsClear (turns : ℕ) (p : ProgramTree) : Type 0 where
  pub typed : IsTypedProgram p
  pub passes : IsOk (program_pass turns p)
  pub narrow : run_scale turns p ≤ limit

-- the hypers of clear programs are proper
abbrev pub AreProper : Type 0
AreProper = (turns : ℕ) (p : ProgramTree) (h : HyperTree) → IsClear turns p → IsHyperTree turns p h → IsProper h

module _ (whole : JointIsWhole) (scales : ScalesArePositive) (least : CommonScaleIsLeast) where
  inners_shaped : (turns : ℕ) (p : ProgramTree) (inners : List Inner) → IsClear turns p → IsHyperOf (joint_of turns p) inners → IsShape (target_size p.target) (run_scale turns p) inners
  inners_shaped turns p inners clear is =
      let cs = joint_of turns p in
      let some = some_target p.target clear.typed.sized in
      let weight : adds (λ (d : Cell). d.weight) cs ≡ run_scale turns p = sym (sum_is (λ (d : Cell). d.weight) cs) ∙ whole turns p clear.typed.checked clear.passes in
      shape_of (columns_of is.rows) inners is.is_hyper (all_columns cs is.rows is.are_rows) (target_size p.target) (run_scale turns p)
      (least (program_runs turns p) (scales turns p)).positive clear.narrow (columns_mass cs is.rows is.are_rows ∙ weight)
      (columns_within cs is.rows is.are_rows (target_size p.target) (joint_within p some turns))

  pub are_proper : AreProper
  are_proper turns p h clear is =
      subst (λ (items : List Item). IsShape (target_size items) h.scale h.inners) (sym is.target)
      (subst (λ (scale : ℕ). IsShape (target_size p.target) scale h.inners) (sym is.scale) (inners_shaped turns p h.inners clear is.is_hyper))
