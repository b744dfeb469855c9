-- For bodies: how a program of the code is seen as a plain tree, and lists of the trees back from their blocks.
use Rattle.std.specs.Prelude.{List, [], ◌∷◌, map}
use Rattle.kf_value.specs.Shapes.{shape_types}
use Rattle.kf_value.specs.Views.{items_of, value_tree}
use Rattle.kf_core.specs.declared.dx.Dx.{Dx}
use Rattle.kf_core.specs.declared.dx.DxCase.{DxCase}
use Rattle.kf_core.specs.declared.dx.DxCaseList.{DxCaseList}
use Rattle.kf_core.specs.declared.dx.DxList.{DxList}
use Rattle.kf_core.specs.declared.dx.DxNode.{DxNode}
use Rattle.kf_core.specs.declared.dx.DxNode.TheVariants as d
use Rattle.kf_core.specs.declared.ex.Ex.{Ex, fold-Ex, Ex-F}
use Rattle.kf_core.specs.declared.ex.ExList.{ExList, ExList-F, out-ExList}
use Rattle.kf_core.specs.declared.program.Program.{Program}
use Rattle.kf_core.specs.declared.st.St.{St, fold-St, St-F}
use Rattle.kf_core.specs.declared.st.StList.{StList, StList-F, out-StList}
use Rattle.kf_core.specs.Exs.{ExTree, ExTrees, Const, Slot, Apply, Tuple, SetOf, Part, no_exs, more_exs}
use Rattle.kf_core.specs.Dxs.{DxCaseTree, case_of, DxShape, Sure, UniformSet, UniformRange, Choose, Flip, DxTree, dx_at}
use Rattle.kf_core.specs.Sts.{StTree, StTrees, Skip, Assign, Observe, If, While, no_sts, more_sts, sts}
use Rattle.kf_core.specs.Programs.{ProgramTree}
use Rattle.kf_core.specs.Each.{exs}

-- the expressions of a list of them
abbrev pub exs_list : ExTrees → List ExTree
exs_list no_exs = []
exs_list (more_exs x xs) = x ∷ exs_list xs

-- an expression of the program as a tree
abbrev pub ex_step : Ex-F ExTree (List ExTree) → ExTree
ex_step (Ex-F.Const v) = Const (value_tree v)
ex_step (Ex-F.Slot i) = Slot i
ex_step (Ex-F.Apply row xs) = Apply row (exs xs)
ex_step (Ex-F.Tuple xs) = Tuple (exs xs)
ex_step (Ex-F.SetOf xs) = SetOf (exs xs)
ex_step (Ex-F.Part x k) = Part x.value k

abbrev pub ex_list_step : ExList-F ExTree (List ExTree) → List ExTree
ex_list_step l = l.items.items

abbrev pub ex_tree : Ex → ExTree
ex_tree = fold-Ex ExTree (List ExTree) ex_step ex_list_step

abbrev pub ex_items : ExList → List Ex
ex_items l = (out-ExList l).items.items

abbrev pub dx_case_items : DxCaseList → List DxCase
dx_case_items l = l.items.items

abbrev pub dx_items : DxList → List Dx
dx_items l = l.items.items

-- a distribution of the program as a tree
abbrev pub dx_case_tree : DxCase → DxCaseTree
dx_case_tree c = case_of (ex_tree c.value) (ex_tree c.weight)

abbrev pub dx_shape : DxNode → DxShape
dx_shape (d.Sure x) = Sure (ex_tree x)
dx_shape (d.UniformSet x) = UniformSet (ex_tree x)
dx_shape (d.UniformRange x y) = UniformRange (ex_tree x) (ex_tree y)
dx_shape (d.Choose cs) = Choose (map dx_case_tree (dx_case_items cs))
dx_shape (d.Flip num den) = Flip num den

abbrev pub dx_tree : Dx → DxTree
dx_tree x = dx_at x.at (dx_shape x.node)

-- the statements of a block
abbrev pub sts_list : StTrees → List StTree
sts_list no_sts = []
sts_list (more_sts s ss) = s ∷ sts_list ss

-- a statement of the program as a tree
abbrev pub st_step : St-F StTree (List StTree) → StTree
st_step St-F.Skip = Skip
st_step (St-F.Assign slot d shown) = Assign slot (dx_tree d) shown
st_step (St-F.Observe d) = Observe (dx_tree d)
st_step (St-F.If d xs ys) = If (dx_tree d) (sts xs) (sts ys)
st_step (St-F.While d xs) = While (dx_tree d) (sts xs)

abbrev pub st_list_step : StList-F StTree (List StTree) → List StTree
st_list_step l = l.items.items

abbrev pub st_tree : St → StTree
st_tree = fold-St StTree (List StTree) st_step st_list_step

abbrev pub st_items : StList → List St
st_items l = (out-StList l).items.items

-- a whole program as a tree
abbrev pub program_tree : Program → ProgramTree
program_tree p = record {
  types = shape_types p.shape;
  decls = map dx_tree (dx_items p.decls);
  copies = p.copies;
  body = map st_tree (st_items p.body);
  target = items_of p.target;
  target_slots = p.target_slots;
}
