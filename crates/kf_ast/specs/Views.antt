-- For bodies: the code's trees as plain trees, and its lists.
use Rattle.std.specs.Prelude.{List, ℕ, map}
use Rattle.kf_ast.specs.declared.decl.Ident.{Ident}
use Rattle.kf_ast.specs.declared.decl.Decl.{Decl}
use Rattle.kf_ast.specs.declared.decl.DeclList.{DeclList}
use Rattle.kf_ast.specs.declared.decl.Item.{Item}
use Rattle.kf_ast.specs.declared.decl.ItemList.{ItemList}
use Rattle.kf_ast.specs.declared.decl.Source.{Source}
use Rattle.kf_ast.specs.declared.dist.Dist.{Dist}
use Rattle.kf_ast.specs.declared.dist.DistNode.{DistNode}
use Rattle.kf_ast.specs.declared.dist.DistNode.TheVariants as node
use Rattle.kf_ast.specs.declared.dist.Case.{Case}
use Rattle.kf_ast.specs.declared.dist.CaseList.{CaseList}
use Rattle.kf_ast.specs.declared.expr.Expr.{Expr, fold-Expr, Expr-F}
use Rattle.kf_ast.specs.declared.expr.ExprNode.{ExprNode-F}
use Rattle.kf_ast.specs.declared.expr.ExprList.{ExprList, ExprList-F, out-ExprList}
use Rattle.kf_ast.specs.declared.stmt.Stmt.{Stmt, fold-Stmt, Stmt-F}
use Rattle.kf_ast.specs.declared.stmt.StmtNode.{StmtNode-F}
use Rattle.kf_ast.specs.declared.stmt.StmtList.{StmtList, StmtList-F, out-StmtList}
use Rattle.kf_ast.specs.declared.ty_tree.TyTree.{TyTree, fold-TyTree, TyTree-F}
use Rattle.kf_ast.specs.declared.ty_tree.TyNode.{TyNode-F}
use Rattle.kf_ast.specs.declared.ty_tree.TyTreeList.{TyTreeList, TyTreeList-F, out-TyTreeList}
use Rattle.kf_ast.specs.Names.{NameTree, name}
use Rattle.kf_ast.specs.TypeForms.{TypeForm, TypeShape, type_at, Boolean, Range, TupleOf, types}
use Rattle.kf_ast.specs.TypeForms as form
use Rattle.kf_ast.specs.Exprs.{ExprTree, ExprShape, expr_at, Number, Truth, Name, Apply, Tuple, SetOf, Part, exprs}
use Rattle.kf_ast.specs.Dists.{CaseTree, case_of, DistTree, DistShape, dist_at, Sure, UniformSet, UniformRange, Choose, Flip}
use Rattle.kf_ast.specs.Stmts.{StmtTree, StmtShape, stmt_at, Skip, Assign, Observe, If, While, stmts}
use Rattle.kf_ast.specs.Sources.{DeclTree, declared, ItemTree, item, SourceTree, source}

abbrev pub name_tree : Ident → NameTree
name_tree n = name n.text n.at

abbrev pub name_place : NameTree → ℕ
name_place (name text at) = at

-- a type
abbrev pub type_node_step : TyNode-F TypeShape TypeForm (List TypeForm) → TypeShape
type_node_step TyNode-F.Bool = Boolean
type_node_step (TyNode-F.Int lo hi) = Range lo hi
type_node_step (TyNode-F.Tuple ts) = TupleOf (types ts)
type_node_step (TyNode-F.Set base) = form.SetOf base.value

abbrev pub type_step : TyTree-F TypeShape TypeForm (List TypeForm) → TypeForm
type_step t = type_at t.at t.node

abbrev pub type_list_step : TyTreeList-F TypeShape TypeForm (List TypeForm) → List TypeForm
type_list_step l = l.items.items

abbrev pub type_form : TyTree → TypeForm
type_form = fold-TyTree TypeShape TypeForm (List TypeForm) type_node_step type_step type_list_step

abbrev pub ty_items : TyTreeList → List TyTree
ty_items l = (out-TyTreeList l).items.items

-- an expression
abbrev pub node_step : ExprNode-F ExprShape ExprTree (List ExprTree) → ExprShape
node_step (ExprNode-F.Number n) = Number n
node_step (ExprNode-F.Truth b) = Truth b
node_step (ExprNode-F.Name n) = Name (name_tree n)
node_step (ExprNode-F.Apply row xs) = Apply row (exprs xs)
node_step (ExprNode-F.Tuple xs) = Tuple (exprs xs)
node_step (ExprNode-F.SetOf xs) = SetOf (exprs xs)
node_step (ExprNode-F.Part x k) = Part x.value k

abbrev pub expr_step : Expr-F ExprShape ExprTree (List ExprTree) → ExprTree
expr_step x = expr_at x.at x.node

abbrev pub list_step : ExprList-F ExprShape ExprTree (List ExprTree) → List ExprTree
list_step l = l.items.items

abbrev pub expr_tree : Expr → ExprTree
expr_tree = fold-Expr ExprShape ExprTree (List ExprTree) node_step expr_step list_step

abbrev pub expr_items : ExprList → List Expr
expr_items l = (out-ExprList l).items.items

-- a distribution
abbrev pub case_items : CaseList → List Case
case_items l = l.items.items

abbrev pub case_tree : Case → CaseTree
case_tree c = case_of (expr_tree c.value) (expr_tree c.weight)

abbrev pub dist_shape : DistNode → DistShape
dist_shape (node.Sure x) = Sure (expr_tree x)
dist_shape (node.UniformSet x) = UniformSet (expr_tree x)
dist_shape (node.UniformRange x y) = UniformRange (expr_tree x) (expr_tree y)
dist_shape (node.Choose cs) = Choose (map case_tree (case_items cs))
dist_shape (node.Flip num den) = Flip num den

abbrev pub dist_tree : Dist → DistTree
dist_tree x = dist_at x.at (dist_shape x.node)

-- a statement
abbrev pub stmt_node_step : StmtNode-F StmtShape StmtTree (List StmtTree) → StmtShape
stmt_node_step StmtNode-F.Skip = Skip
stmt_node_step (StmtNode-F.Assign n d) = Assign (name_tree n) (dist_tree d)
stmt_node_step (StmtNode-F.Observe d) = Observe (dist_tree d)
stmt_node_step (StmtNode-F.If d xs ys) = If (dist_tree d) (stmts xs) (stmts ys)
stmt_node_step (StmtNode-F.While d xs) = While (dist_tree d) (stmts xs)

abbrev pub stmt_step : Stmt-F StmtShape StmtTree (List StmtTree) → StmtTree
stmt_step s = stmt_at s.at s.node

abbrev pub stmt_list_step : StmtList-F StmtShape StmtTree (List StmtTree) → List StmtTree
stmt_list_step l = l.items.items

abbrev pub stmt_tree : Stmt → StmtTree
stmt_tree = fold-Stmt StmtShape StmtTree (List StmtTree) stmt_node_step stmt_step stmt_list_step

abbrev pub stmt_items : StmtList → List Stmt
stmt_items l = (out-StmtList l).items.items

-- a whole source
abbrev pub decl_items : DeclList → List Decl
decl_items l = l.items.items

abbrev pub target_items : ItemList → List Item
target_items l = l.items.items

abbrev pub decl_tree : Decl → DeclTree
decl_tree d = declared d.visible (name_tree d.name) (type_form d.ty) (dist_tree d.dist)

abbrev pub item_tree : Item → ItemTree
item_tree i = item i.initial (name_tree i.name)

abbrev pub source_tree : Source → SourceTree
source_tree s = source (map decl_tree (decl_items s.decls)) (map item_tree (target_items s.target)) (map stmt_tree (stmt_items s.body))
