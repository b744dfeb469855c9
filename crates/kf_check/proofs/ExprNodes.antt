-- What each constructor of an expression shows.
use Rattle.std.proofs.Common.{◌≡◌, ℕ, Bool, Box, Global, map, rules}
use Rattle.kf_value.specs.declared.value.Value.{Value}
use Rattle.kf_value.specs.Views.{value_tree}
use Rattle.kf_ast.specs.declared.decl.Ident.{Ident}
use Rattle.kf_ast.specs.Views.{name_tree, expr_tree, expr_items}
use Rattle.kf_ast.specs.declared.expr.Expr.{Expr, the_lemmas as expr_lemmas}
use Rattle.kf_ast.specs.declared.expr.ExprNode.TheVariants as node
use Rattle.kf_ast.specs.declared.expr.ExprList.{ExprList}
use Rattle.kf_ast.specs.Exprs.{ExprTree, expr_at, Number, Truth, Name, Apply, Tuple, Part, exprs}
use Rattle.kf_ast.specs.Exprs as Exprs
use Rattle.kf_core.specs.declared.ex.Ex.{Ex, the_lemmas as ex_lemmas}
use Rattle.kf_core.specs.declared.ex.Ex.TheVariants as ex
use Rattle.kf_core.specs.declared.ex.ExList.{ExList}
use Rattle.kf_core.specs.Exs.{ExTree}
use Rattle.kf_core.specs.Views.{ex_tree, ex_items}
use Rattle.kf_core.specs.Exs as Exs
use Rattle.kf_core.specs.Each.{exs}

pub expr_tree-Number : (x : Expr) (n : ℕ) → x.node ≡ node.Number n → expr_tree x ≡ expr_at x.at (Number n)
expr_tree-Number x n is = search (rules, expr_lemmas)

pub expr_tree-Truth : (x : Expr) (b : Bool) → x.node ≡ node.Truth b → expr_tree x ≡ expr_at x.at (Truth b)
expr_tree-Truth x b is = search (rules, expr_lemmas)

pub expr_tree-Name : (x : Expr) (i : Ident) → x.node ≡ node.Name i → expr_tree x ≡ expr_at x.at (Name (name_tree i))
expr_tree-Name x i is = search (rules, expr_lemmas)

pub expr_tree-Apply : (x : Expr) (row : ℕ) (xs : ExprList) → x.node ≡ node.Apply row xs → expr_tree x ≡ expr_at x.at (Apply row (exprs (map expr_tree (expr_items xs))))
expr_tree-Apply x row xs is = search (rules, expr_lemmas)

pub expr_tree-Tuple : (x : Expr) (xs : ExprList) → x.node ≡ node.Tuple xs → expr_tree x ≡ expr_at x.at (Tuple (exprs (map expr_tree (expr_items xs))))
expr_tree-Tuple x xs is = search (rules, expr_lemmas)

pub expr_tree-SetOf : (x : Expr) (xs : ExprList) → x.node ≡ node.SetOf xs → expr_tree x ≡ expr_at x.at (Exprs.SetOf (exprs (map expr_tree (expr_items xs))))
expr_tree-SetOf x xs is = search (rules, expr_lemmas)

pub expr_tree-Part : (x : Expr) (of : Box Expr Global) (k : ℕ) → x.node ≡ node.Part of k → expr_tree x ≡ expr_at x.at (Part (expr_tree of.value) k)
expr_tree-Part x of k is = search (rules, expr_lemmas)

pub ex_tree-Const : (v : Value) → ex_tree (ex.Const v) ≡ Exs.Const (value_tree v)
ex_tree-Const v = search (rules, ex_lemmas)

pub ex_tree-Slot : (i : ℕ) → ex_tree (ex.Slot i) ≡ Exs.Slot i
ex_tree-Slot i = search (rules, ex_lemmas)

pub ex_tree-Apply : (row : ℕ) (xs : ExList) → ex_tree (ex.Apply row xs) ≡ Exs.Apply row (exs (map ex_tree (ex_items xs)))
ex_tree-Apply row xs = search (rules, ex_lemmas)

pub ex_tree-Tuple : (xs : ExList) → ex_tree (ex.Tuple xs) ≡ Exs.Tuple (exs (map ex_tree (ex_items xs)))
ex_tree-Tuple xs = search (rules, ex_lemmas)

pub ex_tree-SetOf : (xs : ExList) → ex_tree (ex.SetOf xs) ≡ Exs.SetOf (exs (map ex_tree (ex_items xs)))
ex_tree-SetOf xs = search (rules, ex_lemmas)

pub ex_tree-Part : (of : Box Ex Global) (k : ℕ) → ex_tree (ex.Part of k) ≡ Exs.Part (ex_tree of.value) k
ex_tree-Part of k = search (rules, ex_lemmas)
