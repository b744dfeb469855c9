-- For bodies: what the grammar sees to: operators have as many arguments as they take, and lists that may not be short are not.
use Rattle.std.specs.Prelude.{ℕ, suc, ◌≤◌, List, [], ◌∷◌, length}
use Rattle.kf_ast.specs.TypeForms.{TypeForm, TypeShape, TypeForms, type_at, Boolean, Range, TupleOf, no_types, more_types}
use Rattle.kf_ast.specs.TypeForms as form
use Rattle.kf_ast.specs.Exprs.{ExprTree, ExprShape, ExprTrees, expr_at, Apply, Tuple, SetOf, Part, no_exprs, more_exprs}
use Rattle.kf_ast.specs.Dists.{CaseTree, case_of, DistTree, DistShape, dist_at, Sure, UniformSet, UniformRange, Choose, Flip}
use Rattle.kf_ast.specs.Stmts.{StmtTree, StmtShape, StmtTrees, stmt_at, Skip, Assign, Observe, If, While, no_stmts, more_stmts}
use Rattle.kf_ast.specs.Sources.{DeclTree, declared, SourceTree, source}

abbrev pub type_count : TypeForms → ℕ
type_count no_types = 0
type_count (more_types t ts) = suc (type_count ts)

-- a tuple has at least two parts
abbrev mutual
  pub IsTypeBuilt : TypeForm → Type 0
  IsTypeBuilt (type_at at shape) = IsTypeShapeBuilt shape

  pub IsTypeShapeBuilt : TypeShape → Type 0
  IsTypeShapeBuilt Boolean = Unit {0}
  IsTypeShapeBuilt (Range lo hi) = Unit {0}
  IsTypeShapeBuilt (TupleOf ts) = (2 ≤ type_count ts) × AreTypesBuilt ts
  IsTypeShapeBuilt (form.SetOf t) = IsTypeBuilt t

  pub AreTypesBuilt : TypeForms → Type 0
  AreTypesBuilt no_types = Unit {0}
  AreTypesBuilt (more_types t ts) = IsTypeBuilt t × AreTypesBuilt ts

abbrev pub expr_count : ExprTrees → ℕ
expr_count no_exprs = 0
expr_count (more_exprs x xs) = suc (expr_count xs)

-- `Takes` says how many arguments the operator of a row takes
module _ (Takes : ℕ → ℕ → Type 0) where
  abbrev mutual
    pub IsBuilt : ExprTree → Type 0
    IsBuilt (expr_at at shape) = IsShapeBuilt shape

    pub IsShapeBuilt : ExprShape → Type 0
    IsShapeBuilt (Apply row xs) = Takes row (expr_count xs) × AreBuilt xs
    IsShapeBuilt (Tuple xs) = (2 ≤ expr_count xs) × AreBuilt xs
    IsShapeBuilt (SetOf xs) = (1 ≤ expr_count xs) × AreBuilt xs
    IsShapeBuilt (Part x k) = IsBuilt x
    IsShapeBuilt _ = Unit {0}

    pub AreBuilt : ExprTrees → Type 0
    AreBuilt no_exprs = Unit {0}
    AreBuilt (more_exprs x xs) = IsBuilt x × AreBuilt xs

  abbrev pub AreCasesBuilt : List CaseTree → Type 0
  AreCasesBuilt [] = Unit {0}
  AreCasesBuilt (case_of x y ∷ cs) = IsBuilt x × IsBuilt y × AreCasesBuilt cs

  abbrev pub IsDistShapeBuilt : DistShape → Type 0
  IsDistShapeBuilt (Sure x) = IsBuilt x
  IsDistShapeBuilt (UniformSet x) = IsBuilt x
  IsDistShapeBuilt (UniformRange x y) = IsBuilt x × IsBuilt y
  IsDistShapeBuilt (Choose cs) = (1 ≤ length cs) × AreCasesBuilt cs
  IsDistShapeBuilt (Flip j k) = Unit {0}

  abbrev pub IsDistBuilt : DistTree → Type 0
  IsDistBuilt (dist_at at shape) = IsDistShapeBuilt shape

  abbrev mutual
    pub IsStmtBuilt : StmtTree → Type 0
    IsStmtBuilt (stmt_at at shape) = IsStmtShapeBuilt shape

    pub IsStmtShapeBuilt : StmtShape → Type 0
    IsStmtShapeBuilt Skip = Unit {0}
    IsStmtShapeBuilt (Assign n d) = IsDistBuilt d
    IsStmtShapeBuilt (Observe d) = IsDistBuilt d
    IsStmtShapeBuilt (If d xs ys) = IsDistBuilt d × AreStmtsBuilt xs × AreStmtsBuilt ys
    IsStmtShapeBuilt (While d xs) = IsDistBuilt d × AreStmtsBuilt xs

    pub AreStmtsBuilt : StmtTrees → Type 0
    AreStmtsBuilt no_stmts = Unit {0}
    AreStmtsBuilt (more_stmts x xs) = IsStmtBuilt x × AreStmtsBuilt xs

  abbrev pub AreDeclsBuilt : List DeclTree → Type 0
  AreDeclsBuilt [] = Unit {0}
  AreDeclsBuilt (declared visible n y d ∷ ds) = IsTypeBuilt y × IsDistBuilt d × AreDeclsBuilt ds

  abbrev pub AreListedBuilt : List StmtTree → Type 0
  AreListedBuilt [] = Unit {0}
  AreListedBuilt (x ∷ xs) = IsStmtBuilt x × AreListedBuilt xs

  abbrev pub IsSourceBuilt : SourceTree → Type 0
  IsSourceBuilt (source ds is xs) = AreDeclsBuilt ds × AreListedBuilt xs
