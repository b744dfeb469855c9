-- Believed: which program a source is: names become places of variables, numbers and truth values constants, an assignment tells whether
-- its variable is visible, and nothing else changes.
use Rattle.std.specs.Prelude.{◌≡◌, ℕ, suc, ◌+◌, pos, Bool, true, false, List, [], ◌∷◌, length, map, get_or, slice_get, Some, None, Ok, if◌then◌else◌}
use Rattle.std.specs.List.{range_with_len}
use Rattle.std.specs.Str.{bytes_eq}
use Rattle.kf_value.specs.Values as value
use Rattle.kf_value.specs.Types.{TypeTree}
use Rattle.kf_value.specs.Targets.{Item}
use Rattle.kf_ast.specs.Names.{name}
use Rattle.kf_ast.specs.Exprs.{ExprTree, ExprShape, ExprTrees, expr_at, Number, Truth, Name, Apply, Tuple, SetOf, Part, no_exprs, more_exprs}
use Rattle.kf_ast.specs.Dists.{CaseTree, case_of, DistTree, dist_at, Sure, UniformSet, UniformRange, Choose, Flip}
use Rattle.kf_ast.specs.Stmts.{StmtTree, StmtShape, StmtTrees, stmt_at, Skip, Assign, Observe, If, While, no_stmts, more_stmts}
use Rattle.kf_ast.specs.Sources.{DeclTree, declared, is_visible, ItemTree, item, SourceTree, source}
use Rattle.kf_core.specs.Exs.{ExTree, ExTrees, no_exs, more_exs}
use Rattle.kf_core.specs.Exs as ex
use Rattle.kf_core.specs.Dxs.{DxCaseTree, DxTree, dx_at}
use Rattle.kf_core.specs.Dxs as dx
use Rattle.kf_core.specs.Sts.{StTree, StTrees, no_sts, more_sts}
use Rattle.kf_core.specs.Sts as st
use Rattle.kf_core.specs.Programs.{ProgramTree}
use Rattle.kf_check.specs.Sources.{Variable, types_of, JudgesSource, JudgesDecls, JudgesItems}
use mathlib.Core.List.{foldr}

-- the place of a name, counted from 0
abbrev pub place_of : List (List ℕ) → List ℕ → ℕ
place_of names n = foldr (λ m later. if bytes_eq m n then 0 else suc later) 0 names

-- where variables have these names
module _ (names : List (List ℕ)) where
  abbrev mutual
    pub ex_of : ExprTree → ExTree
    ex_of (expr_at at shape) = ex_of_shape shape

    pub ex_of_shape : ExprShape → ExTree
    ex_of_shape (Number k) = ex.Const (value.Whole (pos k))
    ex_of_shape (Truth b) = ex.Const (value.Truth b)
    ex_of_shape (Name (name n at)) = ex.Slot (place_of names n)
    ex_of_shape (Apply row xs) = ex.Apply row (exs_of xs)
    ex_of_shape (Tuple xs) = ex.Tuple (exs_of xs)
    ex_of_shape (SetOf xs) = ex.SetOf (exs_of xs)
    ex_of_shape (Part x k) = ex.Part (ex_of x) k

    pub exs_of : ExprTrees → ExTrees
    exs_of no_exprs = no_exs
    exs_of (more_exprs x xs) = more_exs (ex_of x) (exs_of xs)

  abbrev pub dx_case_of : CaseTree → DxCaseTree
  dx_case_of (case_of x w) = dx.case_of (ex_of x) (ex_of w)

  abbrev pub dx_of : DistTree → DxTree
  dx_of (dist_at at (Sure x)) = dx_at at (dx.Sure (ex_of x))
  dx_of (dist_at at (UniformSet x)) = dx_at at (dx.UniformSet (ex_of x))
  dx_of (dist_at at (UniformRange x w)) = dx_at at (dx.UniformRange (ex_of x) (ex_of w))
  dx_of (dist_at at (Choose cs)) = dx_at at (dx.Choose (map dx_case_of cs))
  dx_of (dist_at at (Flip num den)) = dx_at at (dx.Flip num den)

  abbrev pub decl_of : DeclTree → DxTree
  decl_of (declared visible n y d) = dx_of d

-- where variables have these names, and it is told of each whether it is visible
module _ (names : List (List ℕ)) (visible : List Bool) where
  abbrev mutual
    pub st_of : StmtTree → StTree
    st_of (stmt_at at shape) = st_of_shape shape

    pub st_of_shape : StmtShape → StTree
    st_of_shape Skip = st.Skip
    st_of_shape (Assign (name n at) d) = st.Assign (place_of names n) (dx_of names d) (get_or visible (place_of names n) false)
    st_of_shape (Observe d) = st.Observe (dx_of names d)
    st_of_shape (If d xs ys) = st.If (dx_of names d) (sts_of xs) (sts_of ys)
    st_of_shape (While d xs) = st.While (dx_of names d) (sts_of xs)

    pub sts_of : StmtTrees → StTrees
    sts_of no_stmts = no_sts
    sts_of (more_stmts x xs) = more_sts (st_of x) (sts_of xs)

-- Items of a target, behind so many carried copies: the variable of each further copy, the items with their types, and the variable from
-- which each is read. A value behind the declarations is read from its copy, which stands behind the declared variables.
pub data AreItems (vs : List Variable) : ℕ → List ItemTree → List ℕ → List Item → List ℕ → Type 0 where
  none : {copies : ℕ} → AreItems vs copies [] [] [] []
  final :
      {copies : ℕ} (at i : ℕ) {n : List ℕ} {t : TypeTree} {others : List ItemTree} {cs : List ℕ} {is : List Item} {slots : List ℕ}
      → slice_get vs i ≡ Some (record { name = n; type = t })
      → AreItems vs copies others cs is slots
      → AreItems vs copies (item false (name n at) ∷ others) cs (record { initial = false; name = n; ty = t } ∷ is) (i ∷ slots)
  initial :
      {copies : ℕ} (at i : ℕ) {n : List ℕ} {t : TypeTree} {others : List ItemTree} {cs : List ℕ} {is : List Item} {slots : List ℕ}
      → slice_get vs i ≡ Some (record { name = n; type = t })
      → AreItems vs (copies + 1) others cs is slots
      → AreItems vs copies (item true (name n at) ∷ others) (i ∷ cs)
      (record { initial = true; name = n; ty = t } ∷ is) ((length vs + copies) ∷ slots)

-- without `about` the target is all declared variables
pub data IsTarget (vs : List Variable) : List ItemTree → List ℕ → List Item → List ℕ → Type 0 where
  all :
      IsTarget vs [] [] (map (λ v. record { initial = false; name = v.name; ty = v.type }) vs) (range_with_len 0 (length vs))
  about :
      {i : ItemTree} {others : List ItemTree} {cs : List ℕ} {is : List Item} {slots : List ℕ}
      → AreItems vs 0 (i ∷ others) cs is slots
      → IsTarget vs (i ∷ others) cs is slots

abbrev pub names_of : List Variable → List (List ℕ)
names_of vs = map (λ v. v.name) vs

-- the source breaks no rule, and has this program
pub record Typed (s : SourceTree) (p : ProgramTree) : Type 0 where
  pub decls : List DeclTree
  pub items : List ItemTree
  pub body : List StmtTree
  pub is_source : s ≡ source decls items body
  pub judged : JudgesSource s None
  pub variables : List Variable
  pub are_variables : JudgesDecls [] decls (Ok variables)
  pub are_types : JudgesItems variables [] (types_of variables) items (Ok p.types)
  pub are_decls : p.decls ≡ map (decl_of (names_of variables)) decls
  pub is_target : IsTarget variables items p.copies p.target p.target_slots
  pub are_statements : p.body ≡ map (st_of (names_of variables) (map is_visible decls)) body
