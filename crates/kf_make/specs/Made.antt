-- For bodies: the lines of the made text, and the source and the program that it is.
use Rattle.std.specs.Prelude.{◌≡◌, ◌≤◌, ℕ, zero, suc, ◌+◌, pos, false, List, [], ◌∷◌, ◌++◌, codes}
use Rattle.std.specs.List.{repeat}
use Rattle.kf_value.specs.Types.{Range as number_range}
use Rattle.kf_value.specs.Values.{Whole}
use Rattle.kf_ast.specs.Names.{name}
use Rattle.kf_ast.specs.TypeForms.{type_at, Range}
use Rattle.kf_ast.specs.Exprs.{ExprTree, expr_at, Number, Name, Apply, exprs}
use Rattle.kf_ast.specs.Dists.{CaseTree, case_of, dist_at, UniformRange, Choose}
use Rattle.kf_ast.specs.Stmts.{StmtTree, stmt_at, Observe}
use Rattle.kf_ast.specs.Sources.{DeclTree, declared, SourceTree, source}
use Rattle.kf_core.specs.Exs as ex
use Rattle.kf_core.specs.Each as each
use Rattle.kf_core.specs.Dxs as dx
use Rattle.kf_core.specs.Sts as st
use Rattle.kf_core.specs.Programs.{ProgramTree}
use Rattle.kf_ops.specs.declared.row.Op.TheVariants as op
use Rattle.kf_ops.specs.Places.{number_of}
use Rattle.kf_make.specs.Making.{make_source}

-- 64 values, each alike
abbrev pub make_head : List ℕ
make_head = codes "var x : 0..63 := uniform 0..63;" ++ 10 ∷ []

-- their parity, turned round once in four times
abbrev pub make_line : List ℕ
make_line = codes "observe choose { x mod 2 : 3, 1 - x mod 2 : 1 };" ++ 10 ∷ []

abbrev pub number_at : ℕ → ℕ → ExprTree
number_at at n = expr_at at (Number n)

abbrev pub x_at : ℕ → ExprTree
x_at at = expr_at at (Name (name (codes "x") at))

-- `x mod 2`, from its first byte
abbrev pub parity_at : ℕ → ExprTree
parity_at at = expr_at at (Apply (number_of op.Mod) (exprs (x_at at ∷ number_at (at + 6) 2 ∷ [])))

-- the parity at the weight 3, and the other bit at the weight 1
abbrev pub made_cases : ℕ → List CaseTree
made_cases at =
    case_of (parity_at (at + 17)) (number_at (at + 27) 3)
    ∷ case_of (expr_at (at + 30) (Apply (number_of op.Subtract) (exprs (number_at (at + 30) 1 ∷ parity_at (at + 34) ∷ [])))) (number_at (at + 44) 1)
    ∷ []

-- a line's statement, where the line begins at this byte
abbrev pub made_statement : ℕ → StmtTree
made_statement at = stmt_at at (Observe (dist_at (at + 8) (Choose (made_cases at))))

abbrev pub made_statements : ℕ → ℕ → List StmtTree
made_statements at zero = []
made_statements at (suc k) = made_statement at ∷ made_statements (at + 49) k

abbrev pub made_declaration : DeclTree
made_declaration = declared false (name (codes "x") 4) (type_at 8 (Range (pos 0) (pos 63))) (dist_at 17 (UniformRange (number_at 25 0) (number_at 28 63)))

abbrev pub made_tree : ℕ → SourceTree
made_tree count = source (made_declaration ∷ []) [] (made_statements 32 count)

-- `x mod 2` where `x` is variable 0
abbrev pub parity : ex.ExTree
parity = ex.Apply (number_of op.Mod) (each.exs (ex.Slot 0 ∷ ex.Const (Whole (pos 2)) ∷ []))

-- what each line observes, where its line begins at this byte
abbrev pub noisy_parity : ℕ → dx.DxTree
noisy_parity at = dx.dx_at (at + 8)
    (dx.Choose (
    dx.case_of parity (ex.Const (Whole (pos 3)))
    ∷ dx.case_of (ex.Apply (number_of op.Subtract) (each.exs (ex.Const (Whole (pos 1)) ∷ parity ∷ []))) (ex.Const (Whole (pos 1)))
    ∷ []
    ))

abbrev pub made_body : ℕ → ℕ → List st.StTree
made_body at zero = []
made_body at (suc k) = st.Observe (noisy_parity at) ∷ made_body (at + 49) k

abbrev pub made_program : ℕ → ProgramTree
made_program count = record {
  types = number_range (pos 0) (pos 63) ∷ [];
  decls = dx.dx_at 17 (dx.UniformRange (ex.Const (Whole (pos 0))) (ex.Const (Whole (pos 63)))) ∷ [];
  copies = [];
  body = made_body 32 count;
  target = record { initial = false; name = codes "x"; ty = number_range (pos 0) (pos 63) } ∷ [];
  target_slots = 0 ∷ [];
}

-- a made text of so few lines that its scale has 127 bits
pub record IsMade (count : ℕ) (text : List ℕ) : Type 0 where
  pub few : count ≤ 60
  pub is : text ≡ make_source count

abbrev pub make_lines : ℕ → List ℕ
make_lines count = repeat count make_line
