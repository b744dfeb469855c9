-- For bodies: the operator that a token is, as a function, the laws of operators and their tokens, and what is made of them.
use Rattle.std.specs.Prelude.{◌≡◌, ◌≤◌, ◌↔◌, ◌&&◌, ◌==◌, nat_lt, ℕ, Bool, if◌then◌else◌, Option, Some, None, List, [], ◌∷◌}
use Rattle.std.specs.Option.{option_map_or}
use Rattle.kf_ops.specs.declared.row.Op.{Op}
use Rattle.kf_ops.specs.declared.row.Op.TheVariants as op
use Rattle.kf_ops.specs.Places.{number_of}
use Rattle.kf_ops.specs.Rows.{Row}
use Rattle.kf_lex.specs.declared.token.Tok.{Tok}
use Rattle.kf_lex.specs.declared.token.Tok.TheVariants as t
use Rattle.kf_lex.specs.declared.token.Sign.TheVariants as s
use Rattle.kf_lex.specs.Operators.{operator_of}
use Rattle.kf_lex.specs.declared.token.Token.{Token}
use Rattle.kf_parse.specs.Operators.{IsBetween, IsBefore, IsCalling, level_of, arity_of}
use Rattle.kf_ast.specs.Exprs.{ExprTree, expr_at, Apply, exprs, Part, place}

-- the operator, where it passes the test
abbrev pub passed : (Op → Bool) → Option Op → Option Op
passed test None = None
passed test (Some op) = if test op then Some op else None

-- it takes so many arguments, and binds looser than those before parentheses
abbrev pub is_written_with : ℕ → Op → Bool
is_written_with n op = (arity_of op == n) && nat_lt (level_of op) 8

-- the operator that a token is between two operands
abbrev pub infix_op : Tok → Option Op
infix_op k = passed (is_written_with 2) (operator_of k)

-- the operator that it may be before an operand
abbrev pub operator_before : Tok → Option Op
operator_before (t.Sign s.Minus) = Some op.Negate
operator_before k = operator_of k

abbrev pub prefix_op : Tok → Option Op
prefix_op k = passed (is_written_with 1) (operator_before k)

-- the operator that it is before arguments in parentheses
abbrev pub called_op : Tok → Option Op
called_op k = passed (λ op. level_of op == 8) (operator_of k)

-- these functions tell exactly the operators of the definitions
pub record AreTold : Type 0 where
  pub between : (k : Tok) (op : Op) → (infix_op k ≡ Some op) ↔ IsBetween k op
  pub before : (k : Tok) (op : Op) → (prefix_op k ≡ Some op) ↔ IsBefore k op
  pub calling : (k : Tok) (op : Op) → (called_op k ≡ Some op) ↔ IsCalling k op

-- no operator is without a token
pub record HaveTokens : Type 0 where
  pub between : (op : Op) → arity_of op ≡ 2 → level_of op ≤ 7 → (k : Tok) × IsBetween k op
  pub before : (op : Op) → arity_of op ≡ 1 → level_of op ≤ 7 → (k : Tok) × IsBefore k op
  pub calling : (op : Op) → level_of op ≡ 8 → (k : Tok) × IsCalling k op

-- the row of an operator in the table, counted from 0
abbrev pub row_of : Op → ℕ
row_of op = number_of op

-- the word of a row, and no letters where there is none
abbrev pub word_in : Option Row → List ℕ
word_in found = option_map_or (λ row. row.word) found []

abbrev pub IsPrefix : ℕ → Op → Token → Type 0
IsPrefix l op o = IsBefore o.kind op × (level_of op ≡ l)

-- a token is an operator that takes so many arguments in parentheses
abbrev pub IsCalled : ℕ → Op → Token → Type 0
IsCalled arity op o = IsCalling o.kind op × (arity_of op ≡ arity)

abbrev pub prefixed : Token → Op → ExprTree → ExprTree
prefixed o op x = expr_at o.start (Apply (number_of op) (exprs (x ∷ [])))

abbrev pub part_of : ExprTree → ℕ → ExprTree
part_of x k = expr_at (place x) (Part x k)
