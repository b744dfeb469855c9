-- Believed: the operators, row by row.
use Rattle.std.specs.Prelude.{ℕ, Bool, true, false, List, [], ◌∷◌, codes}
use Rattle.kf_ops.specs.declared.row.Op.{Op}
use Rattle.kf_ops.specs.declared.row.Op.TheVariants as op
use Rattle.kf_ops.specs.declared.row.Pat.{Pat}
use Rattle.kf_ops.specs.declared.row.Pat.TheVariants as pat

-- one operator: its word, how tightly it binds, what it takes and gives, and its faults
pub record Row : Type 0 where
  pub word : List ℕ
  pub level : ℕ
  pub arity : ℕ
  pub args : List Pat
  pub result : Pat
  pub code : Op
  pub div_zero : Bool
  pub wide : Bool

-- an operator of one argument that has no faults
abbrev pub unary : List ℕ → ℕ → Pat → Pat → Op → Row
unary word level a result code = record {
  word = word;
  level = level;
  arity = 1;
  args = a ∷ pat.Nothing ∷ pat.Nothing ∷ [];
  result = result;
  code = code;
  div_zero = false;
  wide = false;
}

-- an operator of two arguments that has no faults
abbrev pub binary : List ℕ → ℕ → Pat → Pat → Pat → Op → Row
binary word level a b result code = record (unary word level a result code) { arity = 2; args = a ∷ b ∷ pat.Nothing ∷ [] }

-- the same operator, which has no value where the result isn't an i64
abbrev pub may_be_wide : Row → Row
may_be_wide r = record r { wide = true }

-- the same operator, which has no value at a divisor of 0
abbrev pub may_divide_by_zero : Row → Row
may_divide_by_zero r = record r { div_zero = true }

-- the operators, in the order of their numbers
abbrev pub operators : List Row
operators =
    binary (codes "or") 1 pat.Bool pat.Bool pat.Bool op.Or
    ∷ binary (codes "and") 2 pat.Bool pat.Bool pat.Bool op.And
    ∷ unary (codes "not") 3 pat.Bool pat.Bool op.Not
    ∷ binary (codes "=") 4 pat.Any pat.Any pat.Bool op.Equal
    ∷ binary (codes "!=") 4 pat.Any pat.Any pat.Bool op.NotEqual
    ∷ binary (codes "<") 4 pat.Int pat.Int pat.Bool op.Less
    ∷ binary (codes "<=") 4 pat.Int pat.Int pat.Bool op.AtMost
    ∷ binary (codes ">") 4 pat.Int pat.Int pat.Bool op.Greater
    ∷ binary (codes ">=") 4 pat.Int pat.Int pat.Bool op.AtLeast
    ∷ binary (codes "in") 4 pat.Any pat.SetOfAny pat.Bool op.Elem
    ∷ may_be_wide (binary (codes "+") 5 pat.Int pat.Int pat.Int op.Add)
    ∷ may_be_wide (binary (codes "-") 5 pat.Int pat.Int pat.Int op.Subtract)
    ∷ binary (codes "union") 5 pat.SetOfAny pat.SetOfAny pat.SetOfAny op.Union
    ∷ binary (codes "less") 5 pat.SetOfAny pat.SetOfAny pat.SetOfAny op.Without
    ∷ may_be_wide (binary (codes "*") 6 pat.Int pat.Int pat.Int op.Multiply)
    ∷ may_divide_by_zero (may_be_wide (binary (codes "div") 6 pat.Int pat.Int pat.Int op.Div))
    ∷ may_divide_by_zero (binary (codes "mod") 6 pat.Int pat.Int pat.Int op.Mod)
    ∷ binary (codes "inter") 6 pat.SetOfAny pat.SetOfAny pat.SetOfAny op.Inter
    ∷ may_be_wide (unary (codes "~") 7 pat.Int pat.Int op.Negate)
    ∷ unary (codes "size") 8 pat.SetOfAny pat.Int op.Size
    ∷ record (unary (codes "cond") 8 pat.Bool pat.Any op.Cond) { arity = 3; args = pat.Bool ∷ pat.Any ∷ pat.Any ∷ [] }
    ∷ binary (codes "xor") 1 pat.Bool pat.Bool pat.Bool op.Xor
    ∷ binary (codes "implies") 1 pat.Bool pat.Bool pat.Bool op.Implies
    ∷ binary (codes "subset") 4 pat.SetOfAny pat.SetOfAny pat.Bool op.Subset
    ∷ binary (codes "min") 8 pat.Int pat.Int pat.Int op.Min
    ∷ binary (codes "max") 8 pat.Int pat.Int pat.Int op.Max
    ∷ may_be_wide (unary (codes "abs") 8 pat.Int pat.Int op.Abs)
    ∷ []
