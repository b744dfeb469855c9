-- What holds of the row of each operator holds of all rows.
use Rattle.std.proofs.Common.{◌≡◌, ℕ, List, [], ◌∷◌, map, get_or, refl, subst}
use Rattle.std.specs.List.{AllByRecursion as Each}
use Rattle.kf_ops.specs.Rows.{Row, operators, unary}
use Rattle.kf_ops.specs.Places.{IsRow, number_of}
use Rattle.kf_ops.specs.Table.{codes_of}
use Rattle.kf_ops.specs.declared.row.Op.{Op}
use Rattle.kf_ops.specs.declared.row.Op.TheVariants as op
use Rattle.kf_ops.specs.declared.row.Pat.{Pat}
use Rattle.kf_ops.specs.declared.row.Pat.TheVariants as pat

-- the row at the operator's number
abbrev pub row_at : Op → Row
row_at code = get_or operators (number_of code) (unary [] 0 pat.Nothing pat.Nothing code)

pub there : (code : Op) → IsRow (number_of code) (row_at code)
there op.Or = refl
there _ = refl

-- what it takes in this place
abbrev pub arg_at : Op → ℕ → Pat
arg_at code i = get_or (row_at code).args i pat.Nothing

module _ (P : Row → Type 0) (holds : (code : Op) → P (row_at code)) where
  each_at : (codes : List Op) → Each P (map row_at codes)
  each_at [] = tt
  each_at (code ∷ codes) = (holds code, each_at codes)

  pub each_row : Each P operators
  each_row = let same : map row_at (codes_of operators) ≡ operators = refl in subst (Each P) same (each_at (codes_of operators))
