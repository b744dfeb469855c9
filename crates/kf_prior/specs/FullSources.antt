-- Believed: the full source of a source: each initial store is equally likely, and the target is what each variable is before the
-- statements and behind them.
use Rattle.std.specs.Prelude.{ℕ, ℤ, pos, negsuc, suc, Bool, true, false, List, [], ◌∷◌, ◌++◌, map, take, length, get_or}
use Rattle.std.specs.List.{zip}
use Rattle.kf_value.specs.Values.{ValueTree, truth, whole, elements, parts_list}
use Rattle.kf_value.specs.Values as value
use Rattle.kf_value.specs.Types.{TypeTree, TypeTrees, Boolean, Range, TupleOf, no_type, more_types, values, count, product}
use Rattle.kf_value.specs.Types as type
use Rattle.kf_ops.specs.Places.{number_of}
use Rattle.kf_ops.specs.declared.row.Op.TheVariants as op
use Rattle.kf_ast.specs.Exprs.{ExprTree, expr_at, Number, Truth, Apply, Tuple, SetOf, exprs}
use Rattle.kf_ast.specs.Dists.{DistTree, dist_at, UniformSet, UniformRange}
use Rattle.kf_ast.specs.Sources.{DeclTree, declared, ItemTree, item, SourceTree, source}
use Rattle.kf_check.specs.Kinds.{dist_place}

-- a whole number as it is written, a negative one as its distance from 0 behind a `-`
abbrev pub whole_literal : ℕ → ℤ → ExprTree
whole_literal at (pos n) = expr_at at (Number n)
whole_literal at (negsuc n) = expr_at at (Apply (number_of op.Negate) (exprs (expr_at at (Number (suc n)) ∷ [])))

-- the set of one value
abbrev pub only : ℕ → ExprTree → ExprTree
only at x = expr_at at (SetOf (exprs (x ∷ [])))

-- a set as it is written, that of no elements as the set of one value less itself
abbrev pub set_literal : ℕ → ExprTree → List ExprTree → ExprTree
set_literal at least [] = expr_at at (Apply (number_of op.Without) (exprs (only at least ∷ only at least ∷ [])))
set_literal at least (x ∷ xs) = expr_at at (SetOf (exprs (x ∷ xs)))

abbrev pub parts_of : ValueTree → List ValueTree
parts_of (value.Tuple vs) = parts_list vs
parts_of v = []

-- a value of a type as it is written, all at one place
abbrev mutual
  pub literal : ℕ → TypeTree → ValueTree → ExprTree
  literal at Boolean v = expr_at at (Truth (truth v))
  literal at (Range lo hi) v = whole_literal at (whole v)
  literal at (TupleOf ts) v = expr_at at (Tuple (exprs (part_literals at ts (parts_of v))))
  literal at (type.SetOf base) v =
      set_literal at (literal at base (get_or (values base) 0 (value.Truth false))) (map (literal at base) (elements v))

  -- one for each type, as long as there are values
  pub part_literals : ℕ → TypeTrees → List ValueTree → List ExprTree
  part_literals at no_type vs = []
  part_literals at (more_types t ts) [] = []
  part_literals at (more_types t ts) (v ∷ vs) = literal at t v ∷ part_literals at ts vs

-- each value of a type alike
abbrev pub uniform_over : ℕ → TypeTree → DistTree
uniform_over at (Range lo hi) = dist_at at (UniformRange (whole_literal at lo) (whole_literal at hi))
uniform_over at t = dist_at at (UniformSet (expr_at at (SetOf (exprs (map (literal at t) (values t))))))

-- a declaration of a variable of the type, each first value alike
abbrev pub full_decl : TypeTree → DeclTree → DeclTree
full_decl t (declared visible n y d) = declared visible n y (uniform_over (dist_place d) t)

-- the declared variable as an item of a target: what it is before the statements, or behind them
abbrev pub item_for : Bool → DeclTree → ItemTree
item_for initial (declared visible n y d) = item initial n

-- the full source of a source whose declared variables have the first of these types
abbrev pub full_source : List TypeTree → SourceTree → SourceTree
full_source ts (source ds is body) =
    source (map (λ p. full_decl p.0 p.1) (zip ts ds)) (map (item_for true) ds ++ map (item_for false) ds) body

-- how many initial stores it has
abbrev pub initial_stores : List TypeTree → SourceTree → ℕ
initial_stores ts (source ds is body) = product (map count (take (length ds) ts))
