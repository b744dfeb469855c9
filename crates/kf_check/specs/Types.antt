-- Believed: the rules of types: what a type is as it is written, or its first broken rule, inner parts first and from left to right.
use Rattle.std.specs.Prelude.{◌≡◌, ℕ, ◌≤◌, true, List, [], ◌∷◌}
use Rattle.kf_ast.specs.TypeForms.{TypeForm, TypeShape, TypeForms, type_at, no_types, more_types}
use Rattle.kf_ast.specs.TypeForms as form
use Rattle.kf_value.specs.Types.{TypeTree, Boolean, Range, TupleOf, SetOf, type_parts, in_bounds, count}
use Rattle.kf_check.specs.declared.errors.TypeError.TheVariants as broken
use Rattle.kf_check.specs.Judgements.{Judgement, Is, Where, After}

-- a type may have 65,536 values; the base of a set 16
abbrev pub greatest_size : ℕ
greatest_size = 65536

-- a type that is written here, if it has at most so many values
abbrev pub Sized : ℕ → ℕ → TypeTree → Judgement TypeTree
Sized limit at t = Where (count t ≤ limit) t (broken.TypeTooLarge at)

abbrev mutual
  -- a type that may have so many values
  pub JudgesType : ℕ → TypeForm → Judgement TypeTree
  JudgesType limit (type_at at shape) = JudgesTypeShape limit at shape

  pub JudgesTypeShape : ℕ → ℕ → TypeShape → Judgement TypeTree
  JudgesTypeShape limit at form.Boolean = Is Boolean
  JudgesTypeShape limit at (form.Range lo hi) =
      After (Where (in_bounds lo hi ≡ true) (Range lo hi) (broken.BadRange at)) (Sized limit at)
  JudgesTypeShape limit at (form.TupleOf xs) = After (JudgesTypes xs) (λ ts. Sized limit at (TupleOf (type_parts ts)))
  JudgesTypeShape limit at (form.SetOf x) = After (JudgesType 16 x) (λ t. Sized limit at (SetOf t))

  -- the parts of a tuple
  pub JudgesTypes : TypeForms → Judgement (List TypeTree)
  JudgesTypes no_types = Is []
  JudgesTypes (more_types x xs) = After (JudgesType greatest_size x) (λ t. After (JudgesTypes xs) (λ ts. Is (t ∷ ts)))
