-- Believed: types as they are written, each part with its place.
use Rattle.std.specs.Prelude.{ℕ, ℤ, List}
use mathlib.Core.List.{foldr}

mutual
  -- a place and what stands there
  pub data TypeForm : Type 0 where
    type_at : ℕ → TypeShape → TypeForm

  pub data TypeShape : Type 0 where
    Boolean : TypeShape
    Range : ℤ → ℤ → TypeShape
    TupleOf : TypeForms → TypeShape
    SetOf : TypeForm → TypeShape

  pub data TypeForms : Type 0 where
    no_types : TypeForms
    more_types : TypeForm → TypeForms → TypeForms

abbrev pub types : List TypeForm → TypeForms
types ts = foldr more_types no_types ts
