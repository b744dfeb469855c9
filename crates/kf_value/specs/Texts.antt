-- Believed: what a value prints as.
use Rattle.std.specs.Prelude.{ℕ, List, [], ◌∷◌, ◌++◌, codes, if◌then◌else◌}
use Rattle.std.specs.Fmt.{signed_decimal}
use Rattle.std.specs.List.{join_by}
use Rattle.kf_value.specs.Values.{ValueTree, ValueTrees, Truth, Whole, Tuple, Set, no_value, more_values}

-- texts with a comma and a space between them
abbrev pub separated : List (List ℕ) → List ℕ
separated ts = join_by (λ t. t) (codes ", ") ts

-- `true`, `-7`, `(1, true)`, `{0, 2}`, `{}`
abbrev mutual
  pub text : ValueTree → List ℕ
  text (Truth b) = if b then codes "true" else codes "false"
  text (Whole i) = signed_decimal i
  text (Tuple vs) = codes "(" ++ (separated (texts vs) ++ codes ")")
  text (Set vs) = codes "{" ++ (separated (texts vs) ++ codes "}")

  pub texts : ValueTrees → List (List ℕ)
  texts no_value = []
  texts (more_values v vs) = text v ∷ texts vs
