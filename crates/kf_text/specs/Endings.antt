-- For bodies: how the lines of values end.
use Rattle.std.specs.Prelude.{ℕ, pos, List, [], ◌∷◌, ◌++◌, codes}
use Rattle.kf_frac.specs.Fractions.{fraction_text}

-- the weight of a value over the whole, behind the value
abbrev pub line_end : ℕ → ℕ → List ℕ
line_end whole weight = codes " " ++ (fraction_text (pos weight) whole ++ 10 ∷ [])
