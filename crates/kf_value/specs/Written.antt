-- For bodies: texts that are written piece by piece.
use Rattle.std.specs.Prelude.{ℕ, List, [], ◌∷◌, ◌++◌}
use Rattle.kf_value.specs.Texts.{separated}

-- the texts with a comma and a space between them, and an end behind the last; of no text nothing
abbrev pub ended : List ℕ → List (List ℕ) → List ℕ
ended end [] = []
ended end (t ∷ ts) = separated (t ∷ ts) ++ end
