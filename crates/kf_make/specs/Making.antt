-- Believed: the text that `make` runs: six hidden bits, and so many noisy observations of their parity.
use Rattle.std.specs.Prelude.{ℕ, List, [], ◌∷◌, ◌++◌, codes}
use Rattle.std.specs.List.{repeat}

-- 64 values, each alike, and their parity, turned round once in four times
abbrev pub make_source : ℕ → List ℕ
make_source count =
    (codes "var x : 0..63 := uniform 0..63;" ++ 10 ∷ [])
    ++ repeat count (codes "observe choose { x mod 2 : 3, 1 - x mod 2 : 1 };" ++ 10 ∷ [])
