-- For bodies: what blames print as, by their own fractions.
use Rattle.std.specs.Prelude.{ℕ, List, [], ◌∷◌, ◌++◌, codes, decimal, flat_map}
use Rattle.std.specs.List.{enumerate_from}
use Rattle.kf_quiet.specs.declared.blame.Blame.{Blame}
use Rattle.kf_text.specs.Texts.{line}
use Rattle.kf_text.specs.Views.{own_text}

-- what it is a blame of, how many inners there are, and the posterior Bayes vulnerability
abbrev pub own_blame_line : List ℕ → Blame → List ℕ
own_blame_line name b = line (name ++ (codes " inners " ++ (decimal b.inners ++ (codes " bayes " ++ own_text b.bayes))))

-- where the outermost statement of this number is quiet
abbrev pub own_without_line : ℕ × Blame → List ℕ
own_without_line numbered = own_blame_line (codes "without " ++ decimal numbered.0) numbered.1

abbrev pub own_blame_text : List Blame → List ℕ
own_blame_text [] = []
own_blame_text (all ∷ others) = own_blame_line (codes "all") all ++ flat_map own_without_line (enumerate_from 0 others)
