-- Believed: the line of a summary, and printed blames.
use Rattle.std.specs.Prelude.{ℕ, List, [], ◌∷◌, ◌++◌, codes, decimal, flat_map}
use Rattle.std.specs.List.{enumerate_from}
use Rattle.kf_frac.specs.Fractions.{fraction_text}
use Rattle.kf_text.specs.Texts.{line}
use Rattle.kf_quiet.specs.Summaries.{SummaryTree}

-- what it is a summary of, how many inners there are, and after this word the posterior vulnerability over `whole`
abbrev pub summary_line : List ℕ → ℕ → List ℕ → SummaryTree → List ℕ
summary_line word whole name s = line (name ++ (codes " inners " ++ (decimal s.inners ++ (word ++ fraction_text s.posterior whole))))

-- that of the whole program, then those without each outermost statement, with its number from 0
abbrev pub blame_text : ℕ → List SummaryTree → List ℕ
blame_text scale [] = []
blame_text scale (all ∷ others) =
    summary_line (codes " bayes ") scale (codes "all") all
    ++ flat_map (λ b. summary_line (codes " bayes ") scale (codes "without " ++ decimal b.0) b.1) (enumerate_from 0 others)
