-- Believed: printed lines.
use Rattle.std.specs.Prelude.{ℕ, List, ◌∷◌, ◌++◌, codes, decimal, flat_map}
use Rattle.kf_lines.specs.Summaries.{LineTree, LinesTree}
use Rattle.kf_load.specs.Place.{line_at, column_at}
use Rattle.kf_text.specs.BlameTexts.{summary_line}

-- what is left where the statement that begins at a byte is silent, with the line and the column of that byte
abbrev pub line_text : List ℕ → ℕ → LineTree → List ℕ
line_text bytes whole l =
    summary_line (codes " posterior ") whole (decimal (line_at bytes l.at) ++ 58 ∷ decimal (column_at bytes l.at)) l.left

-- the summary of the whole program, then that of each line
abbrev pub lines_text : List ℕ → ℕ → LinesTree → List ℕ
lines_text bytes whole l = summary_line (codes " posterior ") whole (codes "all") l.all ++ flat_map (line_text bytes whole) l.lines
