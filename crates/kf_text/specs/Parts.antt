-- For bodies: parts of printed texts, by the names of the functions that print them.
use Rattle.std.specs.Prelude.{ℕ, List, flat_map, map, pos, ◌++◌, codes, None, length, decimal, [], slice_index_or}
use Rattle.std.specs.Fmt.{signed_decimal}
use Rattle.std.specs.List.{enumerate_from, zip, last_or, join_by}
use Rattle.std.specs.Option.{option_map_or}
use Rattle.kf_value.specs.Targets.{Item, target_value_text}
use Rattle.kf_column.specs.Hypers.{Inner}
use Rattle.kf_column.specs.Traces.{Row, share_at}
use Rattle.kf_gain.specs.declared.table.Action.{Action}
use Rattle.kf_gain.specs.declared.table.GainEntry.{GainEntry}
use Rattle.kf_gain.specs.Gains.{TableTree}
use Rattle.kf_attack.specs.Attacks.{AttackTree, NamedGain}
use Rattle.kf_quiet.specs.Summaries.{SummaryTree}
use Rattle.kf_text.specs.AttackTexts.{attack_lines}
use Rattle.kf_text.specs.BlameTexts.{summary_line}
use Rattle.kf_text.specs.Texts.{bracketed, line, secret_lines, target_line, size_lines}
use Rattle.kf_text.specs.VerdictTexts.{action_lines}
use Rattle.kf_frac.specs.Fractions.{fraction_text}
use Rattle.kf_refine.specs.Refinements.{Fraction}

-- those of each inner, numbered from n on
abbrev pub all_lines : List Item → ℕ → ℕ → List Inner → List AttackTree → List ℕ
all_lines target scale n inners attacks = flat_map (λ x. attack_lines target scale x.0 x.1.0 x.1.1) (enumerate_from n (zip inners attacks))

-- the total of the last inner; 0 where there is none
abbrev pub last_total : List Inner → ℕ
last_total inners = option_map_or (λ (i : Inner). i.total) (last_or None inners) 0

-- the outer of the last inner
abbrev pub last_line : ℕ → List Inner → List ℕ
last_line scale inners = line (codes "last " ++ fraction_text (pos (last_total inners)) scale)

-- the target, the scale and how many traces there are
abbrev pub table_lines : List Item → ℕ → ℕ → List ℕ
table_lines target scale count = target_line target ++ (line (codes "scale " ++ decimal scale) ++ line (codes "traces " ++ decimal count))

-- a place, and how many beliefs stand there
abbrev pub count_line : ℕ × ℕ → List ℕ
count_line numbered = line (codes "after " ++ (decimal numbered.0 ++ (codes " inners " ++ decimal numbered.1)))

-- two spaces, and the probability that a secret shows this trace
abbrev pub cell_line : List Row → ℕ → Row → List ℕ
cell_line rows x row = line (codes "  " ++ fraction_text (pos (share_at rows row x).part) (share_at rows row x).whole)

-- a column's number and trace
abbrev pub column_line : ℕ × Row → List ℕ
column_line numbered = line (codes "column " ++ (decimal numbered.0 ++ (codes " " ++ bracketed numbered.1.trace)))

-- how many traces there are, and each with its number from 0
abbrev pub columns_lines : List Row → List ℕ
columns_lines rows = line (codes "columns " ++ decimal (length rows)) ++ flat_map column_line (enumerate_from 0 rows)

-- how many secrets there are, and each
abbrev pub rows_lines : List Item → List Row → List ℕ → List ℕ
rows_lines target rows secrets = line (codes "rows " ++ decimal (length secrets)) ++ flat_map (secret_lines target rows) secrets

-- the target before these
abbrev pub head_lines : List Item → ℕ → ℕ → List ℕ
head_lines target scale count = target_line target ++ size_lines scale count

-- two spaces, an action's name, and what it gains over `whole`
abbrev pub score_line : ℕ → NamedGain → List ℕ
score_line whole s = line (codes "  " ++ (s.name ++ (codes " " ++ fraction_text s.gain whole)))

-- what it is a blame of, how many inners there are, and the posterior Bayes vulnerability
abbrev pub blame_line : ℕ → List ℕ → SummaryTree → List ℕ
blame_line scale name b = summary_line (codes " bayes ") scale name b

-- where the outermost statement of this number is quiet
abbrev pub without_line : ℕ → ℕ × SummaryTree → List ℕ
without_line scale numbered = blame_line scale (codes "without " ++ decimal numbered.0) numbered.1

-- texts with a space between them
abbrev pub spaced : List (List ℕ) → List ℕ
spaced ts = join_by (λ t. t) (codes " ") ts

-- the fractions of a row, with a space between them
abbrev pub fractions_line : List Fraction → List ℕ
fractions_line row = line (spaced (map (λ f. fraction_text f.num f.den) row))

-- how many columns a matrix has; its rows are alike
abbrev pub width : List (List Fraction) → ℕ
width rows = length (slice_index_or rows 0 [])

-- how many rows and columns a matrix has
abbrev pub shape_line : ℕ → ℕ → List ℕ
shape_line rows columns = line (codes "matrix " ++ (decimal rows ++ (codes " " ++ decimal columns)))

-- a yes: how many rows and columns its matrix has, and the rows
abbrev pub yes_text : List (List Fraction) → List ℕ
yes_text rows = line (codes "refines yes") ++ (shape_line (length rows) (width rows) ++ flat_map fractions_line rows)

-- two spaces, a value, and what an action gains there
abbrev pub gain_line : List Item → GainEntry → List ℕ
gain_line target e = line (codes "  " ++ (target_value_text target e.value ++ (codes " " ++ signed_decimal e.gain)))

-- how many actions there are, and each
abbrev pub actions_lines : List Item → List Action → List ℕ
actions_lines target actions = line (codes "actions " ++ decimal (length actions)) ++ flat_map (action_lines target) actions

-- a no: the numbers of a table, and its actions
abbrev pub no_text : List Item → TableTree → List ℕ
no_text target t =
    line (codes "refines no")
    ++ (line (codes "over " ++ decimal t.over) ++ (line (codes "rest " ++ signed_decimal t.rest) ++ actions_lines target t.actions))

-- the lines of a report, by the texts of its numbers
abbrev pub report_lines : List ℕ → List ℕ → List ℕ → List ℕ → List ℕ → List ℕ
report_lines gain prior posterior quotient difference =
    line (codes "gain " ++ gain)
    ++ (line (codes "prior " ++ prior)
    ++ (line (codes "posterior " ++ posterior)
    ++ (line (codes "quotient " ++ quotient) ++ line (codes "difference " ++ difference))))
