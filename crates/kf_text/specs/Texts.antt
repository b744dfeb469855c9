-- Believed: printed hypers, tables of traces, channels, trails and summaries of made programs.
use Rattle.std.specs.Prelude.{ℕ, pos, List, [], ◌∷◌, ◌++◌, length, codes, decimal, flat_map, map, None}
use Rattle.std.specs.List.{enumerate_from, last_or}
use Rattle.std.specs.Option.{option_map_or}
use Rattle.kf_frac.specs.Fractions.{fraction_text}
use Rattle.kf_value.specs.Values.{ValueTree}
use Rattle.kf_value.specs.Texts.{text, separated}
use Rattle.kf_value.specs.Targets.{Item, target_text, target_value_text}
use Rattle.kf_column.specs.declared.entry.Entry.{Entry}
use Rattle.kf_column.specs.Columns.{total}
use Rattle.kf_column.specs.Hypers.{Inner}
use Rattle.kf_column.specs.Traces.{Row, share_at}

-- a line is ended by LF
abbrev pub line : List ℕ → List ℕ
line text = text ++ 10 ∷ []

-- what a text is about
abbrev pub target_line : List Item → List ℕ
target_line target = line (codes "target " ++ target_text target)

-- two spaces, a value, and its weight over `whole`, which in an inner is the sum of its weights
abbrev pub entry_line : List Item → ℕ → Entry → List ℕ
entry_line target whole e = line (codes "  " ++ (target_value_text target e.value ++ (codes " " ++ fraction_text (pos e.weight) whole)))

-- an inner's number and outer, then its values
abbrev pub inner_lines : List Item → ℕ → ℕ × Inner → List ℕ
inner_lines target scale numbered =
    line (codes "inner " ++ (decimal numbered.0 ++ (codes " outer " ++ fraction_text (pos numbered.1.total) scale)))
    ++ flat_map (entry_line target (total numbered.1.entries)) numbered.1.entries

-- the scale, and how many inners there are
abbrev pub size_lines : ℕ → ℕ → List ℕ
size_lines scale count = line (codes "scale " ++ decimal scale) ++ line (codes "inners " ++ decimal count)

-- the target, these, and each inner with its number from 0
abbrev pub hyper_text : List Item → ℕ → List Inner → List ℕ
hyper_text target scale inners =
    (target_line target ++ size_lines scale (length inners)) ++ flat_map (inner_lines target scale) (enumerate_from 0 inners)

-- a trace: its values in brackets, a comma and a space between them
abbrev pub bracketed : List ValueTree → List ℕ
bracketed trace = codes "[" ++ (separated (map text trace) ++ codes "]")

-- a trace and its probability, then its values, each with the probability of this trace and the value
abbrev pub row_lines : List Item → ℕ → Row → List ℕ
row_lines target scale row =
    line (codes "trace " ++ (bracketed row.trace ++ (codes " weight " ++ fraction_text (pos (total row.column)) scale)))
    ++ flat_map (entry_line target scale) row.column

-- the target, the scale, how many traces there are, and each trace
abbrev pub trace_text : List Item → ℕ → List Row → List ℕ
trace_text target scale rows =
    (target_line target ++ (line (codes "scale " ++ decimal scale) ++ line (codes "traces " ++ decimal (length rows))))
    ++ flat_map (row_lines target scale) rows

-- a secret, and after two spaces the probability that it shows each trace
abbrev pub secret_lines : List Item → List Row → ℕ → List ℕ
secret_lines target rows x =
    line (codes "row " ++ target_value_text target x)
    ++ flat_map (λ row. line (codes "  " ++ fraction_text (pos (share_at rows row x).part) (share_at rows row x).whole)) rows

-- the target; how many traces there are, and each with its number from 0; how many secrets there are, and each
abbrev pub channel_text : List Item → List Row → List ℕ → List ℕ
channel_text target rows secrets =
    target_line target
    ++ ((line (codes "columns " ++ decimal (length rows))
    ++ flat_map (λ c. line (codes "column " ++ (decimal c.0 ++ (codes " " ++ bracketed c.1.trace)))) (enumerate_from 0 rows))
    ++ (line (codes "rows " ++ decimal (length secrets)) ++ flat_map (secret_lines target rows) secrets))

-- how many beliefs stand at each place, from 0
abbrev pub trail_text : List ℕ → List ℕ
trail_text counts = flat_map (λ c. line (codes "after " ++ (decimal c.0 ++ (codes " inners " ++ decimal c.1)))) (enumerate_from 0 counts)

-- how many observations there were, the scale and how many inners, and the outer of the last of these, 0 of none
abbrev pub make_text : ℕ → ℕ → List Inner → List ℕ
make_text count scale inners =
    line (codes "observations " ++ decimal count)
    ++ (size_lines scale (length inners)
    ++ line (codes "last " ++ fraction_text (pos (option_map_or (λ (i : Inner). i.total) (last_or None inners) 0)) scale))
