-- Believed: printed capacities, and those of composed channels.
use Rattle.std.specs.Prelude.{ℕ, pos, List, ◌++◌, length, codes, decimal}
use Rattle.kf_frac.specs.Fractions.{fraction_text}
use Rattle.kf_capacity.specs.Grids.{GridTree, capacity_of}
use Rattle.kf_text.specs.Texts.{line}

-- a grid's capacity as a fraction
abbrev pub capacity_fraction : GridTree → List ℕ
capacity_fraction g = fraction_text (pos (capacity_of g)) g.over

abbrev pub capacity_text : GridTree → List ℕ
capacity_text g = line (codes "capacity " ++ capacity_fraction g)

-- how many rows and columns two channels have together, and the capacities of the first, of the second and of both
abbrev pub algebra_text : GridTree → GridTree → GridTree → List ℕ
algebra_text first second both =
    line (codes "rows " ++ decimal both.rows)
    ++ (line (codes "columns " ++ decimal (length both.columns))
    ++ (line (codes "first " ++ capacity_fraction first)
    ++ (line (codes "second " ++ capacity_fraction second) ++ line (codes "both " ++ capacity_fraction both))))
