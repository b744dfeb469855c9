-- For bodies: the lines of capacities by the call's own fractions.
use Rattle.std.specs.Prelude.{ℕ, List, ◌++◌, length, codes, decimal}
use Rattle.kf_frac.specs.declared.frac.Frac.{Frac}
use Rattle.kf_capacity.specs.Grids.{GridTree}
use Rattle.kf_text.specs.Texts.{line}
use Rattle.kf_text.specs.Views.{own_text}

abbrev pub own_capacity_line : Frac → List ℕ
own_capacity_line f = line (codes "capacity " ++ own_text f)

-- the lines of a size and of three capacities
abbrev pub own_algebra_lines : GridTree → Frac → Frac → Frac → List ℕ
own_algebra_lines g first second both =
    line (codes "rows " ++ decimal g.rows)
    ++ (line (codes "columns " ++ decimal (length g.columns))
    ++ (line (codes "first " ++ own_text first) ++ (line (codes "second " ++ own_text second) ++ line (codes "both " ++ own_text both))))
