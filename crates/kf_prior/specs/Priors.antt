-- Believed by who reads what is said of all priors: what is seen of a program where its initial stores are as likely as a prior says.
use Rattle.std.specs.Prelude.{◌≡◌, ℕ, ◌+◌, ◌*◌, ℤ, pos, ◌+ℤ◌, List, [], ◌∷◌, ◌++◌, map, take, drop, length}
use Rattle.kf_value.specs.Types.{count, product}
use Rattle.kf_column.specs.declared.entry.Entry.{Entry}
use Rattle.kf_column.specs.Traces.{Row}
use Rattle.kf_core.specs.Joint.{Cell, cells, target_number}
use Rattle.kf_core.specs.Programs.{ProgramTree}
use Rattle.kf_core.specs.Rows.{AreRowsOf}
use Rattle.kf_core.specs.Runs.{all_runs, copied}
use Rattle.kf_core.specs.Scale.{scale_of}
use Rattle.kf_core.specs.Sts.{sts}
use Rattle.kf_gain.specs.Gains.{GainOf, TableTree}
use Rattle.kf_gain.specs.Worth.{IsVulnerability}

-- how many stores the declared variables have
abbrev pub initial_count : ProgramTree → ℕ
initial_count p = product (map count (take (length p.decls) p.types))

-- the store in which the declared variables have their x-th values, counted from 0, and the carried copies are set
abbrev pub begun : ProgramTree → ℕ → ℕ
begun p x = copied p (x * product (map count (drop (length p.decls) p.types)))

-- the cells of a program whose x-th initial store, and those behind it, have these weights, over the scale of all runs; each run of the
-- statements takes its share of the weight to its trace and its target value
abbrev pub cells_from : ℕ → ProgramTree → ℕ → List ℕ → List Cell
cells_from turns p x [] = []
cells_from turns p x (w ∷ ws) =
    cells (target_number p) (w * scale_of turns p) (all_runs p.types turns (sts p.body) (begun p x)) ++ cells_from turns p (x + 1) ws

-- the cells of a program at a prior
abbrev pub cells_at : ℕ → ProgramTree → List ℕ → List Cell
cells_at turns p prior = cells_from turns p 0 prior

-- the sum of the vulnerabilities of columns
abbrev pub AreWorth : GainOf TableTree → List (List Entry) → ℤ → Type 0
AreWorth g [] z = z ≡ pos 0
AreWorth g (c ∷ columns) z = (first others : ℤ) × IsVulnerability g c first × AreWorth g columns others × (z ≡ first +ℤ others)

-- the posterior vulnerability of a program at a prior, over the scale of all runs: one column for each trace
pub record IsPosteriorAt (turns : ℕ) (p : ProgramTree) (prior : List ℕ) (g : GainOf TableTree) (z : ℤ) : Type 0 where
  pub rows : List Row
  pub are_rows : AreRowsOf (cells_at turns p prior) rows
  pub is_worth : AreWorth g (map (λ r. r.column) rows) z
