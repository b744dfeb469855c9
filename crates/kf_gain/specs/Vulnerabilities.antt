-- Believed: prior and posterior vulnerability of a hyper, and how wide their numbers can be (Alvim et al. 2020).
use Rattle.std.specs.Prelude.{◌≡◌, ℕ, ◌*◌, ◌<◌, All, max, ℤ, pos, ◌+ℤ◌, unsigned_abs, List, [], ◌∷◌, map, flat_map, length}
use Rattle.std.specs.List.Sorted.{IsStrictlyIncreasing}
use Rattle.kf_column.specs.declared.entry.Entry.{Entry}
use Rattle.kf_column.specs.Columns.{weight_at, values}
use Rattle.kf_column.specs.Hypers.{Inner}
use Rattle.kf_column.specs.Averages.{joint_column, average_weight}
use Rattle.kf_gain.specs.Gains.{GainOf, Guessing, Table, TableTree}
use Rattle.kf_gain.specs.Worth.{IsVulnerability}
use mathlib.Core.List.{foldr}

-- the sum of all columns: what is known before anything is seen; it names the values of weight, ascending
pub record IsAverage (inners : List Inner) (column : List Entry) : Type 0 where
  pub ascending : IsStrictlyIncreasing (values column)
  pub positive : All (λ e. 0 < e.weight) column
  pub weights : (x : ℕ) → weight_at column x ≡ average_weight inners x

-- the vulnerability of that sum
pub record IsPrior (g : GainOf TableTree) (inners : List Inner) (z : ℤ) : Type 0 where
  pub average : List Entry
  pub is_average : IsAverage inners average
  pub is : IsVulnerability g average z

-- the sum of the vulnerabilities of the inners' columns
abbrev pub IsPosterior : GainOf TableTree → List Inner → ℤ → Type 0
IsPosterior g [] z = z ≡ pos 0
IsPosterior g (i ∷ inners) z =
    (first others : ℤ) × IsVulnerability g (joint_column i) first × IsPosterior g inners others × (z ≡ first +ℤ others)

-- the greatest absolute value
abbrev pub greatest : List ℤ → ℕ
greatest zs = foldr max 0 (map unsigned_abs zs)

-- all gains that a table has
abbrev pub gains_of : TableTree → List ℤ
gains_of t = t.rest ∷ flat_map (λ a. map (λ e. e.gain) a.gains) t.actions

-- how wide a gain is on a column of so many values: no number of a report passes the scale times this
abbrev pub width : GainOf TableTree → ℕ → ℕ
width Guessing count = count
width (Table t) count = max t.over (2 * greatest (gains_of t))
width g count = 1

-- the width of a gain on a hyper: it looks at the values that have weight before anything is seen
pub record IsWidth (g : GainOf TableTree) (inners : List Inner) (m : ℕ) : Type 0 where
  pub average : List Entry
  pub is_average : IsAverage inners average
  pub is : m ≡ width g (length average)
