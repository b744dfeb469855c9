-- For bodies: laws of vulnerabilities.
use Rattle.std.specs.Prelude.{◌≡◌, ◌≢◌, ℕ, ◌*◌, ◌≤◌, ℤ, pos, ◌*ℤ◌, ◌-ℤ◌, ◌≤ℤ◌, unsigned_abs, List, [], map, length}
use Rattle.kf_column.specs.declared.entry.Entry.{Entry}
use Rattle.kf_column.specs.Hypers.{Inner}
use Rattle.kf_column.specs.Shapes.{IsShape}
use Rattle.kf_column.specs.Averages.{scaled}
use Rattle.kf_gain.specs.Gains.{GainOf, Bayes, Table, TableTree, over_of}
use Rattle.kf_gain.specs.Worth.{IsVulnerability, NoBetter}
use Rattle.kf_gain.specs.Vulnerabilities.{IsAverage, IsPrior, IsPosterior, IsWidth}

-- a table has at least one action
abbrev pub HasActions : GainOf TableTree → Type 0
HasActions (Table t) = t.actions ≢ []
HasActions g = Unit {0}

-- every column has a vulnerability
abbrev pub SomeVulnerability : Type 0
SomeVulnerability = (g : GainOf TableTree) (column : List Entry) → HasActions g → (z : ℤ) × IsVulnerability g column z

-- and only one
abbrev pub OneVulnerability : Type 0
OneVulnerability = (g : GainOf TableTree) (column : List Entry) (y z : ℤ) → IsVulnerability g column y → IsVulnerability g column z → y ≡ z

-- it grows with the column's weights
abbrev pub VulnerabilityScales : Type 0
VulnerabilityScales = (g : GainOf TableTree) (column : List Entry) (k : ℕ) (z : ℤ) → IsVulnerability g column z
    → IsVulnerability g (map (scaled k) column) (pos k *ℤ z)

-- any inners have a sum
abbrev pub SomeAverage : Type 0
SomeAverage = (inners : List Inner) → (column : List Entry) × IsAverage inners column

-- and only one
abbrev pub OneAverage : Type 0
OneAverage = (inners : List Inner) (c d : List Entry) → IsAverage inners c → IsAverage inners d → c ≡ d

-- no program leaks less than nothing: what is seen never makes the best action worse
abbrev pub NothingIsLost : Type 0
NothingIsLost = (size scale : ℕ) (g : GainOf TableTree) (inners : List Inner) (y z : ℤ) → IsShape size scale inners
    → IsPrior g inners y → IsPosterior g inners z → NoBetter g y z

-- with one guess no more is gained than as many times as there are inners
abbrev pub BayesIsBounded : Type 0
BayesIsBounded = (size scale : ℕ) (inners : List Inner) (y z : ℤ) → IsShape size scale inners
    → IsPrior Bayes inners y → IsPosterior Bayes inners z → z ≤ℤ (pos (length inners) *ℤ y)

-- any inners have a prior and a posterior vulnerability
abbrev pub SomeReport : Type 0
SomeReport = (g : GainOf TableTree) (inners : List Inner) → HasActions g
    → ((y : ℤ) × IsPrior g inners y) × ((z : ℤ) × IsPosterior g inners z)

-- and only one of each
abbrev pub OneReport : Type 0
OneReport = (g : GainOf TableTree) (inners : List Inner) (x y : ℤ)
    → (IsPrior g inners x → IsPrior g inners y → x ≡ y) × (IsPosterior g inners x → IsPosterior g inners y → x ≡ y)

-- no number of a report, nor their difference, passes the scale times the width
abbrev pub WidthBounds : Type 0
WidthBounds = (size scale m : ℕ) (g : GainOf TableTree) (inners : List Inner) (y z : ℤ) → IsShape size scale inners → IsWidth g inners m
    → IsPrior g inners y → IsPosterior g inners z
    → (unsigned_abs y ≤ scale * m) × (unsigned_abs z ≤ scale * m) × (unsigned_abs (z -ℤ y) ≤ scale * m) × (scale * over_of g ≤ scale * m)
