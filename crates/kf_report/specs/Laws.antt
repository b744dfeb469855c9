-- For bodies: laws of the numbers of a report.
use Rattle.std.specs.Prelude.{◌≡◌, ℕ, List}
use Rattle.kf_column.specs.Hypers.{Inner}
use Rattle.kf_gain.specs.Gains.{GainOf, TableTree}
use Rattle.kf_gain.specs.Laws.{HasActions}
use Rattle.kf_report.specs.Reports.{Leakage, IsLeakage}

-- any inners have a report's numbers
abbrev pub SomeLeakage : Type 0
SomeLeakage = (g : GainOf TableTree) (scale : ℕ) (inners : List Inner) → HasActions g → (l : Leakage) × IsLeakage g scale inners l

-- and only one's
abbrev pub OneLeakage : Type 0
OneLeakage = (g : GainOf TableTree) (scale : ℕ) (inners : List Inner) (k l : Leakage) → IsLeakage g scale inners k → IsLeakage g scale inners l → k ≡ l
