-- For bodies: the best that can be done at one inner, as it is shown.
use Rattle.std.specs.Prelude.{ℕ, ◌+◌, ◌*◌, ℤ, List, [], ◌∷◌}
use Rattle.kf_frac.specs.Parts.{IsFraction}
use Rattle.kf_column.specs.declared.entry.Entry.{Entry}
use Rattle.kf_column.specs.Columns.{total}
use Rattle.kf_gain.specs.Gains.{GainOf, TableTree, over_of}
use Rattle.kf_gain.specs.Worth.{IsVulnerability}
use Rattle.kf_attack.specs.Attacks.{BestTree, IsBest}
use Rattle.kf_attack.specs.Views.{ShowsBest, actions_of}
use Rattle.kf_attack.specs.declared.attack.Attack.{Attack}

-- what guesses in this order cost: weight times position, the first of which is n
abbrev pub cost_of : ℕ → List Entry → ℕ
cost_of n [] = 0
cost_of n (e ∷ es) = e.weight * n + cost_of (n + 1) es

-- the attack has the vulnerability of these entries, and the best that can be done
pub record IsShownBest (g : GainOf TableTree) (entries : List Entry) (a : Attack) : Type 0 where
  pub value : ℤ
  pub worth : IsVulnerability g entries value
  pub fraction : IsFraction a.worth value (total entries * over_of g)
  pub actions : BestTree
  pub best : IsBest g entries actions
  pub shown : ShowsBest (actions_of g) (total entries * over_of g) actions a.best
