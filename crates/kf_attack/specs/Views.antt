-- For bodies: what contracts see of attacks and of reaches.
use Rattle.std.specs.Prelude.{◌≡◌, ℕ, pos, ◌<◌, List, [], map, length, slice_index_or}
use Rattle.std.specs.List.{AllZip, range_with_len}
use Rattle.kf_frac.specs.Parts.{IsFraction}
use Rattle.kf_column.specs.declared.entry.Entry.{Entry}
use Rattle.kf_column.specs.Hypers.{Inner}
use Rattle.kf_gain.specs.Gains.{GainOf, Table, TableTree}
use Rattle.kf_gain.specs.declared.table.Action.{Action}
use Rattle.kf_gain.specs.Worth.{gained}
use Rattle.kf_attack.specs.Attacks.{AttackTree, BestTree, Values, Scores, NamedGain, ReachTree, IsAttack}
use Rattle.kf_attack.specs.declared.attack.Attack.{Attack}
use Rattle.kf_attack.specs.declared.attack.Best.{Best}
use Rattle.kf_attack.specs.declared.attack.Best.TheVariants as best
use Rattle.kf_attack.specs.declared.attack.Score.{Score}
use Rattle.kf_attack.specs.declared.attack.WeighedValue.{WeighedValue}
use Rattle.kf_attack.specs.declared.reach.Reach.{Reach}

-- a value with its probability
pub record ShowsValue (whole : ℕ) (e : Entry) (v : WeighedValue) : Type 0 where
  pub value : v.value ≡ e.value
  pub chance : IsFraction v.chance (pos e.weight) whole

-- the actions of a gain; only a table has some
abbrev pub actions_of : GainOf TableTree → List Action
actions_of (Table t) = t.actions
actions_of g = []

-- an action with its expected gain
pub record ShowsScore (actions : List Action) (whole : ℕ) (named : NamedGain) (s : Score) : Type 0 where
  pub within : s.action < length actions
  pub name : (slice_index_or actions s.action (record { name = []; gains = [] })).name ≡ named.name
  pub score : IsFraction s.score named.gain whole

-- each score is of the action at its own place
abbrev pub places : List Score → List ℕ
places scores = map (λ s. s.action) scores

abbrev pub ShowsBest : List Action → ℕ → BestTree → Best → Type 0
ShowsBest actions whole (Values es) (best.Values vs) = AllZip (ShowsValue whole) es vs
ShowsBest actions whole (Scores ss) (best.Scores scores) = AllZip (ShowsScore actions whole) ss scores × (places scores ≡ range_with_len 0 (length ss))
ShowsBest actions whole tree best = ⊥

-- the attack has these numbers, as fractions
pub record ShowsAttack (actions : List Action) (tree : AttackTree) (a : Attack) : Type 0 where
  pub worth : IsFraction a.worth tree.worth tree.whole
  pub best : ShowsBest actions tree.whole tree.best a.best

abbrev pub ShowAttacks : GainOf TableTree → List AttackTree → List Attack → Type 0
ShowAttacks g trees attacks = AllZip (ShowsAttack (actions_of g)) trees attacks

-- the reach has these numbers, as fractions of the scale
pub record ShowsReach (scale : ℕ) (tree : ReachTree) (r : Reach) : Type 0 where
  pub tries : r.tries ≡ tree.tries
  pub posterior : IsFraction r.posterior tree.posterior scale
  pub before : IsFraction r.before tree.before scale

-- what an action of a table gains from a column
abbrev pub scored : TableTree → List Entry → Action → NamedGain
scored t column a = record { name = a.name; gain = gained t.rest a.gains column }

-- one for each inner
abbrev pub AreAttacks : GainOf TableTree → List Inner → List AttackTree → Type 0
AreAttacks g inners attacks = AllZip (IsAttack g) inners attacks
