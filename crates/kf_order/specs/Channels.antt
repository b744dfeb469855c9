-- For bodies: laws of channels: what they promise of every gain (Alvim et al. 2020).
use Rattle.std.specs.Prelude.{◌≡◌, ℕ, ◌*◌, ◌<◌, ℤ, pos, ◌+ℤ◌, ◌*ℤ◌, ◌≤ℤ◌, List, [], ◌∷◌, All, Contains, slice_index}
use Rattle.std.specs.List.{AllZip}
use Rattle.std.specs.List.Sorted.{IsStrictlyIncreasing}
use Rattle.kf_column.specs.declared.entry.Entry.{Entry}
use Rattle.kf_column.specs.Columns.{IsColumn, weight_at, values}
use Rattle.kf_column.specs.Hypers.{Inner, IsHyper}
use Rattle.kf_column.specs.Traces.{value_weight}
use Rattle.kf_core.specs.Joint.{Cell}
use Rattle.kf_core.specs.Rows.{AreRowsOf, IsHyperOf}
use Rattle.kf_channel.specs.Channels.{AreSecrets}
use Rattle.kf_gain.specs.declared.table.Action.{Action}
use Rattle.kf_gain.specs.Gains.{GainOf, Bayes, Guessing, Table, TableTree, gain_at}
use Rattle.kf_gain.specs.Vulnerabilities.{IsPrior, IsPosterior}
use Rattle.kf_gain.specs.Worth.{IsVulnerability, NoBetter}
use Rattle.kf_capacity.specs.Grids.{ChannelTree, GridTree, channel_grid, capacity_of}
use Rattle.kf_capacity.specs.Compositions.{cascade_grid}
use Rattle.kf_capacity.specs.Laws.{Fit}

-- the sum of the vulnerabilities of columns
abbrev pub IsWorth : GainOf TableTree → List (List Entry) → ℤ → Type 0
IsWorth g [] z = z ≡ pos 0
IsWorth g (c ∷ columns) z = (first others : ℤ) × IsVulnerability g c first × IsWorth g columns others × (z ≡ first +ℤ others)

-- a hyper is worth what its columns are
abbrev pub HyperIsWorthColumns : Type 0
HyperIsWorthColumns = (columns : List (List Entry)) (inners : List Inner) (g : GainOf TableTree) (y z : ℤ)
    → All IsColumn columns → IsHyper columns inners → IsWorth g columns y → IsPosterior g inners z → y ≡ z

-- ---- channels one behind the other

-- what is left of a prior's weights where the column of these cells is seen; it names the secrets of weight, ascending
pub record IsSeen (prior : ℕ → ℕ) (cells : List ℕ) (column : List Entry) : Type 0 where
  pub ascending : IsStrictlyIncreasing (values column)
  pub positive : All (λ e. 0 < e.weight) column
  pub weights : (x : ℕ) → weight_at column x ≡ prior x * slice_index cells x

-- there is something left of each prior at each column
abbrev pub SomeSeen : Type 0
SomeSeen = (prior : ℕ → ℕ) (cells : List ℕ) → (column : List Entry) × IsSeen prior cells column

-- data processing: whatever the prior and whatever the adversary wants, nothing more is leaked by what stands behind a channel
abbrev pub CascadeLeaksNoMore : Type 0
CascadeLeaksNoMore = (g h : GridTree) (places : List ℕ) (prior : ℕ → ℕ) (gain : GainOf TableTree) (first both : List (List Entry)) (y z : ℤ)
    → Fit g h places → AllZip (IsSeen prior) g.columns first → AllZip (IsSeen prior) (cascade_grid g places h).columns both
    → IsWorth gain both y → IsWorth gain first z → NoBetter gain y (z *ℤ pos h.over)

-- ---- the capacity of a channel, and what its hyper is worth

-- no action gains less than 0 at any value; guesses in turn are a loss, and not meant
abbrev pub IsNotNegative : GainOf TableTree → Type 0
IsNotNegative Guessing = ⊥
IsNotNegative (Table t) = (a : Action) → Contains t.actions a → (x : ℕ) → pos 0 ≤ℤ gain_at t.rest a.gains x
IsNotNegative g = Unit {0}

-- of the channel and the hyper of one joint: the posterior vulnerability is at most the prior one times the capacity
abbrev pub LeakageIsBounded : Type 0
LeakageIsBounded = (joint : List Cell) (c : ChannelTree) (inners : List Inner) (g : GainOf TableTree) (y z : ℤ)
    → AreRowsOf joint c.rows → AreSecrets c.rows c.secrets → IsHyperOf joint inners → IsNotNegative g
    → IsPrior g inners y → IsPosterior g inners z → (z *ℤ pos (channel_grid c).over) ≤ℤ (y *ℤ pos (capacity_of (channel_grid c)))

-- for one guess, where all secrets weigh the same, it is exactly that
abbrev pub CapacityIsLeaked : Type 0
CapacityIsLeaked = (joint : List Cell) (c : ChannelTree) (inners : List Inner) (weight : ℕ) (y z : ℤ)
    → AreRowsOf joint c.rows → AreSecrets c.rows c.secrets → IsHyperOf joint inners → All (λ x. value_weight c.rows x ≡ weight) c.secrets
    → IsPrior Bayes inners y → IsPosterior Bayes inners z → z *ℤ pos (channel_grid c).over ≡ y *ℤ pos (capacity_of (channel_grid c))
