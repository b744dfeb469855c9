-- For bodies: what is composed of two channels, by each answer that there may be.
use Rattle.std.specs.Prelude.{◌≡◌, ◌≢◌, ℕ, ◌*◌, ◌<◌, ◌≤◌, min, true, false, Result, Ok, Err}
use Rattle.kf_frac.specs.Fractions.{limit}
use Rattle.kf_capacity.specs.Grids.{ChannelTree, GridTree, channel_grid}
use Rattle.kf_capacity.specs.Compositions.{ComposeFault, Fit, Targets, Rows, Cells, Wide, fits, places, cells_of, cascade_grid, parallel_grid, choice_grid}

-- one behind the other
abbrev pub CascadeCase : ChannelTree → ChannelTree → Result GridTree ComposeFault → Type 0
CascadeCase c d (Ok g) =
    (fits c d ≡ true) × (g.over ≤ limit) × (g ≡ cascade_grid (channel_grid c) (places c d) (channel_grid d))
CascadeCase c d (Err Fit) = fits c d ≡ false
CascadeCase c d (Err Wide) = (fits c d ≡ true) × (limit < (channel_grid c).over * (channel_grid d).over)
CascadeCase c d (Err f) = ⊥

-- the two have the same secrets
pub record HaveSameRows (c d : ChannelTree) : Type 0 where
  pub targets : c.target ≡ d.target
  pub secrets : c.secrets ≡ d.secrets

-- their secrets are of one target, and not the same
pub record HaveOtherRows (c d : ChannelTree) : Type 0 where
  pub targets : c.target ≡ d.target
  pub secrets : c.secrets ≢ d.secrets

-- side by side
abbrev pub ParallelCase : ChannelTree → ChannelTree → Result GridTree ComposeFault → Type 0
ParallelCase c d (Ok g) =
    HaveSameRows c d × (cells_of c d ≤ 4000000) × (g.over ≤ limit) × (g ≡ parallel_grid (channel_grid c) (channel_grid d))
ParallelCase c d (Err Targets) = c.target ≢ d.target
ParallelCase c d (Err Rows) = HaveOtherRows c d
ParallelCase c d (Err (Cells count)) = HaveSameRows c d × (4000000 < cells_of c d) × (count ≡ min limit (cells_of c d))
ParallelCase c d (Err Wide) =
    HaveSameRows c d × (cells_of c d ≤ 4000000) × (limit < (channel_grid c).over * (channel_grid d).over)
ParallelCase c d (Err f) = ⊥

-- one or the other
abbrev pub ChoiceCase : ℕ → ℕ → ChannelTree → ChannelTree → Result GridTree ComposeFault → Type 0
ChoiceCase num den c d (Ok g) =
    HaveSameRows c d × (g.over ≤ limit) × (g ≡ choice_grid num den (channel_grid c) (channel_grid d))
ChoiceCase num den c d (Err Targets) = c.target ≢ d.target
ChoiceCase num den c d (Err Rows) = HaveOtherRows c d
ChoiceCase num den c d (Err Wide) =
    HaveSameRows c d × (limit < (choice_grid num den (channel_grid c) (channel_grid d)).over)
ChoiceCase num den c d (Err f) = ⊥
