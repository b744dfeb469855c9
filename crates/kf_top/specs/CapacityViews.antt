-- For bodies: what the code's values show of channels that are put together.
use Rattle.std.specs.Prelude.{◌≡◌, ℕ, true, pos, if◌then◌else◌, Result, Ok, Err}
use Rattle.kf_frac.specs.Parts.{IsFraction}
use Rattle.kf_frac.specs.declared.frac.Frac.{Frac}
use Rattle.kf_capacity.specs.Grids.{ChannelTree, GridTree, capacity_of}
use Rattle.kf_core.specs.Programs.{ProgramTree}
use Rattle.kf_load.specs.Steps.{Refused, Step, Gives}
use Rattle.kf_top.specs.Answer.{IsChannelTree, initial, is_narrow, wide_channel}
use Rattle.kf_top.specs.Stops.{Stopped}
use Rattle.kf_top.specs.declared.refusal.Stop.{Stop}
use Rattle.kf_top.specs.declared.capacity.Composition.{Composition}
use Rattle.kf_top.specs.declared.capacity.Composition.TheVariants as way
use Rattle.kf_words.specs.Task as task

abbrev pub way_of : Composition → task.Composition
way_of way.Cascade = task.Cascade
way_of way.Parallel = task.Parallel
way_of (way.Choice num den) = task.Choice num den

-- the channel of a program, or that it has none
abbrev pub ChannelIn : ℕ → ProgramTree → Step ChannelTree
ChannelIn turns p (Ok c) = (Ok p ≡ initial p) × IsChannelTree turns p c
ChannelIn turns p (Err r) = Err r ≡ initial p

-- a grid that isn't too wide
abbrev pub narrow_grid : GridTree → Result GridTree Refused
narrow_grid g = if is_narrow g then Ok g else Err wide_channel

-- the capacity of a grid that isn't too wide, or why there is none
abbrev pub CapacityAnswers : Result Frac Stop → GridTree → Type 0
CapacityAnswers (Ok f) g = (is_narrow g ≡ true) × IsFraction f (pos (capacity_of g)) g.over
CapacityAnswers (Err s) g = Stopped s (Gives (narrow_grid g))
