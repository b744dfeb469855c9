-- For bodies: what contracts see of channels and of grids.
use Rattle.kf_channel.specs.declared.channel.Channel.{Channel}
use Rattle.kf_channel.specs.Views.{target_of, secrets_of, rows_of}
use Rattle.kf_capacity.specs.Grids.{ChannelTree, GridTree, denominator, channel_grid}
use Rattle.kf_capacity.specs.Composing.{columns_with}
use Rattle.kf_capacity.specs.declared.grid.Grid.{Grid}
use Rattle.kf_capacity.specs.declared.grid.ListedGrid.{ListedGrid}
use Rattle.kf_capacity.specs.declared.error.GridFault.{GridFault}
use Rattle.std.specs.Prelude.{◌≡◌, ◌<◌, ◌≤◌, Result, Ok, Err}
use Rattle.kf_frac.specs.Fractions.{limit}
use Rattle.kf_capacity.specs.declared.error.GridFault.TheVariants as fault

abbrev pub channel_tree : Channel → ChannelTree
channel_tree c = record { target = target_of c; rows = rows_of c; secrets = secrets_of c }

abbrev pub grid_tree : Grid → GridTree
grid_tree g = record { over = g.over; rows = g.rows; columns = columns_with g.columns g.others }

abbrev pub listed_tree : ListedGrid → GridTree
listed_tree g = record { over = g.over; rows = g.rows; columns = g.columns }

-- the channel's grid, or that its denominator is too great; want of memory is no cause
abbrev pub IsGridOf : ChannelTree → Result GridTree GridFault → Type 0
IsGridOf c (Ok g) = (denominator c ≤ limit) × (g ≡ channel_grid c)
IsGridOf c (Err fault.Wide) = limit < denominator c
IsGridOf c (Err fault.Mem) = ⊥
