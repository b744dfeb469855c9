-- For bodies: the denominators of a channel's cells, column after column.
use Rattle.std.specs.Prelude.{ℕ, List, map, flat_map}
use Rattle.kf_column.specs.Traces.{Row}
use Rattle.kf_capacity.specs.Grids.{ChannelTree, cell_den}

-- those of a column, secret after secret
abbrev pub column_dens : ChannelTree → Row → List ℕ
column_dens c row = map (cell_den c row) c.secrets

-- those of some columns
abbrev pub dens : ChannelTree → List Row → List ℕ
dens c rows = flat_map (λ row. map (cell_den c row) c.secrets) rows
