-- For bodies: what a channel shows of itself.
use Rattle.std.specs.Prelude.{ℕ, List, [], map, slice_index, slice_index_or}
use Rattle.kf_value.specs.Targets.{Item}
use Rattle.kf_value.specs.Views.{items_of}
use Rattle.kf_column.specs.Columns.{values}
use Rattle.kf_column.specs.Traces.{Row, Share, share_at}
use Rattle.kf_hyper.specs.Tables.{table_row}
use Rattle.kf_channel.specs.declared.channel.Channel.{Channel}

-- what its secrets are values of
abbrev pub target_of : Channel → List Item
target_of c = items_of c.target

-- the numbers of its secrets, in their order
abbrev pub secrets_of : Channel → List ℕ
secrets_of c = values c.secrets

-- its traces, each with its column of weights
abbrev pub rows_of : Channel → List Row
rows_of c = map table_row c.rows

-- the trace j, from 0
abbrev pub row_at : Channel → ℕ → Row
row_at c j = slice_index_or (rows_of c) j (record { trace = []; column = [] })

-- the cell of the secret i and the trace j
abbrev pub cell_at : Channel → ℕ → ℕ → Share
cell_at c i j = share_at (rows_of c) (row_at c j) (slice_index (secrets_of c) i)
