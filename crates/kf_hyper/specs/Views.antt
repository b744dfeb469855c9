-- For bodies: what columns, hypers and trace tables show of themselves.
use Rattle.std.specs.Prelude.{ℕ, List, [], map, slice_index_or}
use Rattle.kf_value.specs.Targets.{Item}
use Rattle.kf_value.specs.Views.{items_of}
use Rattle.kf_column.specs.declared.entry.Entry.{Entry}
use Rattle.kf_hyper.specs.declared.hyper.Hyper.{Hyper}
use Rattle.kf_hyper.specs.declared.traces.TraceTable.{TraceTable}
use Rattle.kf_column.specs.Hypers.{Inner}
use Rattle.kf_hyper.specs.ClassViews.{inner_of}
use Rattle.kf_column.specs.Traces.{Row}
use Rattle.kf_hyper.specs.Tables.{table_row}

-- the k-th entry of a column, from 0
abbrev pub entry_at : List Entry → ℕ → Entry
entry_at column k = slice_index_or column k (record { value = 0; weight = 0 })

-- its inners with their totals, in their order
abbrev pub inners_of : Hyper → List Inner
inners_of h = map inner_of h.classes.items

-- the i-th inner, from 0
abbrev pub inner_at : Hyper → ℕ → Inner
inner_at h i = slice_index_or (inners_of h) i (record { entries = []; total = 0 })

-- what each total is divided by to give an outer
abbrev pub scale_of : Hyper → ℕ
scale_of h = h.scale

-- what it is about
abbrev pub target_of : Hyper → List Item
target_of h = items_of h.target

-- the rows of a trace table
abbrev pub rows_of : TraceTable → List Row
rows_of t = map table_row t.rows
