-- Believed: the joint weights of a hyper, and what all its inners together give to a value.
use Rattle.std.specs.Prelude.{ℕ, ◌*◌, ◌/◌, List, map, sum_by}
use Rattle.kf_column.specs.declared.entry.Entry.{Entry}
use Rattle.kf_column.specs.Columns.{weight_at, total}
use Rattle.kf_column.specs.Hypers.{Inner}

-- an entry with a multiple of its weight
abbrev pub scaled : ℕ → Entry → Entry
scaled factor e = record { value = e.value; weight = factor * e.weight }

-- the joint weight that an inner gives to a value: its share of the total of its class
abbrev pub joint_weight : ℕ → Inner → ℕ
joint_weight x inner = weight_at inner.entries x * (inner.total / total inner.entries)

-- the column of these weights
abbrev pub joint_column : Inner → List Entry
joint_column i = map (scaled (i.total / total i.entries)) i.entries

-- what all inners together give to a value
abbrev pub average_weight : List Inner → ℕ → ℕ
average_weight inners x = sum_by (joint_weight x) inners
