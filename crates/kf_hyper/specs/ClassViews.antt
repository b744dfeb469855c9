-- For bodies: classes, as contracts see them.
use Rattle.std.specs.Prelude.{ℕ, List}
use Rattle.kf_column.specs.declared.entry.Entry.{Entry}
use Rattle.kf_hyper.specs.declared.class.Class.{Class}
use Rattle.kf_column.specs.Hypers.{Inner}

-- a class by its inner and its total
abbrev pub class_of : Class → List Entry × ℕ
class_of c = (c.inner, c.total)

abbrev pub inner_of : Class → Inner
inner_of c = record { entries = c.inner; total = c.total }
