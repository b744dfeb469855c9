-- For bodies: what contracts see of gains and of tables.
use Rattle.kf_gain.specs.declared.gain.Gain.{Gain}
use Rattle.kf_gain.specs.declared.gain.Gain.TheVariants as gain
use Rattle.kf_gain.specs.declared.table.GainTable.{GainTable}
use Rattle.kf_gain.specs.Gains.{GainOf, Bayes, Tries, Guessing, Table, TableTree}

abbrev pub table_tree : GainTable → TableTree
table_tree t = record { over = t.over; rest = t.rest; actions = t.actions }

abbrev pub gain_tree : Gain → GainOf TableTree
gain_tree gain.Bayes = Bayes
gain_tree (gain.Tries k) = Tries k
gain_tree gain.Guessing = Guessing
gain_tree (gain.Table t) = Table (table_tree t)
