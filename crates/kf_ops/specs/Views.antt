-- For bodies: what contracts see of the code's table.
use Rattle.std.specs.Prelude.{List, map}
use Rattle.kf_ops.specs.Rows.{Row}
use Rattle.kf_ops.specs.declared.row.OpRow.{OpRow}

-- a row of the code as it reads
abbrev pub row_of : OpRow → Row
row_of r = record {
  word = r.word.now;
  level = r.level;
  arity = r.arity;
  args = r.args;
  result = r.result;
  code = r.code;
  div_zero = r.div_zero;
  wide = r.wide;
}

-- the same of a whole table
abbrev pub rows_of : List OpRow → List Row
rows_of table = map row_of table
