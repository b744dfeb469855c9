-- A cell of a channel, read from its parts.
use Rattle.std.proofs.Common.{◌≡◌, ℕ, ◌<◌, ◌≤◌, pos, ◌≤ℤ◌, List, map, refl, sym, ◌∙◌, ap, arith, length, get_or}
use Rattle.std.proofs.lemmas.Int.{ints}
use Rattle.std.proofs.lemmas.List.{get_or-map, length-map}
use Rattle.std.proofs.lemmas.List.Sums.{get_or-le-sum_by}
use Rattle.kf_frac.specs.Fractions.{reduced_num}
use Rattle.kf_column.specs.declared.entry.Entry.{Entry}
use Rattle.kf_hyper.specs.declared.traces.TraceRow.{TraceRow}
use Rattle.kf_column.specs.Columns.{weight_at, values}
use Rattle.kf_column.specs.Traces.{Row, value_weight}
use Rattle.kf_hyper.specs.Tables.{table_row}
use Rattle.kf_hyper.proofs.Searching.{weight_found}
use Rattle.kf_channel.specs.Shapes.{IsChannel}

module _ (rows : List TraceRow) (secrets : List Entry) (size i j : ℕ) (is : IsChannel size (map table_row rows) secrets) (within : i < length (values secrets)) (inside : j < length (map table_row rows)) (row : TraceRow) (d : Entry) (none : Row) where
  secret_inside : i < length secrets
  secret_inside = simp length-map at within

  row_inside : j < length rows
  row_inside = simp length-map at inside

  secret_here : (get_or secrets i d).value ≡ get_or (values secrets) i 0
  secret_here = sym (get_or-map (λ (e : Entry). e.value) secrets i d 0 secret_inside)

  row_here : table_row (get_or rows j row) ≡ get_or (map table_row rows) j none
  row_here = sym (get_or-map table_row rows j row none row_inside)

  pub whole_here : (get_or secrets i d).weight ≡ value_weight (map table_row rows) (get_or (values secrets) i 0)
  whole_here =
      sym (weight_found secrets (get_or secrets i d).value i d is.column secret_inside refl) ∙ sym (is.whole (get_or secrets i d).value)
      ∙ ap (value_weight (map table_row rows)) secret_here

  pub part_here : weight_at (get_or rows j row).column (get_or secrets i d).value ≡ weight_at (get_or (map table_row rows) j none).column (get_or (values secrets) i 0)
  part_here = ap (weight_at (get_or rows j row).column) secret_here ∙ ap (λ (r : Row). weight_at r.column (get_or (values secrets) i 0)) row_here

  pub part_within : weight_at (get_or rows j row).column (get_or secrets i d).value ≤ (get_or secrets i d).weight
  part_within = omega (arith, part_here, whole_here, get_or-le-sum_by (λ (r : Row). weight_at r.column (get_or (values secrets) i 0)) (map table_row rows) j none inside)

-- a part of a whole is not below 0
pub from_zero : (n d : ℕ) → pos 0 ≤ℤ reduced_num (pos n) d
unfolding reduced_num
from_zero n d = omega (arith, ints)
