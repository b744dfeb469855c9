use Rattle.std.proofs.Common.{◌≡◌, ◌<◌, ◌≤◌, List, [], All, map, length, get_or, refl, sym, ◌∙◌, ap, subst, arith}
use Rattle.std.proofs.lemmas.List.{get_or-map, length-map}
use Rattle.std.specs.List.Sorted.{IsStrictlyIncreasing}
use Rattle.kf_frac.specs.Fractions.{limit}
use Rattle.kf_column.specs.Traces.{Row}
use Rattle.kf_hyper.specs.declared.traces.TraceRow.{TraceRow}
use Rattle.kf_hyper.specs.Tables.{table_row}
use Rattle.kf_capacity.specs.declared.scales.SecretScale.{SecretScale}
use Rattle.kf_capacity.specs.Divided.{scale_of, number_in}
use Rattle.kf_capacity.specs.Grids.{denominator, column_in}
use Rattle.kf_capacity.specs.Shapes.{IsGrid}
use Rattle.kf_capacity.specs.Views.{channel_tree}
use Rattle.kf_capacity.proofs.Channels.{channel_weighs, channel_is_grid}
use Rattle.kf_capacity.proofs.Dividing.{mapped_twice}
use Rattle.kf_capacity.proofs.OwnDenominators.{all_divided, scales_over, scale_names, scales_divide, columns_are, all_fit}
use Rattle.kf_capacity.proofs.channel_grid.grid_over.Goals as goal

pub scales-requires : goal.scales-requires
scales-requires c = rw c.requires.secrets (all_divided (channel_tree c.args.c.now) (channel_weighs c.args.c.now))

pub scaled_columns-requires-clause-ascending : goal.scaled_columns-requires-clause-ascending
scaled_columns-requires-clause-ascending c =
    let t = channel_tree c.args.c.now in
    let weigh = channel_weighs c.args.c.now in
    let made : c.as_slice.result.now ≡ scales_over t weigh =
    c.as_slice.ensures.value ∙ c.in_ok-scales.ensures ∙ (λ k. map (scale_of (c.requires.over k)) (c.requires.secrets k)) in
    subst (λ (l : List SecretScale). IsStrictlyIncreasing (map (λ (s : SecretScale). s.value) l)) (sym made)
    (subst IsStrictlyIncreasing (sym (scale_names t weigh)) c.args.c.now.channel.column.ascending)

pub scaled_columns-requires-clause-some : goal.scaled_columns-requires-clause-some
scaled_columns-requires-clause-some c =
    let t = channel_tree c.args.c.now in
    let weigh = channel_weighs c.args.c.now in
    let made : c.as_slice.result.now ≡ scales_over t weigh =
    c.as_slice.ensures.value ∙ c.in_ok-scales.ensures ∙ (λ k. map (scale_of (c.requires.over k)) (c.requires.secrets k)) in
    subst (λ (l : List SecretScale). All (λ s. 0 < s.divisor) l) (sym made) (scales_divide t weigh)

pub scaled_columns-requires-clause-fits : goal.scaled_columns-requires-clause-fits
scaled_columns-requires-clause-fits c =
    let t = channel_tree c.args.c.now in
    let weigh = channel_weighs c.args.c.now in
    let traces = c.traces.result.now in
    let none : Row = record { trace = []; column = [] } in
    let made : c.as_slice.result.now ≡ scales_over t weigh =
    c.as_slice.ensures.value ∙ c.in_ok-scales.ensures ∙ (λ k. map (scale_of (c.requires.over k)) (c.requires.secrets k)) in
    let narrow : denominator t ≤ limit = subst (λ n. n ≤ limit) c.requires.over c.requires.narrow in
    λ j (d : TraceRow) inside.
    let here : get_or t.rows j none ≡ table_row (get_or traces j d) =
    ap (λ (l : List Row). get_or l j none) (sym c.traces.ensures) ∙ get_or-map table_row traces j d none inside in
    let within : j < length t.rows = omega (arith, ap length c.traces.ensures, length-map traces table_row, inside) in
    subst (λ (l : List SecretScale). All (λ s. number_in (get_or traces j d).column s ≤ limit) l) (sym made)
    (subst (λ (row : Row). All (λ s. number_in row.column s ≤ limit) (scales_over t weigh)) here (all_fit t weigh narrow j none within))

pub invariant_of-result : goal.invariant_of-result
invariant_of-result c =
    let t = channel_tree c.args.c.now in
    let weigh = channel_weighs c.args.c.now in
    let traces = c.traces.result.now in
    let made : c.as_slice.result.now ≡ scales_over t weigh =
    c.as_slice.ensures.value ∙ c.in_ok-scales.ensures ∙ (λ k. map (scale_of (c.requires.over k)) (c.requires.secrets k)) in
    let narrow : denominator t ≤ limit = subst (λ n. n ≤ limit) c.requires.over c.requires.narrow in
    let columns : c.in_ok-columns.columns ≡ map (column_in (denominator t) t) t.rows =
    c.in_ok-columns.ensures ∙ ap (λ (l : List SecretScale). map (λ (row : TraceRow). map (number_in row.column) l) traces) made
    ∙ sym (mapped_twice (λ (row : Row). map (number_in row.column) (scales_over t weigh)) table_row
    (λ (row : TraceRow). map (number_in row.column) (scales_over t weigh)) (λ r. refl) traces)
    ∙ ap (map (λ (row : Row). map (number_in row.column) (scales_over t weigh))) c.traces.ensures ∙ columns_are t weigh in
    record {
      grid = subst IsGrid (λ k. record { over = sym c.requires.over k; rows = sym c.rows.ensures.count k; columns = sym columns k })
          (channel_is_grid c.rows_sum_to_one.ensures c.args.c.now narrow);
    }

pub returns : goal.returns
returns c =
    let t = channel_tree c.args.c.now in
    let weigh = channel_weighs c.args.c.now in
    let traces = c.traces.result.now in
    let made : c.as_slice.result.now ≡ scales_over t weigh =
    c.as_slice.ensures.value ∙ c.in_ok-scales.ensures ∙ (λ k. map (scale_of (c.requires.over k)) (c.requires.secrets k)) in
    let columns : c.in_ok-columns.columns ≡ map (column_in (denominator t) t) t.rows =
    c.in_ok-columns.ensures ∙ ap (λ (l : List SecretScale). map (λ (row : TraceRow). map (number_in row.column) l) traces) made
    ∙ sym (mapped_twice (λ (row : Row). map (number_in row.column) (scales_over t weigh)) table_row
    (λ (row : TraceRow). map (number_in row.column) (scales_over t weigh)) (λ r. refl) traces)
    ∙ ap (map (λ (row : Row). map (number_in row.column) (scales_over t weigh))) c.traces.ensures ∙ columns_are t weigh in
    λ k. record { over = c.requires.over k; rows = c.rows.ensures.count k; columns = columns k }
