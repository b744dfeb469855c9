use Rattle.std.proofs.Common.{[], ◌∷◌, length, map, ap, sym, ◌∙◌, arith}
use Rattle.std.specs.Vec.Iter.{into_iter_items}
use Rattle.std.proofs.lemmas.List.{map-append}
use Rattle.kf_value.specs.Shapes.{shape_size}
use Rattle.kf_value.specs.Numbers.{target_size}
use Rattle.kf_value.specs.Views.{items_of, value_tree}
use Rattle.kf_core.specs.Joint.{target_number}
use Rattle.kf_core.specs.Views.{program_tree}
use Rattle.kf_hyper.specs.declared.traces.TraceRow.{TraceRow}
use Rattle.kf_hyper.specs.Tables.{table_row}
use Rattle.kf_traces.specs.Views.{traced_of}
use Rattle.kf_traces.proofs.Walking.{none_left}
use Rattle.kf_traces.proofs.TablingRows.{rows_start, end_traces, end_weights, end_totals, state_fits, state_some, state_positive, state_within, rows_more}
use Rattle.kf_traces.proofs.tables.rows_for.Goals as goal

pub loop-state-init : goal.loop-state-init
loop-state-init c = record {
  rows = rows_start (target_number (program_tree c.args.program.now)) (target_size (items_of c.args.program.now.target)) (shape_size c.args.program.now.shape) c.args.scale
      (map traced_of (into_iter_items c.into_iter-state-iterator.result)) (map traced_of c.args.states.items) (map table_row c.new-rows.result.items) (ap (map table_row) c.new-rows.ensures.items)
      (ap (map traced_of) c.into_iter-state-iterator.ensures.into_iter_gives.0) c.requires.fits c.requires.some c.requires.positive c.requires.within;
  long = omega (arith, c.into_iter-state-iterator.result.rest.ok);
}

pub column-requires-clause-checked : goal.column-requires-clause-checked
column-requires-clause-checked c = c.requires.checked

pub column-requires-clause-narrow : goal.column-requires-clause-narrow
column-requires-clause-narrow c = c.requires.narrow

pub column-requires-clause-fits : goal.column-requires-clause-fits
column-requires-clause-fits c =
    state_fits (target_number (program_tree c.args.program.now)) (target_size (items_of c.args.program.now.target)) (shape_size c.args.program.now.shape) c.args.scale
    (map traced_of (into_iter_items c.loop-state.state-iterator)) (map traced_of (into_iter_items c.next.new.self)) (map traced_of c.args.states.items) (map table_row c.loop-state.rows.items) (traced_of c.in-Some.state)
    (ap (map traced_of) c.in-Some.ensures.steps.0) c.loop-state.invariant.rows

pub column-requires-clause-some : goal.column-requires-clause-some
column-requires-clause-some c =
    state_some (target_number (program_tree c.args.program.now)) (target_size (items_of c.args.program.now.target)) (shape_size c.args.program.now.shape) c.args.scale
    (map traced_of (into_iter_items c.loop-state.state-iterator)) (map traced_of (into_iter_items c.next.new.self)) (map traced_of c.args.states.items) (map table_row c.loop-state.rows.items) (traced_of c.in-Some.state)
    (ap (map traced_of) c.in-Some.ensures.steps.0) c.loop-state.invariant.rows

pub column-requires-clause-positive : goal.column-requires-clause-positive
column-requires-clause-positive c =
    state_positive (target_number (program_tree c.args.program.now)) (target_size (items_of c.args.program.now.target)) (shape_size c.args.program.now.shape) c.args.scale
    (map traced_of (into_iter_items c.loop-state.state-iterator)) (map traced_of (into_iter_items c.next.new.self)) (map traced_of c.args.states.items) (map table_row c.loop-state.rows.items) (traced_of c.in-Some.state)
    (ap (map traced_of) c.in-Some.ensures.steps.0) c.loop-state.invariant.rows

pub column-requires-clause-within : goal.column-requires-clause-within
column-requires-clause-within c =
    state_within (target_number (program_tree c.args.program.now)) (target_size (items_of c.args.program.now.target)) (shape_size c.args.program.now.shape) c.args.scale
    (map traced_of (into_iter_items c.loop-state.state-iterator)) (map traced_of (into_iter_items c.next.new.self)) (map traced_of c.args.states.items) (map table_row c.loop-state.rows.items) (traced_of c.in-Some.state)
    (ap (map traced_of) c.in-Some.ensures.steps.0) c.loop-state.invariant.rows

pub loop-state-preserved : goal.loop-state-preserved
loop-state-preserved c =
    let row : TraceRow = record { trace = c.new.result; column = c.in_ok-column.column } in
    let steps = c.in-Some.ensures.steps in
    let short = ap length steps.0 in
    record {
      rows = rows_more (target_number (program_tree c.args.program.now)) (target_size (items_of c.args.program.now.target)) (shape_size c.args.program.now.shape) c.args.scale
          (map traced_of (into_iter_items c.loop-state.state-iterator)) (map traced_of (into_iter_items c.next.new.self)) (map traced_of c.args.states.items) (map table_row c.loop-state.rows.items)
          (traced_of c.in-Some.state) (ap (map traced_of) steps.0) c.loop-state.invariant.rows (table_row row) (map table_row c.push.new.self.items)
          (ap (map table_row) c.in_ok-push.ensures.items ∙ map-append table_row c.loop-state.rows.items (row ∷ [])) (ap (map value_tree) c.new.ensures) c.in_ok-column.ensures.weights c.in_ok-column.ensures.total
          c.in_ok-column.ensures.below c.in_ok-column.ensures.column;
      long = omega (arith, short, steps.1, c.loop-state.invariant.long);
    }

pub returns-clause-traces : goal.returns-clause-traces
returns-clause-traces c =
    let none = none_left (into_iter_items c.loop-state.state-iterator) (sym c.loop-state.invariant.long ∙ c.in-None.ensures.steps.0) in
    end_traces (target_number (program_tree c.args.program.now)) (target_size (items_of c.args.program.now.target)) (shape_size c.args.program.now.shape) c.args.scale
    (map traced_of (into_iter_items c.loop-state.state-iterator)) (map traced_of c.args.states.items) (map table_row c.loop-state.rows.items) (ap (map traced_of) none) c.loop-state.invariant.rows

pub returns-clause-weights : goal.returns-clause-weights
returns-clause-weights c =
    let none = none_left (into_iter_items c.loop-state.state-iterator) (sym c.loop-state.invariant.long ∙ c.in-None.ensures.steps.0) in
    end_weights (target_number (program_tree c.args.program.now)) (target_size (items_of c.args.program.now.target)) (shape_size c.args.program.now.shape) c.args.scale
    (map traced_of (into_iter_items c.loop-state.state-iterator)) (map traced_of c.args.states.items) (map table_row c.loop-state.rows.items) (ap (map traced_of) none) c.loop-state.invariant.rows

pub returns-clause-totals : goal.returns-clause-totals
returns-clause-totals c =
    let none = none_left (into_iter_items c.loop-state.state-iterator) (sym c.loop-state.invariant.long ∙ c.in-None.ensures.steps.0) in
    end_totals (target_number (program_tree c.args.program.now)) (target_size (items_of c.args.program.now.target)) (shape_size c.args.program.now.shape) c.args.scale
    (map traced_of (into_iter_items c.loop-state.state-iterator)) (map traced_of c.args.states.items) (map table_row c.loop-state.rows.items) (ap (map traced_of) none) c.loop-state.invariant.rows

pub returns-clause-below : goal.returns-clause-below
returns-clause-below c = c.loop-state.invariant.rows.below

pub returns-clause-columns : goal.returns-clause-columns
returns-clause-columns c = c.loop-state.invariant.rows.columns
