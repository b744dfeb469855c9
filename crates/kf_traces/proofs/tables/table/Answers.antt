use Rattle.std.proofs.Common.{map, sym, ◌∙◌}
use Rattle.kf_value.specs.Numbers.{target_size}
use Rattle.kf_value.specs.Views.{items_of}
use Rattle.kf_core.proofs.Unsquashed.{checked_again}
use Rattle.kf_core.specs.Views.{program_tree}
use Rattle.kf_core.specs.Runs.{program_runs}
use Rattle.kf_hyper.specs.Tables.{table_row}
use Rattle.kf_support.specs.Cleared.{program_of, turns_of}
use Rattle.kf_traces.specs.Views.{traced_of}
use Rattle.kf_traces.proofs.TablingRows.{states_tell, all_within, rows_are, table_is}
use Rattle.kf_traces.proofs.tables.table.Goals as goal

pub rows_for-requires-clause-checked : goal.rows_for-requires-clause-checked
rows_for-requires-clause-checked c = rw c.program.ensures (checked_again (program_tree (program_of c.args.c.now)) c.args.c.now.checked)

pub rows_for-requires-clause-some : goal.rows_for-requires-clause-some
rows_for-requires-clause-some c =
    (states_tell (turns_of c.args.c.now) _ (program_tree (program_of c.args.c.now)) (map traced_of c.in_ok-states.states.items) c.args.c.now.checked c.args.c.now.clear c.args.c.now.scale_is
    c.traced_laws.ensures.tell c.in_ok-states.ensures.states).1.some

pub rows_for-requires-clause-positive : goal.rows_for-requires-clause-positive
rows_for-requires-clause-positive c =
    (states_tell (turns_of c.args.c.now) _ (program_tree (program_of c.args.c.now)) (map traced_of c.in_ok-states.states.items) c.args.c.now.checked c.args.c.now.clear c.args.c.now.scale_is
    c.traced_laws.ensures.tell c.in_ok-states.ensures.states).1.positive

pub rows_for-requires-clause-within : goal.rows_for-requires-clause-within
rows_for-requires-clause-within c =
    let told =
    states_tell (turns_of c.args.c.now) _ (program_tree (program_of c.args.c.now)) (map traced_of c.in_ok-states.states.items) c.args.c.now.checked c.args.c.now.clear c.args.c.now.scale_is
    c.traced_laws.ensures.tell c.in_ok-states.ensures.states in
    all_within c.scale.result (map traced_of c.in_ok-states.states.items) (told.1.sum ∙ sym c.args.c.now.scale_is ∙ sym c.scale.ensures)

pub invariant_of-result : goal.invariant_of-result
invariant_of-result c =
    let turns = turns_of c.args.c.now in
    let p = program_tree (program_of c.args.c.now) in
    let checked = checked_again p c.args.c.now.checked in
    let ss = map traced_of c.in_ok-states.states.items in
    let rs = map table_row c.in_ok-rows.rows.items in
    let told = states_tell turns _ p ss c.args.c.now.checked c.args.c.now.clear c.args.c.now.scale_is c.traced_laws.ensures.tell c.in_ok-states.ensures.states in
    let some = (c.run_laws.ensures.least (program_runs turns p) (c.run_laws.ensures.positive turns p)).positive in
    let weights = rw c.program.ensures at c.in_ok-rows.ensures.weights in
    let below = rw c.program.ensures at c.in_ok-rows.ensures.below in
    rw (c.new.ensures, c.in_ok-copy.ensures, c.program-2.ensures, c.scale-2.ensures) (record {
      table = table_is turns p checked c.args.c.now.clear c.traced_laws.ensures.joint ss rs told.0 told.1 c.in_ok-rows.ensures.traces weights c.in_ok-rows.ensures.totals
          (target_size (items_of (program_of c.args.c.now).target)) _ c.args.c.now.scale_is some c.args.c.now.fits below;
    })

pub returns-clause-rows : goal.returns-clause-rows
returns-clause-rows c =
    let turns = turns_of c.args.c.now in
    let p = program_tree (program_of c.args.c.now) in
    let checked = checked_again p c.args.c.now.checked in
    let ss = map traced_of c.in_ok-states.states.items in
    let rs = map table_row c.in_ok-rows.rows.items in
    let told = states_tell turns _ p ss c.args.c.now.checked c.args.c.now.clear c.args.c.now.scale_is c.traced_laws.ensures.tell c.in_ok-states.ensures.states in
    let weights = rw c.program.ensures at c.in_ok-rows.ensures.weights in
    rw c.new.ensures (rows_are turns p checked c.args.c.now.clear c.traced_laws.ensures.joint ss rs told.0 told.1 c.in_ok-rows.ensures.traces weights c.in_ok-rows.ensures.totals c.in_ok-rows.ensures.columns)

pub returns-clause-scale : goal.returns-clause-scale
returns-clause-scale c = c.scale-2.ensures
