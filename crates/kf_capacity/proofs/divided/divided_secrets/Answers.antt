use Rattle.std.proofs.Common.{◌≡◌, ◌+◌, ◌<◌, ◌≤◌, List, [], map, drop, length, get_or, sym, ◌∙◌, ap, arith}
use Rattle.std.proofs.lemmas.List.{at_drop_more, at_drop_all, get_or-map, length-map}
use Rattle.kf_column.specs.declared.entry.Entry.{Entry}
use Rattle.kf_column.specs.Traces.{Row}
use Rattle.kf_hyper.specs.declared.traces.TraceRow.{TraceRow}
use Rattle.kf_hyper.specs.Tables.{table_row}
use Rattle.kf_channel.specs.Views.{rows_of, secrets_of}
use Rattle.kf_capacity.specs.declared.divided.DividedSecret.{DividedSecret}
use Rattle.kf_capacity.specs.Divided.{shared}
use Rattle.kf_capacity.proofs.Dividing.{divided_on, on_none, on_all, on_more, names_of_undivided, same_names}
use Rattle.kf_capacity.proofs.divided.divided_secrets.Goals as goal

pub loop-row-init : goal.loop-row-init
loop-row-init c =
    let rows = rows_of c.args.c.now in
    let xs = secrets_of c.args.c.now in
    record {
      same = ap (map (divided_on rows)) c.in_ok-secrets.ensures ∙ on_all rows xs;
      named = ap (map (λ (s : DividedSecret). s.value)) c.in_ok-secrets.ensures ∙ names_of_undivided rows xs;
    }

pub loop-row-preserved : goal.loop-row-preserved
loop-row-preserved c =
    let rows = rows_of c.args.c.now in
    let traces = c.traces-row-items.result.now in
    let j = c.loop-row.row-index in
    let ss = c.loop-row.secrets.items in
    let r : TraceRow = c.row-item.result in
    let none : Row = record { trace = []; column = [] } in
    let rest = drop (j + 1) rows in
    let inside : j < length traces = omega (arith, c.loop-row-test.true) in
    let within : j < length rows = omega (arith, ap length c.traces-row-items.ensures, length-map traces table_row, inside) in
    let row : get_or rows j none ≡ table_row r =
    ap (λ (l : List Row). get_or l j none) (sym c.traces-row-items.ensures) ∙ get_or-map table_row traces j r none inside
    ∙ ap table_row (sym c.row-item.is) in
    let column : c.as_slice.result.now ≡ (get_or rows j none).column =
    c.as_slice.ensures ∙ c.entries.ensures.kept ∙ sym (ap (λ (r : Row). r.column) row) in
    let made : c.shared-secrets.result.items ≡ map (shared (get_or rows j none).column) ss =
    c.shared-secrets.ensures ∙ ap (λ (es : List Entry). map (shared es) ss) column in
    record {
      same = ap (map (divided_on rest)) made ∙ on_more (get_or rows j none) rest ss
          ∙ sym (at_drop_more (λ (rs : List Row). map (divided_on rs) ss) rows j none within) ∙ c.loop-row.invariant.same;
      named = ap (map (λ (s : DividedSecret). s.value)) made ∙ same_names (get_or rows j none).column ss ∙ c.loop-row.invariant.named;
    }

pub returns : goal.returns
returns c =
    let rows = rows_of c.args.c.now in
    let traces = c.traces-row-items.result.now in
    let j = c.loop-row.row-index in
    let ss = c.loop-row.secrets.items in
    let past : length rows ≤ j = omega (arith, ap length c.traces-row-items.ensures, length-map traces table_row, c.loop-row-test.false) in
    sym (on_none ss) ∙ sym (at_drop_all (λ (rs : List Row). map (divided_on rs) ss) rows j past) ∙ c.loop-row.invariant.same
