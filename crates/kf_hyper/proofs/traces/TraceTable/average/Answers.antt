use Rattle.std.proofs.Common.{◌≡◌, ◌==◌, ◌<◌, List, sym, ◌∙◌, ap, subst, arith, length, get_or}
use Rattle.kf_column.specs.declared.entry.Entry.{Entry}
use Rattle.kf_hyper.specs.declared.traces.TraceRow.{TraceRow}
use Rattle.kf_value.specs.Numbers.{target_size}
use Rattle.kf_value.specs.Views.{items_of}
use Rattle.kf_column.specs.Columns.{weight_at, total}
use Rattle.kf_column.specs.Shapes.{IsBelow}
use Rattle.kf_column.specs.Traces.{Row}
use Rattle.kf_hyper.specs.Tables.{table_row}
use Rattle.kf_hyper.proofs.Averaging.{one_more, one_more_le, all_seen, here_too}
use Rattle.kf_hyper.proofs.traces.TraceTable.average.Goals as goal

pub push_times-requires-clause-fits : goal.push_times-requires-clause-fits
push_times-requires-clause-fits c =
    let all : c.as_slice-row-items.result.now ≡ c.args.self.now.rows = c.as_slice-row-items.ensures in
    let inside : c.loop-row.row-index < length c.args.self.now.rows = rw (← all) c.loop-row-test.true in
    let is : c.row-item.result ≡ get_or c.args.self.now.rows c.loop-row.row-index c.row-item.result =
    subst (λ (rs : List TraceRow). c.row-item.result ≡ get_or rs c.loop-row.row-index c.row-item.result) all c.row-item.is in
    let column : c.as_slice.result.now ≡ c.row-item.result.column = c.as_slice.ensures ∙ c.entries.ensures.kept in
    omega (
      arith,
      c.loop-row.invariant.totals,
      ap total column,
      one_more_le table_row (λ (r : Row). total r.column) c.args.self.now.rows c.loop-row.row-index c.row-item.result inside is,
      c.args.self.now.table.whole,
      c.args.self.now.table.narrow,
    )

pub loop-row-preserved : goal.loop-row-preserved
loop-row-preserved c =
    let all : c.as_slice-row-items.result.now ≡ c.args.self.now.rows = c.as_slice-row-items.ensures in
    let inside : c.loop-row.row-index < length c.args.self.now.rows = rw (← all) c.loop-row-test.true in
    let is : c.row-item.result ≡ get_or c.args.self.now.rows c.loop-row.row-index c.row-item.result =
    subst (λ (rs : List TraceRow). c.row-item.result ≡ get_or rs c.loop-row.row-index c.row-item.result) all c.row-item.is in
    let column : c.as_slice.result.now ≡ c.row-item.result.column = c.as_slice.ensures ∙ c.entries.ensures.kept in
    record {
      weights = λ x.
          omega (
            arith,
            c.in_ok-push_times.ensures.gains.weights x,
            c.loop-row.invariant.weights x,
            ap (λ (es : List Entry). weight_at es x) column,
            one_more table_row (λ (r : Row). weight_at r.column x) c.args.self.now.rows c.loop-row.row-index c.row-item.result inside is,
          );
      totals = omega (
        arith,
        c.in_ok-push_times.ensures.gains.total,
        c.loop-row.invariant.totals,
        ap total column,
        one_more table_row (λ (r : Row). total r.column) c.args.self.now.rows c.loop-row.row-index c.row-item.result inside is,
      );
      positive = c.in_ok-push_times.ensures.positive c.loop-row.invariant.positive;
      below =
          let Below : List Entry → Type 0 = IsBelow (target_size (items_of c.args.self.now.target)) in
          c.in_ok-push_times.ensures.below (target_size (items_of c.args.self.now.target))
          (subst Below (sym column) (here_too table_row (λ (r : Row). Below r.column) c.args.self.now.rows c.loop-row.row-index c.row-item.result inside is c.args.self.now.table.within))
          c.loop-row.invariant.below;
    }

pub gathered-requires : goal.gathered-requires
gathered-requires c =
    let past = rw c.as_slice-row-items.ensures at c.loop-row-test.false in
    let all = all_seen table_row (λ (r : Row). total r.column) c.args.self.now.rows c.loop-row.row-index past in
    record {
      some = omega (arith, c.loop-row.invariant.totals, all, c.args.self.now.table.whole, c.args.self.now.table.some);
      positive = c.loop-row.invariant.positive;
      fits = omega (arith, c.loop-row.invariant.totals, all, c.args.self.now.table.whole, c.args.self.now.table.narrow);
    }

pub returns-clause-weights : goal.returns-clause-weights
returns-clause-weights c =
    let past = rw c.as_slice-row-items.ensures at c.loop-row-test.false in
    λ x.
    c.gathered.ensures.weights (λ v. v == x) ∙ c.loop-row.invariant.weights x
    ∙ all_seen table_row (λ (r : Row). weight_at r.column x) c.args.self.now.rows c.loop-row.row-index past

pub returns-clause-total : goal.returns-clause-total
returns-clause-total c =
    let past = rw c.as_slice-row-items.ensures at c.loop-row-test.false in
    c.gathered.ensures.total ∙ c.loop-row.invariant.totals ∙ all_seen table_row (λ (r : Row). total r.column) c.args.self.now.rows c.loop-row.row-index past
    ∙ c.args.self.now.table.whole

pub returns-clause-below : goal.returns-clause-below
returns-clause-below c = c.gathered.ensures.below (target_size (items_of c.args.self.now.target)) c.loop-row.invariant.below
