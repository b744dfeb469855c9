use Rattle.std.proofs.Common.{◌≡◌, pos, [], ◌∙◌, arith, get_or}
use Rattle.kf_frac.specs.Fractions.{reduced_num, reduced_den}
use Rattle.kf_column.specs.declared.entry.Entry.{Entry}
use Rattle.kf_hyper.specs.declared.traces.TraceRow.{TraceRow}
use Rattle.kf_column.specs.Columns.{weight_at}
use Rattle.kf_column.specs.Traces.{Row}
use Rattle.kf_channel.specs.Views.{cell_at}
use Rattle.kf_channel.proofs.Cells.{whole_here, part_here, part_within, from_zero}
use Rattle.kf_channel.proofs.channel.Channel.cell.Goals as goal

pub share-requires-clause-within : goal.share-requires-clause-within
share-requires-clause-within c =
    let d : Entry = record { value = 0; weight = 0 } in
    let r : TraceRow = c.index-as_slice-j.result in
    let secrets : c.as_slice.result.now ≡ c.args.self.now.secrets = c.as_slice.ensures ∙ c.entries.ensures.kept in
    let weight : c.weight-weight.result ≡ weight_at (get_or c.args.self.now.rows c.args.j r).column (get_or c.args.self.now.secrets c.args.i d).value =
    c.weight-weight.ensures ∙ (λ k. weight_at (get_or (c.as_slice-2.ensures k) c.args.j r).column (get_or (secrets k) c.args.i d).value) in
    let whole : (get_or c.as_slice.result.now c.args.i d).weight ≡ (get_or c.args.self.now.secrets c.args.i d).weight = λ k. (get_or (secrets k) c.args.i d).weight in
    omega (arith, weight, whole, part_within c.args.self.now.rows c.args.self.now.secrets _ c.args.i c.args.j c.args.self.now.channel c.requires.secret c.requires.trace r d (record { trace = []; column = [] }))

pub returns-clause-num : goal.returns-clause-num
returns-clause-num c =
    let d : Entry = record { value = 0; weight = 0 } in
    let none : Row = record { trace = []; column = [] } in
    let r : TraceRow = c.index-as_slice-j.result in
    let secrets : c.as_slice.result.now ≡ c.args.self.now.secrets = c.as_slice.ensures ∙ c.entries.ensures.kept in
    let part : c.weight-weight.result ≡ (cell_at c.args.self.now c.args.i c.args.j).part =
    c.weight-weight.ensures ∙ (λ k. weight_at (get_or (c.as_slice-2.ensures k) c.args.j r).column (get_or (secrets k) c.args.i d).value)
    ∙ part_here c.args.self.now.rows c.args.self.now.secrets _ c.args.i c.args.j c.args.self.now.channel c.requires.secret c.requires.trace r d none in
    let whole : (get_or c.as_slice.result.now c.args.i d).weight ≡ (cell_at c.args.self.now c.args.i c.args.j).whole =
    (λ k. (get_or (secrets k) c.args.i d).weight)
    ∙ whole_here c.args.self.now.rows c.args.self.now.secrets _ c.args.i c.args.j c.args.self.now.channel c.requires.secret c.requires.trace r d none in
    c.share.ensures.num ∙ (λ k. reduced_num (pos (part k)) (whole k))

pub returns-clause-den : goal.returns-clause-den
returns-clause-den c =
    let d : Entry = record { value = 0; weight = 0 } in
    let none : Row = record { trace = []; column = [] } in
    let r : TraceRow = c.index-as_slice-j.result in
    let secrets : c.as_slice.result.now ≡ c.args.self.now.secrets = c.as_slice.ensures ∙ c.entries.ensures.kept in
    let part : c.weight-weight.result ≡ (cell_at c.args.self.now c.args.i c.args.j).part =
    c.weight-weight.ensures ∙ (λ k. weight_at (get_or (c.as_slice-2.ensures k) c.args.j r).column (get_or (secrets k) c.args.i d).value)
    ∙ part_here c.args.self.now.rows c.args.self.now.secrets _ c.args.i c.args.j c.args.self.now.channel c.requires.secret c.requires.trace r d none in
    let whole : (get_or c.as_slice.result.now c.args.i d).weight ≡ (cell_at c.args.self.now c.args.i c.args.j).whole =
    (λ k. (get_or (secrets k) c.args.i d).weight)
    ∙ whole_here c.args.self.now.rows c.args.self.now.secrets _ c.args.i c.args.j c.args.self.now.channel c.requires.secret c.requires.trace r d none in
    c.share.ensures.den ∙ (λ k. reduced_den (pos (part k)) (whole k))

pub returns-clause-from_zero : goal.returns-clause-from_zero
returns-clause-from_zero c = rw c.share.ensures.num (from_zero _ _)
