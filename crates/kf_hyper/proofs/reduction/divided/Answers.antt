use Rattle.std.proofs.Common.{ℕ, ◌<◌, ◌∙◌, ap, arith, length, set}
use Rattle.kf_column.specs.declared.entry.Entry.{Entry}
use Rattle.kf_column.proofs.Factors.{quotient, some_factor, reduced_is, multiplied}
use Rattle.kf_hyper.proofs.InPlace.{mapped_more, mapped_all}
use Rattle.kf_hyper.proofs.reduction.divided.Goals as goal

pub quotient-entry-requires : goal.quotient-entry-requires
quotient-entry-requires c = some_factor c.args.factor c.args.column c.requires c.into_entries-entries.ensures.column

pub loop-i-preserved : goal.loop-i-preserved
loop-i-preserved c =
    let within : c.loop-i.i < length c.into_entries-entries.result.items = omega (arith, c.len-i-end.ensures, c.loop-i-test.true) in
    ap (λ (n : ℕ). set c.loop-i.entries.items c.loop-i.i (record { value = c.index_mut-entry.result.now.value; weight = n })) c.quotient-entry.ensures
    ∙ ap (λ (e : Entry). set c.loop-i.entries.items c.loop-i.i (quotient c.args.factor e)) c.index_mut-entry.ensures.value
    ∙ mapped_more (quotient c.args.factor) c.into_entries-entries.result.items c.loop-i.entries.items c.loop-i.i c.index_mut-entry.result.now within c.loop-i.invariant

pub new-requires-2 : goal.new-requires-2
new-requires-2 c =
    let all = mapped_all (quotient c.args.factor) c.into_entries-entries.result.items c.loop-i.i (omega (arith, c.len-i-end.ensures, c.loop-i-test.false)) in
    rw (c.new.ensures, c.loop-i.invariant, all, c.into_entries-entries.ensures.kept) (reduced_is c.args.factor c.args.column c.requires c.into_entries-entries.ensures.column).is_inner.column

pub returns : goal.returns
returns c =
    let all = mapped_all (quotient c.args.factor) c.into_entries-entries.result.items c.loop-i.i (omega (arith, c.len-i-end.ensures, c.loop-i-test.false)) in
    let is = reduced_is c.args.factor c.args.column c.requires c.into_entries-entries.ensures.column in
    rw (c.new-2.ensures, c.new.ensures, c.loop-i.invariant, all, c.into_entries-entries.ensures.kept) (record { multiple = multiplied c.args.factor c.args.column c.requires.divides; inner = is.is_inner })
