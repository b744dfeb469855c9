use Rattle.std.proofs.Common.{◌≡◌, ℕ, ◌*◌, ◌/◌, ◌<◌, ◌∙◌, map, ap, sym, subst, arith, length, set}
use Rattle.std.proofs.Math.Nat.{mul_comm}
use Rattle.kf_hyper.specs.declared.class.Class.{Class}
use Rattle.kf_column.specs.declared.entry.Entry.{Entry}
use Rattle.kf_column.specs.Averages.{scaled, joint_column}
use Rattle.kf_column.specs.Columns.{IsColumn}
use Rattle.kf_hyper.specs.ClassViews.{inner_of, class_of}
use Rattle.kf_column.proofs.ClassSums.{class_column}
use Rattle.kf_column.proofs.Scaling.{scaled_one}
use Rattle.kf_hyper.proofs.InPlace.{mapped_more, mapped_all}
use Rattle.kf_hyper.proofs.posteriors.multiplied.Goals as goal

-- the class's sum, by the whole that is kept with it
by_whole : (class : Class) → map (scaled (class.total / class.whole)) class.inner ≡ joint_column (inner_of class)
by_whole class = ap (λ (n : ℕ). map (scaled (class.total / n)) class.inner) class.summed

by_times : (class : Class) (times : ℕ) → times ≡ class.total / class.whole → map (scaled times) class.inner ≡ joint_column (inner_of class)
by_times class times is = ap (λ (n : ℕ). map (scaled n) class.inner) is ∙ by_whole class

pub returns-then-times-eq1 : goal.returns-then-times-eq1
returns-then-times-eq1 c = sym (scaled_one c.args.class.inner) ∙ ap (λ (n : ℕ). map (scaled n) c.args.class.inner) (sym c.if-times-eq1.true) ∙ by_times c.args.class c.quotient-times.result c.quotient-times.ensures

pub loop-i-preserved : goal.loop-i-preserved
loop-i-preserved c =
    let times : ℕ = c.quotient-times.result in
    let within : c.loop-i.i < length c.into_entries-entries.result.items = omega (arith, c.len-i-end.ensures, c.loop-i-test.true) in
    ap (λ (e : Entry). set c.loop-i.entries.items c.loop-i.i (record { value = e.value; weight = e.weight * times })) c.index_mut.ensures.value
    ∙ sym (ap (λ (e : Entry). set c.loop-i.entries.items c.loop-i.i (record { value = e.value; weight = e.weight * times })) c.index_mut.ensures.value)
    ∙ ap (λ (n : ℕ). set c.loop-i.entries.items c.loop-i.i (record { value = c.index_mut.result.now.value; weight = n })) (mul_comm c.index_mut.result.now.weight times)
    ∙ ap (λ (e : Entry). set c.loop-i.entries.items c.loop-i.i (scaled times e)) c.index_mut.ensures.value
    ∙ mapped_more (scaled times) c.into_entries-entries.result.items c.loop-i.entries.items c.loop-i.i c.index_mut.result.now within c.loop-i.invariant

pub new-requires-2 : goal.new-requires-2
new-requires-2 c =
    let all = mapped_all (scaled c.quotient-times.result) c.into_entries-entries.result.items c.loop-i.i (omega (arith, c.len-i-end.ensures, c.loop-i-test.false)) in
    rw (c.new.ensures, c.loop-i.invariant, all, c.into_entries-entries.ensures.kept) (subst IsColumn (sym (by_times c.args.class c.quotient-times.result c.quotient-times.ensures)) (class_column (class_of c.args.class) c.requires))
