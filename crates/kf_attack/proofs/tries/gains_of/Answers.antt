use Rattle.std.proofs.Common.{ℕ, ◌<◌, ◌≤◌, List, [], sym, ◌∙◌, subst, arith, length}
use Rattle.std.proofs.lemmas.List.{drop_all}
use Rattle.kf_column.specs.declared.entry.Entry.{Entry}
use Rattle.kf_column.specs.Hypers.{Inner}
use Rattle.kf_hyper.specs.Views.{inner_at, inners_of, scale_of}
use Rattle.kf_attack.specs.Attacks.{AreRanked}
use Rattle.kf_attack.proofs.Inners.{Gathers, gathers_none, gathers_next, adds_fit, all_gathered}
use Rattle.kf_attack.proofs.tries.gains_of.Goals as goal

pub loop-i-init : goal.loop-i-init
loop-i-init c = subst (λ (l : List ℕ). Gathers (inners_of c.args.h.now) 0 l) (sym c.new-gains.ensures.items) (gathers_none (inners_of c.args.h.now))

pub add-requires : goal.add-requires
add-requires c =
    let inners : List Inner = inners_of c.args.h.now in
    let none : Inner = record { entries = []; total = 0 } in
    let inside : c.loop-i.i < length inners = subst (λ (n : ℕ). c.loop-i.i < n) c.count-i-end.ensures c.loop-i-test.true in
    let es : List Entry = c.as_slice-in-loop-i.result.now in
    let same = c.as_slice.ensures ∙ c.entries.ensures.kept ∙ c.inner.ensures.kept in
    let ranked : AreRanked (inner_at c.args.h.now c.loop-i.i).entries es =
    subst (λ (l : List Entry). AreRanked (inner_at c.args.h.now c.loop-i.i).entries l) (sym c.as_slice-in-loop-i.ensures.value) (subst (λ (l : List Entry). AreRanked l c.in_ok-entries.entries.items) same c.in_ok-entries.ensures) in
    record {
      fits = λ j.
          omega (
            arith,
            adds_fit _ (scale_of c.args.h.now) inners c.has_shape.ensures c.loop-i.i none inside es ranked c.multiple.result c.multiple.ensures c.loop-i.gains.items c.loop-i.invariant j,
            c.has_shape.ensures.narrow,
          );
    }

pub loop-i-preserved : goal.loop-i-preserved
loop-i-preserved c =
    let inners : List Inner = inners_of c.args.h.now in
    let none : Inner = record { entries = []; total = 0 } in
    let inside : c.loop-i.i < length inners = subst (λ (n : ℕ). c.loop-i.i < n) c.count-i-end.ensures c.loop-i-test.true in
    let es : List Entry = c.as_slice-in-loop-i.result.now in
    let same = c.as_slice.ensures ∙ c.entries.ensures.kept ∙ c.inner.ensures.kept in
    let ranked : AreRanked (inner_at c.args.h.now c.loop-i.i).entries es =
    subst (λ (l : List Entry). AreRanked (inner_at c.args.h.now c.loop-i.i).entries l) (sym c.as_slice-in-loop-i.ensures.value) (subst (λ (l : List Entry). AreRanked l c.in_ok-entries.entries.items) same c.in_ok-entries.ensures) in
    gathers_next _ (scale_of c.args.h.now) inners c.has_shape.ensures c.loop-i.i none inside es ranked c.multiple.result c.multiple.ensures c.loop-i.gains.items c.add.new.gains.items c.loop-i.invariant
    c.in_ok-add.ensures.added

pub returns-clause-gains : goal.returns-clause-gains
returns-clause-gains c =
    let inners : List Inner = inners_of c.args.h.now in
    let past : length inners ≤ c.loop-i.i = subst (λ (n : ℕ). n ≤ c.loop-i.i) c.count-i-end.ensures c.loop-i-test.false in
    all_gathered inners c.loop-i.i c.loop-i.gains.items (drop_all c.loop-i.i inners past) c.loop-i.invariant
