use Rattle.std.proofs.Common.{rules, ◌<◌, All, sym, subst, length}
use Rattle.std.specs.List.Sorted.{IsNonDecreasingBy}
use borrow.Author.Tests.{tests}
use Rattle.std.proofs.lemmas.List.Sorted.{IsNonDecreasingBy-from_sort_by_key, All-permutation}
use Rattle.kf_hyper.specs.Views.{inners_of}
use Rattle.kf_frac.specs.Fractions.{limit}
use Rattle.kf_refine.specs.Views.{hyper_tree}
use Rattle.kf_cert.specs.declared.matrix_rules.shares.Share.{Share}
use Rattle.kf_cert.proofs.Matching.{carried_moved, moved_carried, total_moved, truth_told}
use Rattle.kf_cert.proofs.matrix_rules.cells.carries.Goals as goal

pub all_carried-requires-clause-inside : goal.all_carried-requires-clause-inside
all_carried-requires-clause-inside c =
    let count = length (inners_of c.args.a.now) in
    subst (All (λ (s : Share). s.row < count)) (sym c.as_slice.ensures.value)
    (All-permutation (λ (s : Share). s.row < count) c.args.shares.items c.sort_unstable_by_key.new.self.items c.sort_unstable_by_key.ensures.permutation c.requires.inside)

pub all_carried-requires-clause-ascending : goal.all_carried-requires-clause-ascending
all_carried-requires-clause-ascending c =
    subst (IsNonDecreasingBy (λ (s : Share). s.column)) (sym c.as_slice.ensures.value)
    (IsNonDecreasingBy-from_sort_by_key (λ (s : Share). s.column) c.sort_unstable_by_key.new.self.items c.sort_unstable_by_key.ensures.sorted (λ a r q k. search (rules, tests)))

pub all_carried-requires-clause-fits : goal.all_carried-requires-clause-fits
all_carried-requires-clause-fits c =
    λ j.
    rw c.as_slice.ensures.value
    (total_moved (hyper_tree c.args.a.now) c.args.shares.items c.sort_unstable_by_key.new.self.items j limit c.sort_unstable_by_key.ensures.permutation (c.requires.fits j))

pub returns : goal.returns
returns c =
    let a = hyper_tree c.args.a.now in
    let b = hyper_tree c.args.b.now in
    let moved = c.sort_unstable_by_key.new.self.items in
    truth_told c.all_carried.result
    (λ is j below. carried_moved a b c.args.over c.args.shares.items moved j c.sort_unstable_by_key.ensures.permutation (is j below))
    (λ carried j below. moved_carried a b c.args.over c.args.shares.items moved j c.sort_unstable_by_key.ensures.permutation (carried j below))
    (rw c.as_slice.ensures.value at c.all_carried.ensures)
