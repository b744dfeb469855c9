use Rattle.std.proofs.Common.{◌≡◌, ◌*◌, ◌<◌, ◌≤◌, ℕ, List, All, map, sym, ◌∙◌, subst, true≢false}
use Rattle.kf_frac.specs.Divisors.{common_multiple}
use Rattle.kf_frac.specs.Fractions.{limit}
use Rattle.kf_refine.specs.Refinements.{count}
use Rattle.kf_refine.specs.Views.{hyper_tree}
use Rattle.kf_cert.specs.Certificates.{EntryTree, matrix_of}
use Rattle.kf_cert.specs.Rows.{matrix_between, AreWithin, SumsToOne, dens, share_of}
use Rattle.kf_cert.specs.Views.{entry_tree}
use Rattle.kf_cert.specs.declared.matrix_rules.shares.Share.{Share}
use Rattle.kf_cert.proofs.EntryRules.{within_range, range_within, scaled, scaled_back, sums_told, told_sums, carries_told, told_carries, columns_fit, shares_inside}
use Rattle.kf_cert.proofs.Multiples.{are_fractions}
use Rattle.kf_cert.proofs.Rejecting.{range_broken, too_wide, sum_broken, cell_broken, none_broken}
use Rattle.kf_cert.proofs.matrix_rules.check_entries.Goals as goal

pub returns-then-not-are_within-clause-is : goal.returns-then-not-are_within-clause-is
returns-then-not-are_within-clause-is c =
    let a = hyper_tree c.args.a.now in
    let b = hyper_tree c.args.b.now in
    let es : List EntryTree = map entry_tree c.args.entries.now in
    range_broken a b (matrix_of (matrix_between a b es))
    (λ range. absurd (true≢false (sym (c.are_within.ensures.1 (range_within a b es c.requires range)) ∙ c.if-not-are_within.true)))

pub returns-in_default-clause-err : goal.returns-in_default-clause-err
returns-in_default-clause-err c =
    let a = hyper_tree c.args.a.now in
    let b = hyper_tree c.args.b.now in
    let es : List EntryTree = map entry_tree c.args.entries.now in
    let fractions = are_fractions c.args.entries.now in
    let within : AreWithin es = c.are_within.ensures.0 c.if-not-are_within.false in
    λ other.
    too_wide a b (matrix_of (matrix_between a b es)) (within_range a b es c.requires within)
    (λ narrow. c.in_default.ensures.exact (scaled a b es c.requires fractions c.scale.result c.scale.ensures.kept narrow))

pub sum_to_one-requires : goal.sum_to_one-requires
sum_to_one-requires c =
    let a = hyper_tree c.args.a.now in
    let b = hyper_tree c.args.b.now in
    let es : List EntryTree = map entry_tree c.args.entries.now in
    let fractions = are_fractions c.args.entries.now in
    let within : AreWithin es = c.are_within.ensures.0 c.if-not-are_within.false in
    let over : c.in-Some.over ≡ common_multiple (dens es) = c.in-Some.ensures.exact.1 in
    let made : c.in_ok-shares.shares.items ≡ map (share_of c.in-Some.over) es = c.in_ok-shares.ensures in
    let list = c.in_ok-shares.shares.items in
    let inside = shares_inside a b es c.requires fractions within c.in-Some.over list over made in
    subst (λ (l : List Share). All (λ s. s.row < c.count.result) l) (sym c.as_slice.ensures.value) (subst (λ (n : ℕ). All (λ s. s.row < n) list) (sym c.count.ensures) inside)

pub returns-then-not-branch-clause-is : goal.returns-then-not-branch-clause-is
returns-then-not-branch-clause-is c =
    let a = hyper_tree c.args.a.now in
    let b = hyper_tree c.args.b.now in
    let es : List EntryTree = map entry_tree c.args.entries.now in
    let fractions = are_fractions c.args.entries.now in
    let within : AreWithin es = c.are_within.ensures.0 c.if-not-are_within.false in
    let over : c.in-Some.over ≡ common_multiple (dens es) = c.in-Some.ensures.exact.1 in
    let fits : c.scale.result * common_multiple (dens es) ≤ limit = c.in-Some.ensures.exact.0 in
    let narrow = scaled_back a b es c.requires fractions c.scale.result c.scale.ensures.kept fits in
    let made : c.in_ok-shares.shares.items ≡ map (share_of c.in-Some.over) es = c.in_ok-shares.ensures in
    let range = within_range a b es c.requires within in
    let list = c.in_ok-shares.shares.items in
    sum_broken a b (matrix_of (matrix_between a b es)) range narrow
    (λ sums.
    let told : SumsToOne c.in-Some.over (count a) list = told_sums a b es c.requires fractions within c.in-Some.over list over made sums in
    let there : SumsToOne c.in-Some.over c.count.result c.as_slice.result.now =
    subst (λ l. SumsToOne c.in-Some.over c.count.result l) (sym c.as_slice.ensures.value) (subst (λ n. SumsToOne c.in-Some.over n list) (sym c.count.ensures) told) in
    absurd (true≢false (sym (c.in_ok-sum_to_one.ensures.1 there) ∙ c.if-not-branch.true)))

pub carries-requires-clause-inside : goal.carries-requires-clause-inside
carries-requires-clause-inside c =
    let a = hyper_tree c.args.a.now in
    let b = hyper_tree c.args.b.now in
    let es : List EntryTree = map entry_tree c.args.entries.now in
    let fractions = are_fractions c.args.entries.now in
    let within : AreWithin es = c.are_within.ensures.0 c.if-not-are_within.false in
    let over : c.in-Some.over ≡ common_multiple (dens es) = c.in-Some.ensures.exact.1 in
    let made : c.in_ok-shares.shares.items ≡ map (share_of c.in-Some.over) es = c.in_ok-shares.ensures in
    let list = c.in_ok-shares.shares.items in
    shares_inside a b es c.requires fractions within c.in-Some.over list over made

pub carries-requires-clause-fits : goal.carries-requires-clause-fits
carries-requires-clause-fits c =
    let a = hyper_tree c.args.a.now in
    let b = hyper_tree c.args.b.now in
    let es : List EntryTree = map entry_tree c.args.entries.now in
    let fractions = are_fractions c.args.entries.now in
    let within : AreWithin es = c.are_within.ensures.0 c.if-not-are_within.false in
    let over : c.in-Some.over ≡ common_multiple (dens es) = c.in-Some.ensures.exact.1 in
    let made : c.in_ok-shares.shares.items ≡ map (share_of c.in-Some.over) es = c.in_ok-shares.ensures in
    let list = c.in_ok-shares.shares.items in
    let fits : c.scale.result * common_multiple (dens es) ≤ limit = c.in-Some.ensures.exact.0 in
    let narrow : a.scale * c.in-Some.over ≤ limit =
    subst (λ (n : ℕ). n * c.in-Some.over ≤ limit) c.scale.ensures.kept (subst (λ (d : ℕ). c.scale.result * d ≤ limit) (sym over) fits) in
    columns_fit a b es c.requires fractions within c.in-Some.over list over made c.scale.ensures.shape.whole narrow

pub returns-then-not-branch-2-clause-is : goal.returns-then-not-branch-2-clause-is
returns-then-not-branch-2-clause-is c =
    let a = hyper_tree c.args.a.now in
    let b = hyper_tree c.args.b.now in
    let es : List EntryTree = map entry_tree c.args.entries.now in
    let fractions = are_fractions c.args.entries.now in
    let within : AreWithin es = c.are_within.ensures.0 c.if-not-are_within.false in
    let over : c.in-Some.over ≡ common_multiple (dens es) = c.in-Some.ensures.exact.1 in
    let fits : c.scale.result * common_multiple (dens es) ≤ limit = c.in-Some.ensures.exact.0 in
    let narrow = scaled_back a b es c.requires fractions c.scale.result c.scale.ensures.kept fits in
    let made : c.in_ok-shares.shares.items ≡ map (share_of c.in-Some.over) es = c.in_ok-shares.ensures in
    let range = within_range a b es c.requires within in
    let list = c.in_ok-shares.shares.items in
    let sums : SumsToOne c.in-Some.over (count a) list =
    subst (λ n. SumsToOne c.in-Some.over n list) c.count.ensures (subst (λ l. SumsToOne c.in-Some.over c.count.result l) c.as_slice.ensures.value (c.in_ok-sum_to_one.ensures.0 c.if-not-branch.false)) in
    let summed = sums_told a b es c.requires fractions within c.in-Some.over list over made sums in
    cell_broken a b (matrix_of (matrix_between a b es)) range narrow summed
    (λ carried.
    absurd (true≢false (sym (c.in_ok-carries.ensures.1 (told_carries a b es c.requires fractions within c.in-Some.over list over made carried)) ∙ c.if-not-branch-2.true)))

pub returns-clause-is : goal.returns-clause-is
returns-clause-is c =
    let a = hyper_tree c.args.a.now in
    let b = hyper_tree c.args.b.now in
    let es : List EntryTree = map entry_tree c.args.entries.now in
    let fractions = are_fractions c.args.entries.now in
    let within : AreWithin es = c.are_within.ensures.0 c.if-not-are_within.false in
    let over : c.in-Some.over ≡ common_multiple (dens es) = c.in-Some.ensures.exact.1 in
    let fits : c.scale.result * common_multiple (dens es) ≤ limit = c.in-Some.ensures.exact.0 in
    let narrow = scaled_back a b es c.requires fractions c.scale.result c.scale.ensures.kept fits in
    let made : c.in_ok-shares.shares.items ≡ map (share_of c.in-Some.over) es = c.in_ok-shares.ensures in
    let range = within_range a b es c.requires within in
    let list = c.in_ok-shares.shares.items in
    let sums : SumsToOne c.in-Some.over (count a) list =
    subst (λ n. SumsToOne c.in-Some.over n list) c.count.ensures (subst (λ l. SumsToOne c.in-Some.over c.count.result l) c.as_slice.ensures.value (c.in_ok-sum_to_one.ensures.0 c.if-not-branch.false)) in
    let summed = sums_told a b es c.requires fractions within c.in-Some.over list over made sums in
    none_broken a b (matrix_of (matrix_between a b es)) range narrow summed
    (carries_told a b es c.requires fractions within c.in-Some.over list over made (c.in_ok-carries.ensures.0 c.if-not-branch-2.false))
