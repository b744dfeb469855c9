use Rattle.std.proofs.Common.{rules, ◌≡◌, ℕ, ◌*◌, ◌/◌, ◌≤◌, ◌<◌, List, [], pos, to_z, of_z, arith, ap, sym, ◌∙◌, subst, length, get_or}
use Rattle.std.specs.Prelude.{ℤ, ◌+ℤ◌, ◌*ℤ◌, unsigned_abs, FitsSigned}
use Rattle.std.specs.Int.{w128}
use Rattle.std.proofs.lemmas.Int.{to_z-of_z, fits_signed_from_abs}
use Rattle.std.proofs.lemmas.List.{drop_all}
use Rattle.kf_frac.specs.Fractions.{limit}
use Rattle.kf_column.specs.declared.entry.Entry.{Entry}
use Rattle.kf_column.specs.Columns.{total}
use Rattle.kf_column.specs.Hypers.{Inner}
use Rattle.kf_hyper.specs.Views.{inners_of, scale_of}
use Rattle.kf_gain.specs.Gains.{GainOf, Table, TableTree}
use Rattle.kf_gain.specs.Worth.{IsVulnerability}
use Rattle.kf_gain.specs.Vulnerabilities.{IsPosterior, width}
use Rattle.kf_gain.specs.Views.{table_tree}
use Rattle.kf_gain.proofs.Turning.{width_on, some_total, inner_within, inner_fits, product_fits, sum_within, sum_fits, next_inner, all_seen}
use Rattle.kf_cert.proofs.Gaining.{inner_room}
use Rattle.kf_cert.proofs.gain_rules.posterior.seen.Goals as goal

abbrev none : Inner
none = record { entries = []; total = 0 }

pub total-total-requires : goal.total-total-requires
total-total-requires c =
    let inners : List Inner = inners_of c.args.h.now in
    let i : ℕ = c.loop-i.i in
    let g : GainOf TableTree = Table (table_tree c.args.table.now) in
    let inside : i < length inners = subst (λ (n : ℕ). i < n) c.count-i-end.ensures c.loop-i-test.true in
    omega (arith, inner_within _ (scale_of c.args.h.now) g inners c.has_shape.ensures i none inside, ap total c.inner-inner.ensures.kept, c.has_shape.ensures.narrow)

pub best_gain-requires-clause-narrow : goal.best_gain-requires-clause-narrow
best_gain-requires-clause-narrow c =
    let inners : List Inner = inners_of c.args.h.now in
    let i : ℕ = c.loop-i.i in
    let g : GainOf TableTree = Table (table_tree c.args.table.now) in
    let inside : i < length inners = subst (λ (n : ℕ). i < n) c.count-i-end.ensures c.loop-i-test.true in
    let part : c.total-total.result ≡ total (get_or inners i none).entries = c.total-total.ensures ∙ ap total c.inner-inner.ensures.kept in
    omega (arith, inner_within _ (scale_of c.args.h.now) g inners c.has_shape.ensures i none inside, part, c.has_shape.ensures.narrow)

pub best_gain-requires-clause-fits : goal.best_gain-requires-clause-fits
best_gain-requires-clause-fits c =
    let inners : List Inner = inners_of c.args.h.now in
    let i : ℕ = c.loop-i.i in
    let g : GainOf TableTree = Table (table_tree c.args.table.now) in
    let inside : i < length inners = subst (λ (n : ℕ). i < n) c.count-i-end.ensures c.loop-i-test.true in
    let fits : scale_of c.args.h.now * width_on g inners ≤ limit = c.requires in
    let part : c.total-total.result ≡ total (get_or inners i none).entries = c.total-total.ensures ∙ ap total c.inner-inner.ensures.kept in
    inner_room (table_tree c.args.table.now) c.total-total.result limit
    (subst (λ (n : ℕ). n * width g (length (get_or inners i none).entries) ≤ limit) (sym part) (inner_fits _ (scale_of c.args.h.now) g inners c.has_shape.ensures i none inside limit fits))

pub nonzero_div-total : goal.nonzero_div-total
nonzero_div-total c =
    let inners : List Inner = inners_of c.args.h.now in
    let i : ℕ = c.loop-i.i in
    let g : GainOf TableTree = Table (table_tree c.args.table.now) in
    let inside : i < length inners = subst (λ (n : ℕ). i < n) c.count-i-end.ensures c.loop-i-test.true in
    let part : c.total-total.result ≡ total (get_or inners i none).entries = c.total-total.ensures ∙ ap total c.inner-inner.ensures.kept in
    omega (arith, some_total _ (scale_of c.args.h.now) g inners c.has_shape.ensures i none inside, part)

pub times-sum-requires-clause-fits : goal.times-sum-requires-clause-fits
times-sum-requires-clause-fits c =
    let inners : List Inner = inners_of c.args.h.now in
    let i : ℕ = c.loop-i.i in
    let g : GainOf TableTree = Table (table_tree c.args.table.now) in
    let inside : i < length inners = subst (λ (n : ℕ). i < n) c.count-i-end.ensures c.loop-i-test.true in
    let fits : scale_of c.args.h.now * width_on g inners ≤ limit = c.requires in
    let part : c.total-total.result ≡ total (get_or inners i none).entries = c.total-total.ensures ∙ ap total c.inner-inner.ensures.kept in
    let same : c.as_slice-entries.result.now ≡ (get_or inners i none).entries = c.as_slice-entries.ensures ∙ c.entries.ensures.kept ∙ c.inner-inner.ensures.kept in
    let multiple : c.total.result / c.total-total.result ≡ (get_or inners i none).total / total (get_or inners i none).entries = λ j. c.total.ensures j / part j in
    let v : ℤ = c.in_ok-best.best in
    let ranged : FitsSigned w128 v = search rules in
    let kept : to_z w128 (of_z w128 v) ≡ v = to_z-of_z w128 v ranged in
    let is : IsVulnerability g (get_or inners i none).entries v = subst (λ (es : List Entry). IsVulnerability g es v) same c.in_ok-best.ensures in
    omega (
      arith,
      product_fits _ (scale_of c.args.h.now) g inners c.has_shape.ensures i none inside v is limit fits,
      ap (λ (n : ℕ). n * unsigned_abs v) multiple,
      ap (λ (x : ℤ). (c.total.result / c.total-total.result) * unsigned_abs x) kept,
    )

pub overflow_add-sum : goal.overflow_add-sum
overflow_add-sum c =
    let inners : List Inner = inners_of c.args.h.now in
    let i : ℕ = c.loop-i.i in
    let g : GainOf TableTree = Table (table_tree c.args.table.now) in
    let inside : i < length inners = subst (λ (n : ℕ). i < n) c.count-i-end.ensures c.loop-i-test.true in
    let fits : scale_of c.args.h.now * width_on g inners ≤ limit = c.requires in
    let part : c.total-total.result ≡ total (get_or inners i none).entries = c.total-total.ensures ∙ ap total c.inner-inner.ensures.kept in
    let same : c.as_slice-entries.result.now ≡ (get_or inners i none).entries = c.as_slice-entries.ensures ∙ c.entries.ensures.kept ∙ c.inner-inner.ensures.kept in
    let multiple : c.total.result / c.total-total.result ≡ (get_or inners i none).total / total (get_or inners i none).entries = λ j. c.total.ensures j / part j in
    let v : ℤ = c.in_ok-best.best in
    let ranged : FitsSigned w128 v = search rules in
    let kept : to_z w128 (of_z w128 v) ≡ v = to_z-of_z w128 v ranged in
    let is : IsVulnerability g (get_or inners i none).entries v = subst (λ (es : List Entry). IsVulnerability g es v) same c.in_ok-best.ensures in
    let fit : FitsSigned w128 c.times-sum.result = search rules in
    let z : ℤ = to_z w128 (of_z w128 c.times-sum.result) in
    let sum : ℤ = to_z w128 c.loop-i.sum-bits in
    let product : z ≡ pos ((get_or inners i none).total / total (get_or inners i none).entries) *ℤ v =
    to_z-of_z w128 c.times-sum.result fit ∙ c.times-sum.ensures ∙ (λ j. pos (multiple j) *ℤ kept j) in
    fits_signed_from_abs w128 (sum +ℤ z) (omega (arith, sum_fits _ (scale_of c.args.h.now) g inners c.has_shape.ensures i none inside v is sum z product limit fits c.loop-i.invariant.within))

pub loop-i-preserved : goal.loop-i-preserved
loop-i-preserved c =
    let inners : List Inner = inners_of c.args.h.now in
    let i : ℕ = c.loop-i.i in
    let g : GainOf TableTree = Table (table_tree c.args.table.now) in
    let inside : i < length inners = subst (λ (n : ℕ). i < n) c.count-i-end.ensures c.loop-i-test.true in
    let fits : scale_of c.args.h.now * width_on g inners ≤ limit = c.requires in
    let part : c.total-total.result ≡ total (get_or inners i none).entries = c.total-total.ensures ∙ ap total c.inner-inner.ensures.kept in
    let same : c.as_slice-entries.result.now ≡ (get_or inners i none).entries = c.as_slice-entries.ensures ∙ c.entries.ensures.kept ∙ c.inner-inner.ensures.kept in
    let multiple : c.total.result / c.total-total.result ≡ (get_or inners i none).total / total (get_or inners i none).entries = λ j. c.total.ensures j / part j in
    let v : ℤ = c.in_ok-best.best in
    let ranged : FitsSigned w128 v = search rules in
    let kept : to_z w128 (of_z w128 v) ≡ v = to_z-of_z w128 v ranged in
    let is : IsVulnerability g (get_or inners i none).entries v = subst (λ (es : List Entry). IsVulnerability g es v) same c.in_ok-best.ensures in
    let fit : FitsSigned w128 c.times-sum.result = search rules in
    let z : ℤ = to_z w128 (of_z w128 c.times-sum.result) in
    let sum : ℤ = to_z w128 c.loop-i.sum-bits in
    let product : z ≡ pos ((get_or inners i none).total / total (get_or inners i none).entries) *ℤ v =
    to_z-of_z w128 c.times-sum.result fit ∙ c.times-sum.ensures ∙ (λ j. pos (multiple j) *ℤ kept j) in
    let whole : FitsSigned w128 (sum +ℤ z) = fits_signed_from_abs w128 (sum +ℤ z) (omega (arith, sum_fits _ (scale_of c.args.h.now) g inners c.has_shape.ensures i none inside v is sum z product limit fits c.loop-i.invariant.within)) in
    let both : to_z w128 (of_z w128 (sum +ℤ z)) ≡ sum +ℤ z = to_z-of_z w128 (sum +ℤ z) whole in
    record {
      others = λ y p. subst (λ (x : ℤ). IsPosterior g inners (x +ℤ y)) (sym both) (next_inner _ (scale_of c.args.h.now) g inners c.has_shape.ensures i none inside v is sum z product c.loop-i.invariant.others y p);
      within = rw both (sum_within _ (scale_of c.args.h.now) g inners c.has_shape.ensures i none inside v is sum z product c.loop-i.invariant.within);
    }

pub returns : goal.returns
returns c =
    let inners : List Inner = inners_of c.args.h.now in
    let past : length inners ≤ c.loop-i.i = subst (λ (n : ℕ). n ≤ c.loop-i.i) c.count-i-end.ensures c.loop-i-test.false in
    all_seen (Table (table_tree c.args.table.now)) inners c.loop-i.i _ (drop_all c.loop-i.i inners past) c.loop-i.invariant.others
