use Rattle.std.proofs.Common.{rules, ◌≡◌, ◌<◌, ◌≤◌, ◌*◌, ℕ, List, pos, to_z, of_z, sym, ◌∙◌, ap, subst, arith, length, get_or, unsigned_abs}
use Rattle.std.specs.Prelude.{ℤ, ◌+ℤ◌, ◌*ℤ◌, ◌≤ℤ◌, FitsSigned}
use Rattle.std.specs.Int.{w128}
use Rattle.std.proofs.lemmas.Int.{to_z-of_z, fits_signed_from_abs}
use Rattle.std.proofs.lemmas.List.{drop_all}
use Rattle.kf_frac.specs.Fractions.{limit}
use Rattle.kf_column.specs.declared.entry.Entry.{Entry}
use Rattle.kf_column.specs.Columns.{total}
use Rattle.kf_gain.specs.declared.table.Action.{Action}
use Rattle.kf_gain.specs.Gains.{Table}
use Rattle.kf_gain.specs.Worth.{IsVulnerability}
use Rattle.kf_gain.specs.Views.{table_tree}
use Rattle.kf_gain.specs.Vulnerabilities.{greatest, gains_of}
use Rattle.kf_cert.specs.NamedGains.{sum_at, column_excess}
use Rattle.kf_cert.proofs.Gaining.{size_is, amount_is, entry_fits, next_sum, next_fits, all_summed, is_best, best_within}
use Rattle.kf_cert.proofs.gain_rules.posterior.best_gain.Goals as goal

abbrev none : Entry
none = record { value = 0; weight = 0 }

pub add_all-requires-clause-fits : goal.add_all-requires-clause-fits
add_all-requires-clause-fits c =
    let t = table_tree c.args.table.now in
    let es = c.args.entries.now in
    let i = c.loop-entry.entry-index in
    let x = (get_or es i none).value in
    let named = c.at_value-named.result.now in
    λ k.
    entry_fits t es i none c.loop-entry-test.true named (amount_is t c.args.excesses.now named x c.requires.excesses c.at_value-named.ensures.sums)
    (size_is t c.args.excesses.now named x c.requires.excesses c.at_value-named.ensures.sums) k limit (sum_at c.loop-entry.sums k) (c.loop-entry.invariant.fits k)

pub loop-entry-preserved : goal.loop-entry-preserved
loop-entry-preserved c =
    let t = table_tree c.args.table.now in
    let es = c.args.entries.now in
    let i = c.loop-entry.entry-index in
    let x = (get_or es i none).value in
    let named = c.at_value-named.result.now in
    let amounts = amount_is t c.args.excesses.now named x c.requires.excesses c.at_value-named.ensures.sums in
    let sizes = size_is t c.args.excesses.now named x c.requires.excesses c.at_value-named.ensures.sums in
    record {
      sums = λ k. next_sum t es i none c.loop-entry-test.true named amounts sizes k _ _ (c.in_ok-add_all.ensures.sums k) _ (c.loop-entry.invariant.sums k);
      fits = λ k. next_fits t es i none c.loop-entry-test.true named amounts sizes k _ _ (c.in_ok-add_all.ensures.sums k) limit (c.loop-entry.invariant.fits k);
      below = c.in_ok-add_all.ensures.below (length t.actions) (c.at_value-named.ensures.each (length t.actions) c.requires.excesses.inside) c.loop-entry.invariant.below;
    }

pub overflow_add-result : goal.overflow_add-result
overflow_add-result c =
    let t = table_tree c.args.table.now in
    let es = c.args.entries.now in
    let m = c.loop-entry.sums in
    let most : ℤ = c.greatest_sum-greatest.result in
    let sums : (k : ℕ) → sum_at m k ≡ column_excess t k es =
    λ k. all_summed t k es c.loop-entry.entry-index (sum_at m k) (drop_all c.loop-entry.entry-index es c.loop-entry-test.false) (c.loop-entry.invariant.sums k) in
    let reached = subst (λ (l : List Action). (k : ℕ) × (k < length l) × (most ≡ sum_at m k)) c.as_slice.ensures c.greatest_sum-greatest.ensures.reached in
    let best = subst (λ (l : List Action). (k : ℕ) → k < length l → sum_at m k ≤ℤ most) c.as_slice.ensures c.greatest_sum-greatest.ensures.best in
    let product = c.times.result in
    let fit : FitsSigned w128 product = search rules in
    let fits : FitsSigned w128 most = search rules in
    let ranged : FitsSigned w128 t.rest = search rules in
    let same : product ≡ pos (total es) *ℤ t.rest = c.times.ensures ∙ (λ i. pos (c.requires.total i) *ℤ to_z-of_z w128 t.rest ranged i) in
    let whole : to_z w128 (of_z w128 product) +ℤ to_z w128 (of_z w128 most) ≡ pos (total es) *ℤ t.rest +ℤ most =
    (λ i. (to_z-of_z w128 product fit ∙ same) i +ℤ to_z-of_z w128 most fits i) in
    let room : total es * (2 * greatest (gains_of t)) ≤ limit = subst (λ (n : ℕ). n * (2 * greatest (gains_of t)) ≤ limit) c.requires.total c.requires.fits in
    fits_signed_from_abs w128 (to_z w128 (of_z w128 product) +ℤ to_z w128 (of_z w128 most)) (omega (arith, ap unsigned_abs whole, best_within t es (sum_at m) sums most reached best limit room))

pub returns : goal.returns
returns c =
    let t = table_tree c.args.table.now in
    let es = c.args.entries.now in
    let m = c.loop-entry.sums in
    let most : ℤ = c.greatest_sum-greatest.result in
    let sums : (k : ℕ) → sum_at m k ≡ column_excess t k es =
    λ k. all_summed t k es c.loop-entry.entry-index (sum_at m k) (drop_all c.loop-entry.entry-index es c.loop-entry-test.false) (c.loop-entry.invariant.sums k) in
    let reached = subst (λ (l : List Action). (k : ℕ) × (k < length l) × (most ≡ sum_at m k)) c.as_slice.ensures c.greatest_sum-greatest.ensures.reached in
    let best = subst (λ (l : List Action). (k : ℕ) → k < length l → sum_at m k ≤ℤ most) c.as_slice.ensures c.greatest_sum-greatest.ensures.best in
    let product = c.times.result in
    let fit : FitsSigned w128 product = search rules in
    let fits : FitsSigned w128 most = search rules in
    let ranged : FitsSigned w128 t.rest = search rules in
    let same : product ≡ pos (total es) *ℤ t.rest = c.times.ensures ∙ (λ i. pos (c.requires.total i) *ℤ to_z-of_z w128 t.rest ranged i) in
    let z : ℤ = to_z w128 (of_z w128 product) +ℤ to_z w128 (of_z w128 most) in
    let whole : z ≡ pos (total es) *ℤ t.rest +ℤ most = (λ i. (to_z-of_z w128 product fit ∙ same) i +ℤ to_z-of_z w128 most fits i) in
    let room : total es * (2 * greatest (gains_of t)) ≤ limit = subst (λ (n : ℕ). n * (2 * greatest (gains_of t)) ≤ limit) c.requires.total c.requires.fits in
    let within : FitsSigned w128 z = fits_signed_from_abs w128 z (omega (arith, ap unsigned_abs whole, best_within t es (sum_at m) sums most reached best limit room)) in
    subst (λ (z : ℤ). IsVulnerability (Table t) es z) (sym (to_z-of_z w128 z within ∙ whole)) (is_best t es (sum_at m) sums most reached best)
