use Rattle.std.proofs.Common.{rules, ◌≡◌, ◌*◌, ◌==◌, ℕ, pos, to_z, of_z, ◌∙◌, ap, arith, get_or, unsigned_abs, if◌then◌else◌}
use Rattle.std.specs.Prelude.{◌*ℤ◌, ◌+ℤ◌, FitsSigned}
use Rattle.std.specs.Int.{w128}
use Rattle.std.proofs.lemmas.Int.{to_z-of_z, unsigned_abs-mul}
use Rattle.std.proofs.lemmas.List.{drop_all}
use Rattle.kf_frac.specs.Fractions.{limit}
use Rattle.kf_cert.specs.NamedGains.{sum_at}
use Rattle.kf_cert.specs.declared.gain_rules.excess.Excess.{Excess}
use Rattle.kf_cert.proofs.ActionSums.{product_fits, next_amount, next_size, all_added}
use Rattle.kf_cert.proofs.gain_rules.sums.add_all.Goals as goal

abbrev none : Excess
none = record { value = 0; action = 0; amount = pos 0 }

pub times-requires-clause-fits : goal.times-requires-clause-fits
times-requires-clause-fits c =
    let es = c.args.excesses.now in
    let e : Excess = get_or es c.loop-excess.excess-index none in
    let fits : FitsSigned w128 e.amount = search rules in
    let same : to_z w128 (of_z w128 e.amount) ≡ e.amount = to_z-of_z w128 e.amount fits in
    let room = product_fits es c.args.weight c.loop-excess.excess-index none c.loop-excess-test.true limit (sum_at c.loop-excess.sums e.action) (c.loop-excess.invariant.fits e.action) in
    omega (arith, room, ap (λ z. c.args.weight * unsigned_abs z) same)

pub add-requires : goal.add-requires
add-requires c =
    let es = c.args.excesses.now in
    let e : Excess = get_or es c.loop-excess.excess-index none in
    let fits : FitsSigned w128 e.amount = search rules in
    let fit : FitsSigned w128 c.times.result = search rules in
    let product : to_z w128 (of_z w128 c.times.result) ≡ pos c.args.weight *ℤ e.amount =
    to_z-of_z w128 c.times.result fit ∙ c.times.ensures ∙ ap (λ z. pos c.args.weight *ℤ z) (to_z-of_z w128 e.amount fits) in
    let room = product_fits es c.args.weight c.loop-excess.excess-index none c.loop-excess-test.true limit (sum_at c.loop-excess.sums e.action) (c.loop-excess.invariant.fits e.action) in
    omega (arith, room, ap unsigned_abs product, unsigned_abs-mul (pos c.args.weight) e.amount)

pub loop-excess-preserved : goal.loop-excess-preserved
loop-excess-preserved c =
    let es = c.args.excesses.now in
    let w = c.args.weight in
    let i = c.loop-excess.excess-index in
    let e : Excess = get_or es i none in
    let fits : FitsSigned w128 e.amount = search rules in
    let fit : FitsSigned w128 c.times.result = search rules in
    let product : to_z w128 (of_z w128 c.times.result) ≡ pos w *ℤ e.amount =
    to_z-of_z w128 c.times.result fit ∙ c.times.ensures ∙ ap (λ z. pos w *ℤ z) (to_z-of_z w128 e.amount fits) in
    let added : (k : ℕ) → sum_at c.add.new.sums k ≡ sum_at c.loop-excess.sums k +ℤ (if e.action == k then pos w *ℤ e.amount else pos 0) =
    λ k. c.in_ok-add.ensures.sums k ∙ ap (λ z. sum_at c.loop-excess.sums k +ℤ (if e.action == k then z else pos 0)) product in
    record {
      sums = λ k. next_amount es w i none c.loop-excess-test.true k _ _ _ (c.loop-excess.invariant.sums k) (added k);
      fits = λ k. next_size es w i none c.loop-excess-test.true k limit _ _ (c.loop-excess.invariant.fits k) (added k);
      below = λ count all had. c.in_ok-add.ensures.below count (all i none c.loop-excess-test.true) (c.loop-excess.invariant.below count all had);
    }

pub returns-clause-sums : goal.returns-clause-sums
returns-clause-sums c = λ k.
    all_added c.args.excesses.now c.args.weight c.loop-excess.excess-index k _ _ (drop_all c.loop-excess.excess-index c.args.excesses.now c.loop-excess-test.false) (c.loop-excess.invariant.sums k)
