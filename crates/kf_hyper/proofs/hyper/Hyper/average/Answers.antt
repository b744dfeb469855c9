use Rattle.std.proofs.Common.{◌≡◌, ℕ, ◌==◌, ◌*◌, ◌/◌, ◌<◌, List, refl, sym, ◌∙◌, ap, subst, arith, length, get_or}
use Rattle.std.proofs.Math.Nat.{mul_comm}
use Rattle.std.proofs.lemmas.List.{length-map}
use Rattle.kf_column.specs.declared.entry.Entry.{Entry}
use Rattle.kf_hyper.specs.declared.class.Class.{Class}
use Rattle.kf_column.specs.Columns.{weight_at, total}
use Rattle.kf_column.specs.Hypers.{Inner}
use Rattle.kf_value.specs.Numbers.{target_size}
use Rattle.kf_column.specs.Shapes.{IsBelow}
use Rattle.kf_hyper.specs.ClassViews.{inner_of}
use Rattle.kf_hyper.specs.Views.{target_of}
use Rattle.kf_hyper.specs.Sums.{ArePositive}
use Rattle.kf_column.specs.Averages.{joint_weight}
use Rattle.kf_hyper.proofs.Reading.{whole_some, times_some, times_whole, values_within}
use Rattle.kf_hyper.proofs.Averaging.{one_more, one_more_le, all_seen}
use Rattle.kf_hyper.proofs.hyper.Hyper.average.Goals as goal

pub quotient-times-requires : goal.quotient-times-requires
quotient-times-requires c =
    let all : c.deref-class-items.result.now ≡ c.args.self.now.classes.items = c.deref-class-items.ensures.value in
    whole_some c.args.self.now.classes.items c.loop-class.class-index c.class-item.result _ _ c.args.self.now.shape
    (rw (length-map, ← all) c.loop-class-test.true) (subst (λ (cs : List Class). c.class-item.result ≡ get_or cs c.loop-class.class-index c.class-item.result) all c.class-item.is) c.class-item.result.summed

pub push_times-requires : goal.push_times-requires
push_times-requires c =
    let all : c.deref-class-items.result.now ≡ c.args.self.now.classes.items = c.deref-class-items.ensures.value in
    let inside : c.loop-class.class-index < length c.args.self.now.classes.items = rw (← all) c.loop-class-test.true in
    let is : c.class-item.result ≡ get_or c.args.self.now.classes.items c.loop-class.class-index c.class-item.result =
    subst (λ (cs : List Class). c.class-item.result ≡ get_or cs c.loop-class.class-index c.class-item.result) all c.class-item.is in
    let column : c.as_slice.result.now ≡ c.class-item.result.inner = c.as_slice.ensures ∙ c.entries.ensures.kept in
    let part = one_more_le inner_of (λ (j : Inner). j.total) c.args.self.now.classes.items c.loop-class.class-index c.class-item.result inside is in
    let times = times_whole c.args.self.now.classes.items c.loop-class.class-index c.class-item.result _ _ c.args.self.now.shape (rw length-map inside) is c.class-item.result.summed in
    record {
      some = rw c.quotient-times.ensures (times_some c.args.self.now.classes.items c.loop-class.class-index c.class-item.result _ _ c.args.self.now.shape (rw length-map inside) is c.class-item.result.summed);
      positive = subst ArePositive (sym c.as_slice.ensures) c.entries.ensures.column.positive;
      fits = omega (
        arith,
        part,
        c.loop-class.invariant.totals,
        times,
        ap (λ (n : ℕ). n * total c.as_slice.result.now) c.quotient-times.ensures,
        ap (λ (es : List Entry). (c.class-item.result.total / c.class-item.result.whole) * total es) column,
        c.args.self.now.shape.whole,
        c.args.self.now.shape.narrow,
      );
    }

pub loop-class-init : goal.loop-class-init
loop-class-init c = record {
  weights = λ x. rw c.new-entries.ensures.items refl;
  totals = rw c.new-entries.ensures.items refl;
  positive = rw c.new-entries.ensures.items (λ k d within. absurd (omega arith));
  below = rw c.new-entries.ensures.items (λ k d within. absurd (omega arith));
}

pub loop-class-preserved : goal.loop-class-preserved
loop-class-preserved c =
    let all : c.deref-class-items.result.now ≡ c.args.self.now.classes.items = c.deref-class-items.ensures.value in
    let inside : c.loop-class.class-index < length c.args.self.now.classes.items = rw (← all) c.loop-class-test.true in
    let is : c.class-item.result ≡ get_or c.args.self.now.classes.items c.loop-class.class-index c.class-item.result =
    subst (λ (cs : List Class). c.class-item.result ≡ get_or cs c.loop-class.class-index c.class-item.result) all c.class-item.is in
    let column : c.as_slice.result.now ≡ c.class-item.result.inner = c.as_slice.ensures ∙ c.entries.ensures.kept in
    let times = times_whole c.args.self.now.classes.items c.loop-class.class-index c.class-item.result _ _ c.args.self.now.shape (rw length-map inside) is c.class-item.result.summed in
    record {
      weights = λ x.
          let gained : c.quotient-times.result * weight_at c.as_slice.result.now x ≡ joint_weight x (inner_of c.class-item.result) =
          ap (λ (n : ℕ). n * weight_at c.as_slice.result.now x) c.quotient-times.ensures
          ∙ mul_comm (c.class-item.result.total / c.class-item.result.whole) (weight_at c.as_slice.result.now x)
          ∙ ap (λ (es : List Entry). weight_at es x * (c.class-item.result.total / c.class-item.result.whole)) column
          ∙ ap (λ (n : ℕ). weight_at c.class-item.result.inner x * (c.class-item.result.total / n)) c.class-item.result.summed in
          omega (arith, c.in_ok-push_times.ensures.gains.weights x, c.loop-class.invariant.weights x, gained, one_more inner_of (joint_weight x) c.args.self.now.classes.items c.loop-class.class-index c.class-item.result inside is);
      totals = omega (
        arith,
        c.in_ok-push_times.ensures.gains.total,
        c.loop-class.invariant.totals,
        times,
        ap (λ (n : ℕ). n * total c.as_slice.result.now) c.quotient-times.ensures,
        ap (λ (es : List Entry). (c.class-item.result.total / c.class-item.result.whole) * total es) column,
        one_more inner_of (λ (j : Inner). j.total) c.args.self.now.classes.items c.loop-class.class-index c.class-item.result inside is,
      );
      positive = c.in_ok-push_times.ensures.positive c.loop-class.invariant.positive;
      below = c.in_ok-push_times.ensures.below (target_size (target_of c.args.self.now))
          (subst (IsBelow (target_size (target_of c.args.self.now))) (sym column)
          (values_within c.args.self.now.classes.items c.loop-class.class-index c.class-item.result _ _ c.args.self.now.shape (rw length-map inside) is))
          c.loop-class.invariant.below;
    }

-- what all classes give, once each is seen
pub gathered-requires : goal.gathered-requires
gathered-requires c =
    let past = rw c.deref-class-items.ensures.value at c.loop-class-test.false in
    let all = all_seen inner_of (λ (j : Inner). j.total) c.args.self.now.classes.items c.loop-class.class-index past in
    record {
      some = omega (arith, c.loop-class.invariant.totals, all, c.args.self.now.shape.whole, c.args.self.now.shape.some);
      positive = c.loop-class.invariant.positive;
      fits = omega (arith, c.loop-class.invariant.totals, all, c.args.self.now.shape.whole, c.args.self.now.shape.narrow);
    }

pub returns-clause-weights : goal.returns-clause-weights
returns-clause-weights c =
    let past = rw c.deref-class-items.ensures.value at c.loop-class-test.false in
    λ x. c.gathered.ensures.weights (λ v. v == x) ∙ c.loop-class.invariant.weights x ∙ all_seen inner_of (joint_weight x) c.args.self.now.classes.items c.loop-class.class-index past

pub returns-clause-total : goal.returns-clause-total
returns-clause-total c =
    let past = rw c.deref-class-items.ensures.value at c.loop-class-test.false in
    c.gathered.ensures.total ∙ c.loop-class.invariant.totals ∙ all_seen inner_of (λ (j : Inner). j.total) c.args.self.now.classes.items c.loop-class.class-index past ∙ c.args.self.now.shape.whole

pub returns-clause-below : goal.returns-clause-below
returns-clause-below c = c.gathered.ensures.below (target_size (target_of c.args.self.now)) c.loop-class.invariant.below
