use Rattle.std.proofs.Common.{◌≡◌, ℕ, ◌*◌, ◌/◌, ◌+◌, ◌∙◌, sym, ap, pos, FitsSigned, rules, arith}
use Rattle.std.proofs.lemmas.Int.{to_z-of_z, ints}
use mir.Syntax.{w64, w128}
use Rattle.kf_simplex.proofs.Entries.{made_ascends}
use Rattle.kf_refine.specs.Refinements.{count}
use Rattle.kf_refine.specs.Built.{whole}
use Rattle.kf_refine.specs.Views.{hyper_tree}
use Rattle.kf_refine.proofs.Coefficients.{IsWeight, weight_push, weight_skip, weights_are}
use Rattle.kf_refine.proofs.equations.value_weights.Goals.{then-weight-ne0+in_ok-push, else-weight-ne0}
use Rattle.kf_refine.proofs.equations.value_weights.Goals as goal

pub loop-i-preserved : goal.loop-i-preserved
loop-i-preserved c =
    let x : FitsSigned w64 c.in-Some.weight = search rules in
    let y : FitsSigned w128 c.in-Some.weight = omega (arith, ints) in
    let u = whole (hyper_tree c.args.a.now) c.args.scaling.now.a_divisor c.args.scaling.now.a_factor c.args.x in
    let is : c.in-Some.weight ≡ pos (u c.loop-i.i) =
    c.in-Some.ensures.1 ∙ ap (λ (w : ℕ). pos (w / c.args.scaling.now.a_divisor * c.args.scaling.now.a_factor)) c.weight.ensures in
    elim c.if-weight-ne0.branch [
      | then-weight-ne0+in_ok-push w ↦
          rw w.entries-is
          (weight_push u c.loop-i.i c.loop-i.entries.items w.push.new.self.items _ w.in_ok-push.ensures.items (simp to_z-of_z is) (rw (sym c.weight.ensures) c.in-Some.ensures.0)
          c.loop-i.invariant)
      | else-weight-ne0 w ↦
          rw w.entries-is (weight_skip u c.loop-i.i c.loop-i.entries.items (omega (arith, ints, w.if-weight-ne0.false, is)) c.loop-i.invariant)
    ]

pub invariant_of-result : goal.invariant_of-result
invariant_of-result c =
    let u = whole (hyper_tree c.args.a.now) c.args.scaling.now.a_divisor c.args.scaling.now.a_factor c.args.x in
    record { ascending = made_ascends (IsWeight u) c.loop-i.i c.loop-i.entries.items c.loop-i.invariant }

pub returns-clause-ok : goal.returns-clause-ok
returns-clause-ok c =
    let u = whole (hyper_tree c.args.a.now) c.args.scaling.now.a_divisor c.args.scaling.now.a_factor c.args.x in
    weights_are (count (hyper_tree c.args.a.now)) c.loop-i.i u c.loop-i.entries.items (omega (arith, c.loop-i-test.false, c.count-i-end.ensures))
    (omega (arith, c.loop-i.auto.i-end, c.count-i-end.ensures)) c.loop-i.invariant
