use Rattle.std.proofs.Common.{◌<◌, ℕ, sym, ap, ◌∙◌, subst, List, All, length, arith}
use Rattle.std.proofs.lemmas.List.Elements.{All-push}
use Rattle.kf_value.specs.Shapes.{shape_types}
use Rattle.kf_core.specs.Views.{dx_shape}
use Rattle.kf_eval.specs.Reads.{dist_reads}
use Rattle.kf_eval.proofs.Holding.{types_length}
use Rattle.kf_eval.proofs.Listing.{listed, passed}
use Rattle.kf_eval.proofs.read_slots.slots_read.Goals.{then-dist_reads+in_ok-push, else-dist_reads}
use Rattle.kf_eval.proofs.read_slots.slots_read.Goals as goal

pub loop-i-preserved : goal.loop-i-preserved
loop-i-preserved c =
    let n = length (shape_types c.args.shape.now) in
    let pass = λ (j : ℕ). dist_reads j (dx_shape c.args.dist.now.node) in
    let before = c.loop-i.invariant in
    let within : c.loop-i.i < n =
    omega (arith, c.loop-i-test.true, types_length c.args.shape.now c.types.result.now c.as_slice-i-end.result.now c.types.ensures c.as_slice-i-end.ensures) in
    elim c.if-dist_reads.branch [
      | then-dist_reads+in_ok-push w ↦
          let is = ap (λ v. v.items) w.slots-is ∙ w.in_ok-push.ensures.items in
          record {
            within = subst (λ (l : List ℕ). All (λ (j : ℕ). j < n) l) (sym is) (All-push (λ (j : ℕ). j < n) c.loop-i.slots.items c.loop-i.i before.within within);
            all = listed pass c.loop-i.i c.loop-i.slots.items c.if-dist_reads.slots.items before.all is;
          }
      | else-dist_reads w ↦
          let is = ap (λ v. v.items) w.slots-is in
          record {
            within = subst (λ (l : List ℕ). All (λ (j : ℕ). j < n) l) (sym is) before.within;
            all = passed pass c.loop-i.i c.loop-i.slots.items c.if-dist_reads.slots.items before.all is (sym c.dist_reads.ensures ∙ w.if-dist_reads.false);
          }
    ]

pub returns-clause-within : goal.returns-clause-within
returns-clause-within c = c.loop-i.invariant.within

pub returns-clause-all : goal.returns-clause-all
returns-clause-all c = λ i within is.
    let long = types_length c.args.shape.now c.types.result.now c.as_slice-i-end.result.now c.types.ensures c.as_slice-i-end.ensures in
    c.loop-i.invariant.all i (omega (arith, within, long, c.loop-i-test.false)) is
