use Rattle.std.proofs.Common.{Err, ap, ◌∙◌, arith}
use Rattle.std.proofs.lemmas.Result.{err_from_is_err_and}
use Rattle.kf_value.specs.Shapes.{shape_sizes}
use Rattle.kf_value.specs.Types.{product}
use Rattle.kf_core.specs.Views.{program_tree}
use Rattle.kf_support.proofs.Deciding as telling
use Rattle.kf_support.proofs.support.clear.Goals as goal

pub returns-in_err-reached-clause-fault : goal.returns-in_err-reached-clause-fault
returns-in_err-reached-clause-fault c = λ kind at is.
    let p = err_from_is_err_and c.from_residual.result c.from_residual.ensures.1 in
    telling.told_fault c.carry_laws.ensures.tells c.args.turns (program_tree c.args.program) c.from_residual.result c.in_err-reached.field-0.0 kind at c.in_err-reached.ensures.answer
    (p.1 ∙ ap (λ e. Err e) p.2) is

pub scale_in-scale-requires : goal.scale_in-scale-requires
scale_in-scale-requires c = rw c.as_slice.ensures.value (product (shape_sizes c.args.program.shape), c.in_ok-reached.ensures.ways.0)

pub returns-then-scale-ge-PASSED-clause-scale : goal.returns-then-scale-ge-PASSED-clause-scale
returns-then-scale-ge-PASSED-clause-scale c = λ same.
    let tells = c.carry_laws.ensures.tells in
    let p = program_tree c.args.program in
    let es = c.in_ok-reached.reached.items in
    let is = rw c.as_slice.ensures.value at c.scale_in-scale.ensures in
    let reached = c.in_ok-reached.ensures.answer in (
      telling.told_clear tells c.args.turns p es c.scale_in-scale.result reached is,
      telling.told_passed tells c.args.turns p es c.scale_in-scale.result reached is (omega arith),
    )

pub invariant_of-result : goal.invariant_of-result
invariant_of-result c =
    let tells = c.carry_laws.ensures.tells in
    let p = program_tree c.args.program in
    let es = c.in_ok-reached.reached.items in
    let is = rw c.as_slice.ensures.value at c.scale_in-scale.ensures in
    let reached = c.in_ok-reached.ensures.answer in
    record {
      checked = ∣ c.requires.checked ∣₁;
      some_turns = c.requires.some_turns;
      few_turns = c.requires.few_turns;
      clear = telling.told_clear tells c.args.turns p es c.scale_in-scale.result reached is;
      scale_is = telling.told_scale tells c.args.turns p es c.scale_in-scale.result reached is (omega arith);
      fits = omega arith;
    }
