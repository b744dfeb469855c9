use Rattle.std.proofs.Common.{FitsSigned, ℤ, pos, ◌*◌, ◌*ℤ◌, ◌≤◌, ◌<◌, ◌^◌, unsigned_abs, length, take, refl, sym, subst, ap, ◌∙◌, arith}
use Rattle.std.proofs.lemmas.Int.{to_z-of_z, ints}
use mir.Syntax.{w128}
use Rattle.kf_refine.proofs.Tabling.{actions_more, front, front_factor, front_shift, front_some, is_table, table_shape}
use Rattle.kf_refine.proofs.multipliers.table.Goals as goal

pub action-requires-clause-some : goal.action-requires-clause-some
action-requires-clause-some c =
    let e = c.as_slice-multipliers.ensures in
    let f = c.common_factor-factor.ensures in
    front_some (length c.args.kept.now) c.args.inners c.as_slice-multipliers.result.now c.args.multipliers.now
    c.least_shift-shift.result c.common_factor-factor.result e c.requires.some
    (front_factor c.as_slice-multipliers.result.now c.args.multipliers.now (length c.args.kept.now * c.args.inners)
    c.least_shift-shift.result c.common_factor-factor.result e c.requires.enough f.shift f.numbers f.greatest)

pub loop-j-preserved : goal.loop-j-preserved
loop-j-preserved c =
    rw c.in_ok-push.ensures.items
    (actions_more c.args.kept.now c.args.inners (take (length c.args.kept.now * c.args.inners) c.as_slice-multipliers.result.now)
    c.least_shift-shift.result c.common_factor-factor.result c.loop-j.j c.loop-j.actions.items c.in_ok-action.field-0
    c.in_ok-action.ensures.is c.in_ok-action.ensures.narrow c.loop-j.invariant)

pub share-requires-clause-some : goal.share-requires-clause-some
share-requires-clause-some c =
    let e = c.as_slice-multipliers.ensures in
    let f = c.common_factor-factor.ensures in
    front_some (length c.args.kept.now) c.args.inners c.as_slice-multipliers.result.now c.args.multipliers.now
    c.least_shift-shift.result c.common_factor-factor.result e c.requires.some
    (front_factor c.as_slice-multipliers.result.now c.args.multipliers.now (length c.args.kept.now * c.args.inners)
    c.least_shift-shift.result c.common_factor-factor.result e c.requires.enough f.shift f.numbers f.greatest)

pub invariant_of-result : goal.invariant_of-result
invariant_of-result c =
    let g : FitsSigned w128 c.share.result = let n = c.share.ensures.narrow in omega (arith, ints) in
    let same = to_z-of_z w128 c.share.result g in
    let inner : 0 < c.args.inners = let l = c.requires.some.3 in omega arith in
    record {
      shape = table_shape c.args.kept.now c.args.inners (take (length c.args.kept.now * c.args.inners) c.as_slice-multipliers.result.now)
          c.least_shift-shift.result c.common_factor-factor.result c.loop-j.j _ c.loop-j-test.false c.loop-j.auto.j-end inner refl
          (subst (λ (z : ℤ). unsigned_abs z ≤ 2 ^ 65) (sym same) c.share.ensures.narrow) c.requires.ascending (rw c.new.ensures c.loop-j.invariant);
    }

pub returns : goal.returns
returns c =
    let e = c.as_slice-multipliers.ensures in
    let s = c.least_shift-shift.ensures in
    let f = c.common_factor-factor.ensures in
    let g : FitsSigned w128 c.share.result = let n = c.share.ensures.narrow in omega (arith, ints) in
    let same = to_z-of_z w128 c.share.result g in
    let factor = front_factor c.as_slice-multipliers.result.now c.args.multipliers.now (length c.args.kept.now * c.args.inners)
    c.least_shift-shift.result c.common_factor-factor.result e c.requires.enough f.shift f.numbers f.greatest in
    is_table c.args.kept.now c.args.inners c.args.multipliers.now (take (length c.args.kept.now * c.args.inners) c.as_slice-multipliers.result.now)
    c.least_shift-shift.result c.common_factor-factor.result c.loop-j.j _ c.loop-j-test.false c.loop-j.auto.j-end
    (front c.as_slice-multipliers.result.now c.args.multipliers.now (length c.args.kept.now * c.args.inners) e)
    (front_shift c.as_slice-multipliers.result.now c.args.multipliers.now (length c.args.kept.now * c.args.inners)
    c.least_shift-shift.result e c.requires.enough s.enough s.least)
    factor
    (front_some (length c.args.kept.now) c.args.inners c.as_slice-multipliers.result.now c.args.multipliers.now
    c.least_shift-shift.result c.common_factor-factor.result e c.requires.some factor)
    refl (ap (λ (z : ℤ). pos c.common_factor-factor.result *ℤ z) same ∙ c.share.ensures.value) (rw c.new.ensures c.loop-j.invariant)
