use Rattle.std.proofs.Common.{◌<◌, ◌^◌, ℕ, arith, refl}
use Rattle.std.proofs.lemmas.Int.{to_z_pos, ints}
use mir.Syntax.{w128}
use Rattle.kf_simplex.proofs.CommonFactors.{factor_bound, factor_divides, reduced_row_by}
use Rattle.kf_simplex.proofs.Reducing.{if_ok}
use Rattle.kf_simplex.proofs.rows.primitive.Goals as goal

pub overflow_cast-factor : goal.overflow_cast-factor
overflow_cast-factor c = let b = factor_bound c.args.row.entries.items c.common_factor-factor.result (2 ^ 125) c.args.row.ascending c.common_factor-factor.ensures c.requires in omega (arith, ints)

pub divided-requires-clause-positive : goal.divided-requires-clause-positive
divided-requires-clause-positive c = let b = factor_bound c.args.row.entries.items c.common_factor-factor.result (2 ^ 125) c.args.row.ascending c.common_factor-factor.ensures c.requires in omega (arith, ints)

pub divided-requires-clause-divides : goal.divided-requires-clause-divides
divided-requires-clause-divides c =
    let b = factor_bound c.args.row.entries.items c.common_factor-factor.result (2 ^ 125) c.args.row.ascending c.common_factor-factor.ensures c.requires in
    rw (to_z_pos w128 c.common_factor-factor.result (omega arith)) (factor_divides c.args.row.entries.items c.common_factor-factor.result c.common_factor-factor.ensures)

pub returns-then-factor-gt1 : goal.returns-then-factor-gt1
returns-then-factor-gt1 c =
    let b = factor_bound c.args.row.entries.items c.common_factor-factor.result (2 ^ 125) c.args.row.ascending c.common_factor-factor.ensures c.requires in
    if_ok _ _ c.divided.result
    (λ new h. reduced_row_by c.args.row.entries.items new.entries.items c.common_factor-factor.result c.common_factor-factor.result c.args.row.ascending c.common_factor-factor.ensures
    (omega arith) (λ _. refl) (rw (to_z_pos w128 c.common_factor-factor.result (omega arith)) at h))
    c.divided.ensures

pub returns-else-factor-gt1 : goal.returns-else-factor-gt1
returns-else-factor-gt1 c =
    reduced_row_by c.args.row.entries.items c.args.row.entries.items c.common_factor-factor.result 1 c.args.row.ascending c.common_factor-factor.ensures
    (omega arith) (λ (h : 0 < c.common_factor-factor.result). omega arith) (λ (k : ℕ). omega (arith, ints))
