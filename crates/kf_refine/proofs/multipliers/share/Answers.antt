use Rattle.std.proofs.Common.{◌<◌, ◌/◌, ◌^◌, arith}
use Rattle.std.proofs.Math.Nat.{div-le_self}
use Rattle.std.proofs.lemmas.Int.{to_z_pos}
use mir.Syntax.{w128}
use Rattle.kf_refine.proofs.Tabling.{share_is}
use Rattle.kf_refine.proofs.multipliers.share.Goals as goal

pub returns-clause-value : goal.returns-clause-value
returns-clause-value c =
    let small : c.args.number / c.args.divisor < 2 ^ 127 = omega (arith, div-le_self c.args.number c.args.divisor) in
    share_is c.args.divisor c.args.number _ (to_z_pos w128 (c.args.number / c.args.divisor) small) c.requires.divides
