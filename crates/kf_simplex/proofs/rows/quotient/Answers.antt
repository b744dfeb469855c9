use Rattle.std.proofs.Common.{◌≡◌, FitsSigned, rules}
use Rattle.std.proofs.lemmas.Int.{to_z-of_z, quot_fits}
use lib.Signed.{quot_z}
use mir.Syntax.{w64, w128}
use Rattle.kf_simplex.proofs.FlatRows.{exact_quotient}
use Rattle.kf_simplex.proofs.rows.quotient.Goals as goal

pub returns-in_default : goal.returns-in_default
returns-in_default c =
    let x : FitsSigned w128 c.args.x = c.ranges.x in
    let g : FitsSigned w128 c.args.g = c.ranges.g in
    let q : FitsSigned w128 (quot_z c.args.x c.args.g) = quot_fits w128 c.args.x c.args.g x c.requires.positive in
    simp to_z-of_z (exact_quotient c.args.x c.args.g c.requires.positive c.requires.divides)

pub returns-in-Ok-Ok : goal.returns-in-Ok-Ok
returns-in-Ok-Ok c =
    let x : FitsSigned w128 c.args.x = c.ranges.x in
    let g : FitsSigned w128 c.args.g = c.ranges.g in
    let n = simp to_z-of_z at c.in-Ok-Ok.ensures in
    let m = simp to_z-of_z at c.in-Ok-Ok.ensures' in
    let nx : FitsSigned w64 c.in-Ok-Ok.x = rw n.1 n.0 in
    let mg : FitsSigned w64 c.in-Ok-Ok.g = rw m.1 m.0 in
    let q : FitsSigned w64 (quot_z c.in-Ok-Ok.x c.in-Ok-Ok.g) = quot_fits w64 c.in-Ok-Ok.x c.in-Ok-Ok.g nx (rw m.1 c.requires.positive) in
    let r : c.from.result ≡ quot_z c.in-Ok-Ok.x c.in-Ok-Ok.g = simp to_z-of_z at c.from.ensures in
    let f : FitsSigned w128 c.from.result = search rules in
    simp to_z-of_z (rw (r, n.1, m.1) (exact_quotient c.args.x c.args.g c.requires.positive c.requires.divides))
