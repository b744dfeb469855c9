use Rattle.std.proofs.Common.{rules, arith, get_or, FitsSigned}
use Rattle.std.proofs.lemmas.Int.{to_z-of_z}
use mir.Syntax.{w128}
use Rattle.kf_simplex.specs.Entries.{no_entry}
use Rattle.kf_simplex.proofs.Entries.{least_of_both, least_of_first, least_of_second}
use Rattle.kf_simplex.proofs.row.next_pair.Goals as goal

pub returns-then-x-y-clause-least : goal.returns-then-x-y-clause-least
returns-then-x-y-clause-least c =
    let p = c.only_first-then-x-y in
    least_of_first c.args.xs.now c.args.ys.now p.result.xs.now p.result.ys.now p.result.column p.result.x p.result.y (search rules) (search rules) c.requires.first c.requires.second
    c.if-x-y.true p.ensures.column p.ensures.x p.ensures.y p.ensures.xs p.ensures.ys

pub returns-then-y-x-clause-least : goal.returns-then-y-x-clause-least
returns-then-y-x-clause-least c =
    let p = c.only_second-then-y-x in
    least_of_second c.args.xs.now c.args.ys.now p.result.xs.now p.result.ys.now p.result.column p.result.x p.result.y (search rules) (search rules) c.requires.first c.requires.second
    c.if-y-x.true p.ensures.column p.ensures.y p.ensures.x p.ensures.ys p.ensures.xs

pub returns-else-y-x-clause-least : goal.returns-else-y-x-clause-least
returns-else-y-x-clause-least c =
    let x : FitsSigned w128 (get_or c.args.xs.now 0 no_entry).number = search rules in
    let y : FitsSigned w128 (get_or c.args.ys.now 0 no_entry).number = search rules in
    simp to_z-of_z
    (least_of_both c.args.xs.now c.args.ys.now (search rules) (search rules) c.requires.first c.requires.second (omega (arith, c.if-x-y.false, c.if-y-x.false)))
