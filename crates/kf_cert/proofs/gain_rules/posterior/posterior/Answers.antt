use Rattle.std.proofs.Common.{rules, ◌≡◌, ◌*◌, ◌≤◌, List, to_z, of_z, arith, ap}
use Rattle.std.specs.Prelude.{unsigned_abs, FitsSigned}
use Rattle.std.specs.Int.{w128}
use Rattle.std.proofs.lemmas.Int.{to_z-of_z}
use Rattle.kf_frac.specs.Fractions.{limit}
use Rattle.kf_column.specs.Hypers.{Inner}
use Rattle.kf_hyper.specs.Views.{inners_of, scale_of}
use Rattle.kf_gain.specs.Gains.{GainOf, Table, TableTree}
use Rattle.kf_gain.specs.Views.{table_tree}
use Rattle.kf_gain.proofs.Turning.{width_on, room, posterior_fits}
use Rattle.kf_cert.proofs.gain_rules.posterior.posterior.Goals as goal

pub seen-requires : goal.seen-requires
seen-requires c = room (Table (table_tree c.in-Table.table)) (inners_of c.args.h.now) (scale_of c.args.h.now) limit (rw c.in-Table.is at c.in_ok-guarded.ensures.narrow)

pub returns-clause-narrow : goal.returns-clause-narrow
returns-clause-narrow c = c.in_ok-guarded.ensures.narrow

pub returns-in_default : goal.returns-in_default
returns-in_default c = c.posterior.ensures

pub fraction-requires-clause-num : goal.fraction-requires-clause-num
fraction-requires-clause-num c =
    let inners : List Inner = inners_of c.args.h.now in
    let g : GainOf TableTree = Table (table_tree c.in-Table.table) in
    let narrow = rw c.in-Table.is at c.in_ok-guarded.ensures.narrow in
    let fits : scale_of c.args.h.now * width_on g inners ≤ limit = room g inners (scale_of c.args.h.now) limit narrow in
    let ranged : FitsSigned w128 c.in_ok-n.n = search rules in
    let kept : to_z w128 (of_z w128 c.in_ok-n.n) ≡ c.in_ok-n.n = to_z-of_z w128 c.in_ok-n.n ranged in
    omega (arith, ap unsigned_abs kept, posterior_fits _ (scale_of c.args.h.now) g inners limit c.scale.ensures.shape fits c.in_ok-n.n c.in_ok-n.ensures)
