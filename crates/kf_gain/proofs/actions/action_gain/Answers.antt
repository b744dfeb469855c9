use Rattle.std.proofs.Common.{rules, ◌≡◌, List, subst, get_or}
use Rattle.std.specs.Prelude.{FitsSigned}
use Rattle.std.specs.Int.{w128}
use Rattle.std.proofs.lemmas.Int.{to_z-of_z}
use Rattle.kf_frac.specs.Fractions.{limit}
use Rattle.kf_gain.specs.declared.table.Action.{Action}
use Rattle.kf_gain.specs.Views.{table_tree}
use Rattle.kf_gain.proofs.Acting.{action_fits}
use Rattle.kf_gain.proofs.actions.action_gain.Goals as goal

pub gained-requires-clause-fits : goal.gained-requires-clause-fits
gained-requires-clause-fits c =
    let fits : FitsSigned w128 c.args.table.now.rest = search rules in
    let a : Action = c.index-as_slice-k.result in
    let is : a ≡ get_or c.args.table.now.actions c.args.k a = subst (λ (l : List Action). a ≡ get_or l c.args.k a) c.as_slice.ensures c.index-as_slice-k.is in
    action_fits (table_tree c.args.table.now) a c.as_slice-2.result.now c.args.entries.now c.args.k limit _ (to_z-of_z w128 c.args.table.now.rest fits) c.as_slice-2.ensures
    c.requires.action is c.requires.fits
