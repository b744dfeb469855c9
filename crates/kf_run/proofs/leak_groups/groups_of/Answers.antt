use Rattle.std.proofs.Common.{[], ◌∷◌, ◌++◌, get_or, map, take, ap, subst, sym, ◌∙◌, rules}
use Rattle.std.proofs.lemmas.List.{map-append, take_more}
use Rattle.kf_run.specs.Groups.{AreGroupsOf}
use Rattle.kf_run.specs.Ways.{leaked}
use Rattle.kf_run.proofs.leak_groups.groups_of.Goals as goal

pub loop-leak-preserved : goal.loop-leak-preserved
loop-leak-preserved c =
    let ls = c.args.leaks.now in
    let i = c.loop-leak.leak-index in
    let l = c.leak-item.result in
    let more = ap (map leaked) (take_more ls i l c.loop-leak-test.true) ∙ map-append leaked (take i ls) (get_or ls i l ∷ []) ∙ ap (λ m. map leaked (take i ls) ++ leaked m ∷ []) (sym c.leak-item.is) in
    subst (λ ways. AreGroupsOf ways c.join.new.groups.items) (sym more) (c.in_ok-join.ensures (search rules) (map leaked (take i ls)) c.loop-leak.invariant)
