use Rattle.std.proofs.Common.{◌≡◌, ◌∙◌, ◌-◌, ◌<◌, sym, subst, map, arith, length}
use Rattle.kf_value.specs.Views.{value_tree}
use Rattle.kf_value.specs.Values.{truth}
use Rattle.kf_traces.specs.Visits.{last_true}
use Rattle.kf_traces.proofs.Walking.{last_at}
use Rattle.kf_traces.proofs.states.ends_true.Goals as goal

pub returns-in-Some : goal.returns-in-Some
returns-in-Some c =
    let some : 0 < length c.deref.result.now = c.in-Some.ensures.item.3.0 in
    let here = last_at c.deref.result.now (length c.deref.result.now - 1) c.in-Some.value.now (omega arith) (sym c.in-Some.ensures.value) in
    c.is_true.ensures ∙ sym (subst (λ xs. last_true (map value_tree xs) ≡ truth (value_tree c.in-Some.value.now)) c.deref.ensures.value here)
