use Rattle.std.proofs.Common.{rules, ◌≡◌, ◌<◌, ◌≤◌, List, All, length, get_or, to_z, of_z, sym, ◌∙◌, ap, subst}
use Rattle.std.specs.Prelude.{ℤ, ◌-ℤ◌, unsigned_abs, FitsSigned, IsPermutation}
use Rattle.std.specs.Int.{w128}
use borrow.Author.Tests.{tests}
use Rattle.std.proofs.lemmas.Int.{to_z-of_z}
use Rattle.std.proofs.lemmas.List.Sorted.{IsNonDecreasingBy-from_sort_by_key}
use Rattle.kf_frac.specs.Fractions.{limit}
use Rattle.kf_gain.specs.declared.table.Action.{Action}
use Rattle.kf_gain.specs.declared.table.GainEntry.{GainEntry}
use Rattle.kf_gain.specs.Views.{table_tree}
use Rattle.kf_cert.specs.declared.gain_rules.excess.Excess.{Excess}
use Rattle.kf_cert.proofs.Exceeding.{more_made, all_made, are_excesses}
use Rattle.kf_cert.proofs.Gaining.{action_fits}
use Rattle.kf_cert.proofs.gain_rules.excess.excesses.Goals as goal

pub add_action-requires : goal.add_action-requires
add_action-requires c =
    let t = table_tree c.args.table.now in
    let k = c.loop-action.action in
    let a : Action = c.index-actions-action.result in
    let all = c.as_slice-actions.ensures in
    let inside : k < length t.actions = subst (λ (l : List Action). k < length l) all c.loop-action-test.true in
    let is : a ≡ get_or t.actions k a = subst (λ (l : List Action). a ≡ get_or l k a) all c.index-actions-action.is in
    let fits : FitsSigned w128 t.rest = search rules in
    let named : c.as_slice-gains.result.now ≡ a.gains = c.as_slice-gains.ensures ∙ ap (λ (a : Action). a.gains) (sym c.index-actions-action.is) in
    subst (λ (l : List GainEntry). All (λ (e : GainEntry). unsigned_abs (e.gain -ℤ to_z w128 (of_z w128 t.rest)) ≤ limit) l) (sym named)
    (subst (λ (z : ℤ). All (λ (e : GainEntry). unsigned_abs (e.gain -ℤ z) ≤ limit) a.gains) (sym (to_z-of_z w128 t.rest fits)) (action_fits t k limit a inside (sym is) c.requires))

pub loop-action-preserved : goal.loop-action-preserved
loop-action-preserved c =
    let t = table_tree c.args.table.now in
    let k = c.loop-action.action in
    let a : Action = c.index-actions-action.result in
    let all = c.as_slice-actions.ensures in
    let inside : k < length t.actions = subst (λ (l : List Action). k < length l) all c.loop-action-test.true in
    let is : a ≡ get_or t.actions k a = subst (λ (l : List Action). a ≡ get_or l k a) all c.index-actions-action.is in
    let fits : FitsSigned w128 t.rest = search rules in
    let named : c.as_slice-gains.result.now ≡ a.gains = c.as_slice-gains.ensures ∙ ap (λ (a : Action). a.gains) (sym c.index-actions-action.is) in
    more_made t.rest _ t.actions k a c.as_slice-gains.result.now c.loop-action.excesses.items _ _ inside is named (to_z-of_z w128 t.rest fits) c.in_ok-add_action.ensures c.loop-action.invariant

pub returns : goal.returns
returns c =
    let t = table_tree c.args.table.now in
    let past : length t.actions ≤ c.loop-action.action = subst (λ (l : List Action). length l ≤ c.loop-action.action) c.as_slice-actions.ensures c.loop-action-test.false in
    let made = all_made t.rest t.actions c.loop-action.action c.loop-action.excesses.items _ past c.loop-action.invariant in
    let sorted = c.sort_unstable_by_key.new.self.items in
    are_excesses t sorted c.args.table.now.shape.ascending (subst (λ l. IsPermutation l sorted) made c.sort_unstable_by_key.ensures.permutation)
    (IsNonDecreasingBy-from_sort_by_key (λ (e : Excess). e.value) sorted c.sort_unstable_by_key.ensures.sorted (λ a r q k. search (rules, tests)))
