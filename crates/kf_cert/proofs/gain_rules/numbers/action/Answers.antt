use Rattle.std.proofs.Common.{◌≡◌, rules, true, sym, ◌∙◌, ap, subst}
use Rattle.std.specs.List.{AllZip, list_all}
use Rattle.std.proofs.lemmas.List.Sorted.{IsNonDecreasingBy-from_sort_by_key}
use borrow.Author.Tests.{tests}
use Rattle.kf_gain.specs.declared.table.GainEntry.{GainEntry}
use Rattle.kf_gain.specs.Tables.{is_value_text}
use Rattle.kf_json.specs.Rules.{are_distinct}
use Rattle.kf_value.specs.Views.{items_of}
use Rattle.kf_cert.specs.Naming.{IsEntryOf, texts_of}
use Rattle.kf_cert.proofs.NamedEntries.{action_made}
use Rattle.kf_cert.proofs.gain_rules.numbers.action.Goals as goal

pub returns-clause-some : goal.returns-clause-some
returns-clause-some c =
    let target = items_of c.args.target.now in
    let gains = c.as_slice-2.ensures in
    let entries = subst (λ gs. AllZip (IsEntryOf target) gs c.in-Some.entries.items) gains (rw c.in-Some.is at c.in_ok-entries.ensures.some) in
    let known = subst (λ gs. list_all (is_value_text target) (texts_of gs) ≡ true) gains (rw c.in-Some.is at c.in_ok-entries.ensures.known) in
    let once = ap (λ gs. are_distinct (texts_of gs)) (sym c.as_slice.ensures) ∙ sym c.in_ok-names_once.ensures ∙ c.if-not-branch.false in
    action_made target c.args.named.now c.in-Some.entries.items c.sort_unstable_by_key.new.self.items _ entries c.sort_unstable_by_key.ensures.permutation
    (IsNonDecreasingBy-from_sort_by_key (λ (e : GainEntry). e.value) c.sort_unstable_by_key.new.self.items c.sort_unstable_by_key.ensures.sorted (λ a r q k. search (rules, tests)))
    c.in_ok-copy.ensures c.new.ensures (known, once)
